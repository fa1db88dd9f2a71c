-- What is known after a trace, as text. Assumes nothing.
use Rattle.std.proofs.Common.{◌≡◌, ℕ, cond, List, [], ap, ◌∙◌}
use Rattle.lts.specs.System.{System}
use Rattle.traces.specs.Macrostates.{Macrostate, macrostate}
use Rattle.traces.specs.Families.{minimal}
use Rattle.printing.specs.Trails.{trail_text, macrostate_text, known_text}

-- n stands for m, and x is its macrostate after s
pub known : (m n : System) (s : List ℕ) (x : Macrostate) (sets : List ℕ) → sets ≡ cond x.convergent (minimal n x.states) [] → n ≡ m → x ≡ macrostate n s → trail_text s x.states x.convergent sets ≡ known_text m s
unfolding known_text
known m n s x sets d e f = ap (trail_text s x.states x.convergent) d ∙ ap (macrostate_text n s) f ∙ ap (λ (k : System). macrostate_text k s (macrostate k s)) e
