-- Any system as text, by its transitions. Assumes nothing.
use Rattle.std.specs.Prelude.{ℕ, zero, suc, ◌+◌, List, [], ◌++◌, codes, decimal}
use Rattle.std.specs.List.{flat_map}
use Rattle.cards.specs.declared.lines.Label.{Label}
use Rattle.cards.specs.declared.lines.Label.TheVariants.{Action, Silent}
use Rattle.lts.specs.Sets.{members}
use Rattle.lts.specs.System.{System}
use Rattle.printing.specs.Shown.{newline, line_text}

-- a line for each state that the label leads to from p
abbrev pub targets_text : ℕ → Label → List ℕ → List ℕ
targets_text p l qs = flat_map (λ q. line_text (record { from = p; label = l; to = q })) qs

-- the texts of n numbers from k on, one after another
unfoldable pub text_from : (ℕ → List ℕ) → ℕ → ℕ → List ℕ
text_from f k zero = []
text_from f k (suc n) = f k ++ text_from f (k + 1) n

-- where the first n actions lead from p, one after another
abbrev pub actions_text : System → ℕ → ℕ → List ℕ
actions_text m p n = text_from (λ a. targets_text p (Action a) (members (m.visible p a))) 0 n

-- where all actions lead from p
abbrev pub visible_text : System → ℕ → List ℕ
visible_text m p = actions_text m p 32

-- where silent transitions lead from p
abbrev pub silent_text : System → ℕ → List ℕ
silent_text m p = targets_text p Silent (members (m.hidden p))

abbrev pub system_head : System → List ℕ
system_head m = codes "states " ++ (decimal m.count ++ (codes " start " ++ (decimal m.start ++ newline)))

-- the states and the start, then each state's transitions by their actions, then the silent ones
unfoldable pub system_text : System → List ℕ
system_text m = system_head m ++ (text_from (visible_text m) 0 m.count ++ text_from (silent_text m) 0 m.count)
