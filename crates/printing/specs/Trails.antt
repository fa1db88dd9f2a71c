-- Where a trace leads, as text. Assumes nothing.
use Rattle.std.specs.Prelude.{ℕ, Bool, cond, List, [], ◌∷◌, ◌++◌, Ok, Err, codes, decimal, Result}
use Rattle.std.specs.List.{flat_map}
use Rattle.lts.specs.Sets.{members}
use Rattle.lts.specs.System.{System}
use Rattle.traces.specs.Macrostates.{Macrostate, macrostate}
use Rattle.traces.specs.Families.{minimal}
use Rattle.cards.specs.declared.faults.CardFault.{CardFault}
use Rattle.cards.specs.declared.lines.Role.TheVariants.{Card}
use Rattle.cards.specs.Bytes.{read_bytes}
use Rattle.cards.specs.Contents.{Contents}
use Rattle.cards.specs.Lines.{system_of}
use Rattle.printing.specs.Answers.{yes_or_no}
use Rattle.printing.specs.Shown.{newline, fault_text}

-- numbers, each after a blank
abbrev pub blanked_text : List ℕ → List ℕ
blanked_text ns = flat_map (λ n. codes " " ++ decimal n) ns

-- the same, and a dash where there is no number
abbrev pub numbers_text : List ℕ → List ℕ
numbers_text [] = codes " -"
numbers_text (n ∷ ns) = blanked_text (n ∷ ns)

-- a line for a set of actions
abbrev pub accept_text : ℕ → List ℕ
accept_text s = codes "accepts" ++ (numbers_text (members s) ++ newline)

-- a line for each of the sets
abbrev pub accepts_text : List ℕ → List ℕ
accepts_text ss = flat_map accept_text ss

abbrev pub convergent_text : Bool → List ℕ
convergent_text b = codes "\nconvergent " ++ (yes_or_no b ++ newline)

-- the trace s, the states q after it, whether these are convergent, and sets of actions
abbrev pub trail_text : List ℕ → ℕ → Bool → List ℕ → List ℕ
trail_text s q convergent sets =
    codes "trace" ++ (numbers_text s ++ (codes "\nstates" ++ (numbers_text (members q) ++ (convergent_text convergent ++ accepts_text sets))))

-- the trace s and the macrostate x of m after it: the states that m may be in and, where it is convergent, the minimal acceptance sets
abbrev pub macrostate_text : System → List ℕ → Macrostate → List ℕ
macrostate_text m s x = trail_text s x.states x.convergent (cond x.convergent (minimal m x.states) [])

-- what is known of m after the trace s
unfoldable pub known_text : System → List ℕ → List ℕ
known_text m s = macrostate_text m s (macrostate m s)

-- what is shown of a file and a trace
abbrev pub known_or_fault : Result Contents CardFault → List ℕ → List ℕ
known_or_fault (Ok c) s = known_text (system_of c.states c.start c.lines) s
known_or_fault (Err e) s = fault_text e.word

abbrev pub trace_text : List ℕ → List ℕ → List ℕ
trace_text bs s = known_or_fault (read_bytes Card bs) s
