-- Reading words: which card they stand for, or which fault is found first. Assumes nothing.
use Rattle.std.specs.Prelude.{ℕ, ◌+◌, ◌-◌, Bool, true, cond, ◌&&◌, List, [], ◌∷◌, Some, None, Ok, Err, Option, Result, ◌==◌, nat_le, nat_lt}
use Rattle.cards.specs.declared.faults.Reason.{Reason}
use Rattle.cards.specs.declared.faults.Reason.TheVariants.{Missing, Kind, Range, Order, Lines, Trailing}
use Rattle.cards.specs.declared.faults.WordFault.{WordFault}
use Rattle.cards.specs.declared.lines.Body.{Body}
use Rattle.cards.specs.declared.lines.Head.{Head}
use Rattle.cards.specs.declared.lines.Line.{Line as LineT}
use Rattle.cards.specs.declared.lines.Progress.{Progress}
use Rattle.cards.specs.declared.lines.Progress.TheVariants.{Start, Inside, Ended}
use Rattle.cards.specs.declared.lines.Role.{Role}
use Rattle.cards.specs.declared.lines.Role.TheVariants.{Test}
use Rattle.cards.specs.declared.lines.Word.{Word}
use Rattle.cards.specs.declared.lines.Word.TheVariants.{Line, Passing, End}
use Rattle.cards.specs.Words.{bits, kind, head_word, decode}

abbrev pub fault : {A : Type 0} → Reason → ℕ → Result A WordFault
fault r i = Err (record { reason = r; place = i })

-- what a head word says
abbrev pub head_of : ℕ → Head
head_of w = record { lines = bits w 16 12; start = bits w 8 8; states = bits w 0 8 }

-- 1 to 64 states, the start one of them, at most 256 lines
abbrev pub head_fits : Head → Bool
head_fits h = nat_lt 0 h.states && nat_le h.states 64 && nat_lt h.start h.states && nat_le h.lines 256

-- the first word
abbrev pub checked_head : ℕ → Result Head Reason
checked_head w = cond (kind w == 1) (cond (head_fits (head_of w)) (Ok (head_of w)) (Err Range)) (Err Kind)

-- the word of a head, where its numbers are in range
abbrev pub encoded_head : Head → Result ℕ Reason
encoded_head h = cond (head_fits h) (Ok (head_word h.lines h.start h.states)) (Err Range)

-- the states that a part names are below the number of states
abbrev pub within : ℕ → Word → Bool
within n (Line l) = nat_lt l.from n && nat_lt l.to n
within n (Passing q) = nat_lt q n
within n End = true

-- a line may still come; or, at the end, none is left to come
abbrev pub counted : ℕ → Word → Bool
counted left (Line l) = nat_lt 0 left
counted left (Passing q) = true
counted left End = left == 0

-- a word w after what is known: the checks in their order
abbrev pub judged : Body → ℕ → Option Word → Result Word Reason
judged b w None = Err Kind
judged b w (Some x) =
    cond (within b.head.states x) (cond (nat_lt b.last w) (cond (counted b.left x) (Ok x) (Err Lines)) (Err Order)) (Err Range)

-- what is known after a part
abbrev pub moved : Body → ℕ → Word → Progress
moved b w (Line l) = Inside (record { head = b.head; last = w; left = b.left - 1 })
moved b w (Passing q) = Inside (record { head = b.head; last = w; left = b.left })
moved b w End = Ended b.head

abbrev pub begun : ℕ → Result Head Reason → Result Progress Reason
begun w (Ok h) = Ok (Inside (record { head = h; last = w; left = h.lines }))
begun w (Err e) = Err e

abbrev pub onward : Body → ℕ → Result Word Reason → Result Progress Reason
onward b w (Ok x) = Ok (moved b w x)
onward b w (Err e) = Err e

-- one word more
abbrev pub step : Role → Progress → ℕ → Result Progress Reason
step role Start w = begun w (checked_head w)
step role (Inside b) w = onward b w (judged b w (decode role w))
step role (Ended h) w = Err Trailing

-- no word more
abbrev pub ended : Progress → Result Head Reason
ended Start = Err Missing
ended (Inside b) = Err Missing
ended (Ended h) = Ok h

-- the same with the place at which a refusal is told
abbrev pub at_place : {A : Type 0} → ℕ → Result A Reason → Result A WordFault
at_place i (Ok x) = Ok x
at_place i (Err r) = fault r i

-- the words from place i on
abbrev pub and_then : {A B : Type 0} → (A → Result B WordFault) → Result A WordFault → Result B WordFault
and_then k (Ok x) = k x
and_then k (Err e) = Err e

unfoldable pub check_from : Role → Progress → ℕ → List ℕ → Result Head WordFault
check_from role p i [] = at_place i (ended p)
check_from role p i (w ∷ ws) = and_then (λ p'. check_from role p' (i + 1) ws) (at_place i (step role p w))

-- the head, if all words are good, or the first fault
abbrev pub check : Role → List ℕ → Result Head WordFault
check role ws = check_from role Start 0 ws

-- the lines and the passing states that words name, in their order
abbrev pub as_line : Option Word → List LineT → List LineT
as_line None ls = ls
as_line (Some (Line l)) ls = l ∷ ls
as_line (Some (Passing q)) ls = ls
as_line (Some End) ls = ls

unfoldable pub lines_in : List ℕ → List LineT
lines_in [] = []
lines_in (w ∷ ws) = as_line (decode Test w) (lines_in ws)

abbrev pub as_passing : Option Word → List ℕ → List ℕ
as_passing None qs = qs
as_passing (Some (Line l)) qs = qs
as_passing (Some (Passing q)) qs = q ∷ qs
as_passing (Some End) qs = qs

unfoldable pub passing_in : List ℕ → List ℕ
passing_in [] = []
passing_in (w ∷ ws) = as_passing (decode Test w) (passing_in ws)
