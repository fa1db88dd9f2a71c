-- What a comparison of two systems, or of two card files, tells when it has gone as far as it goes. Assumes nothing.
use Rattle.std.specs.Prelude.{ℕ, List, [], ◌∷◌, length, Ok, Err, Result}
use Rattle.lts.specs.System.{System}
use Rattle.cards.specs.declared.faults.SideFault.{SideFault}
use Rattle.cards.specs.Bytes.{Sides, read_sides}
use Rattle.testing.specs.declared.ground.Split.{Split}
use Rattle.printing.specs.Experiments.{card_of}
use Rattle.comparison.specs.Exploration.{Answer, open', alike, full, apart, State, told_trace}
use Rattle.comparison.specs.Calls.{Begin, Advance, history}
use Rattle.comparison.specs.Comparing.{Pair, pairs}

-- the answer, the number of rows and, at APART, the trace
pub record Told : Type 0 where
  pub answer : Answer Split
  pub rows : ℕ
  pub trace : List ℕ

abbrev pub trace_at : Answer Split → List ℕ → List ℕ
trace_at open' s = []
trace_at alike s = []
trace_at full s = []
trace_at (apart v) s = s

abbrev pub told_in : State Pair Split → Told
told_in st = record { answer = st.answer; rows = length st.rows; trace = trace_at st.answer (told_trace st) }

-- what is told of two systems after a begin with the limit and an advance by 2,048
abbrev pub compared : ℕ → System → System → Told
compared limit l r = told_in (history (pairs l r) (Begin limit ∷ Advance 2048 ∷ [])).state

pub record Two : Type 0 where
  pub left : System
  pub right : System

abbrev pub two_meant : Result Sides SideFault → Result Two SideFault
two_meant (Ok s) = Ok (record { left = card_of s.left; right = card_of s.right })
two_meant (Err e) = Err e

-- the systems of two card files, given by their bytes, or the first fault
abbrev pub files : List ℕ → List ℕ → Result Two SideFault
files left right = two_meant (read_sides left right)

-- what is told of them
abbrev pub told_of : ℕ → Result Two SideFault → Result Told SideFault
told_of limit (Ok s) = Ok (compared limit s.left s.right)
told_of limit (Err e) = Err e
