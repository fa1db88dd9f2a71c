-- A list of calls as words, and what is replied, as words. Assumes nothing.
use Rattle.std.specs.Prelude.{ℕ, ◌+◌, ◌/◌, cond, List, [], ◌∷◌, ◌++◌, map, length, Ok, Err, Result, ◌==◌, min, slice_index}
use Rattle.std.specs.Simd.{first_chunks}
use Rattle.lts.specs.System.{System}
use Rattle.cards.specs.declared.faults.SideFault.{SideFault}
use Rattle.cards.specs.declared.faults.SideFault.TheVariants.{Left as InLeft, Right as InRight}
use Rattle.cards.specs.Faults.{number as fault_number}
use Rattle.testing.specs.declared.ground.Side.{Side}
use Rattle.testing.specs.declared.ground.Side.TheVariants.{Left, Right}
use Rattle.testing.specs.declared.ground.Ground.{Ground}
use Rattle.testing.specs.declared.ground.Ground.TheVariants.{Reach, Settle, Offer}
use Rattle.testing.specs.declared.ground.Split.{Split}
use Rattle.testing.specs.Filling.{offer_of}
use Rattle.comparison.specs.declared.refusal.Refusal.{Refusal}
use Rattle.comparison.specs.Pairs.{PairSystem}
use Rattle.comparison.specs.Exploration.{Answer, open', alike, full, apart, State, told_trace}
use Rattle.comparison.specs.Calls as model
use Rattle.comparison.specs.Calls.{Reply, told, copied, refused, number_of}
use Rattle.comparison.specs.Comparing.{Pair, pairs}
use Rattle.comparison.specs.Filled.{fill_reply}
use Rattle.reports.specs.Told.{Two, files}
use Rattle.alike_c.specs.declared.calls.Request.{Request}
use Rattle.alike_c.specs.declared.calls.Request.TheVariants.{Begin, Advance, Ask, Copy, FillTest, Unknown}
use Rattle.alike_c.specs.CardReplies.{word}

-- the call that a kind and a number say
abbrev pub requested : ℕ → ℕ → Request
requested k n =
    cond (k == 1) (Begin n) (cond (k == 2) (Advance n) (cond (k == 3) Ask (cond (k == 4) (Copy n) (cond (k == 5) FillTest Unknown))))

-- the call that two words say
abbrev pub said : List ℕ → Request
said p = requested (slice_index p 0) (slice_index p 1)

-- the calls that words say, two by two; a word left over says none
abbrev pub requests : List ℕ → List Request
requests ws = map said (first_chunks 2 (length ws / 2) ws)

abbrev pub ground_number : Ground → ℕ
ground_number Reach = 1
ground_number Settle = 2
ground_number (Offer O) = 3

abbrev pub side_number : Side → ℕ
side_number Left = 1
side_number Right = 2

-- the number of an answer; its number of rows; the numbers of the ground and the passer, and the offer, 0 where there is none
abbrev pub answer_words : Answer Split → ℕ → List ℕ
answer_words open' n = 0 ∷ 0 ∷ word n ∷ 0 ∷ 0 ∷ 0 ∷ []
answer_words alike n = 0 ∷ 1 ∷ word n ∷ 0 ∷ 0 ∷ 0 ∷ []
answer_words full n = 0 ∷ 2 ∷ word n ∷ 0 ∷ 0 ∷ 0 ∷ []
answer_words (apart v) n = 0 ∷ 3 ∷ word n ∷ ground_number v.ground ∷ side_number v.passer ∷ offer_of v.ground ∷ []

abbrev pub refused_words : Refusal → List ℕ
refused_words r = 3 ∷ number_of r ∷ []

abbrev pub reply_words : Reply Split → List ℕ
reply_words (told a n) = answer_words a n
reply_words (copied n s) = 1 ∷ word n ∷ s
reply_words (refused r) = refused_words r

-- a test filled with the trace s has two states more than that
abbrev pub filled_words : List ℕ → Result (Unit {0}) Refusal → List ℕ
filled_words s (Ok u) = 2 ∷ word (length s + 2) ∷ []
filled_words s (Err r) = refused_words r

-- What a call that words say replies, and the state that it leaves. A copy is given room for 2,048 actions at most, which is always enough.
module _ (S : PairSystem Pair Split) where
  abbrev pub words_of : Request → State Pair Split → List ℕ
  words_of (Begin n) st = reply_words (model.reply S (model.Begin n) st)
  words_of (Advance n) st = reply_words (model.reply S (model.Advance n) st)
  words_of Ask st = reply_words (model.reply S model.Ask st)
  words_of (Copy n) st = reply_words (model.reply S (model.Copy (min n 2048)) st)
  words_of FillTest st = filled_words (told_trace st) (fill_reply st.answer (told_trace st))
  words_of Unknown st = 3 ∷ 0 ∷ []

  abbrev pub state_after : Request → State Pair Split → State Pair Split
  state_after (Begin n) st = model.state_after S (model.Begin n) st
  state_after (Advance n) st = model.state_after S (model.Advance n) st
  state_after Ask st = st
  state_after (Copy n) st = st
  state_after FillTest st = st
  state_after Unknown st = st

  -- calls one after another, the oldest first
  unfoldable pub words_from : State Pair Split → List Request → List ℕ
  words_from st [] = []
  words_from st (r ∷ rs) = words_of r st ++ words_from (state_after r st) rs

  unfoldable pub state_from : State Pair Split → List Request → State Pair Split
  state_from st [] = st
  state_from st (r ∷ rs) = state_from (state_after r st) rs

-- of two systems, after opening
abbrev pub systems_words : System → System → List ℕ → List ℕ
systems_words l r calls = words_from (pairs l r) (model.opened (pairs l r)).state (requests calls)

abbrev pub side_fault_number : SideFault → ℕ
side_fault_number (InLeft f) = fault_number f.card.word.reason
side_fault_number (InRight f) = fault_number f.card.word.reason

-- of two card files: a file with a fault is one refusal
abbrev pub words_told : Result Two SideFault → List ℕ → List ℕ
words_told (Ok s) calls = systems_words s.left s.right calls
words_told (Err e) calls = 3 ∷ side_fault_number e ∷ []

abbrev pub calls_words : List ℕ → List ℕ → List ℕ → List ℕ
calls_words left right calls = words_told (files left right) calls
