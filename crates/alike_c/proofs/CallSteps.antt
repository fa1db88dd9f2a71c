-- What calls that words say reply, step by step. Assumes nothing.
use Rattle.std.proofs.Common.{◌≡◌, ℕ, ◌+◌, ◌<◌, Bool, true, false, cond, List, [], ◌∷◌, ◌++◌, map, length, take, get_or, nat_le, Ok, Err, Result, refl, ap, sym, ◌∙◌, append_assoc, append-nil}
use Rattle.std.proofs.lemmas.List.{take_more, map_push}
use Rattle.cards.specs.declared.faults.SideFault.{SideFault}
use Rattle.cards.specs.declared.written_card.WrittenCard.{WrittenCard}
use Rattle.cards.specs.Bytes.{Sides, read_sides, left_after, right_after}
use Rattle.cards.specs.Cards.{contents, system, told as read_told}
use Rattle.cards.specs.Contents.{Contents}
use Rattle.testing.specs.declared.ground.Ground.{Ground}
use Rattle.testing.specs.declared.ground.Split.{Split}
use Rattle.testing.specs.declared.distinguishing.DistinguishingTest.{DistinguishingTest}
use Rattle.testing.specs.Filling.{held, test_meant}
use Rattle.testing.specs.TestsLawful.{test_count}
use Rattle.comparison.specs.declared.refusal.Refusal.{Refusal}
use Rattle.comparison.specs.declared.refusal.Refusal.TheVariants.{LongTrace}
use Rattle.comparison.specs.Pairs.{PairSystem}
use Rattle.comparison.specs.Comparing.{Pair}
use Rattle.comparison.specs.Exploration.{Answer, open', alike, full, apart, State}
use Rattle.comparison.specs.Filled.{fill_reply, fill_after}
use Rattle.printing.specs.Experiments.{card_of}
use Rattle.reports.specs.Told.{two_meant}
use Rattle.alike_c.specs.declared.calls.Request.{Request}
use Rattle.alike_c.specs.CallReplies.{filled_words, said, words_of, state_after, words_from, state_from, systems_words, words_told, calls_words}
use Rattle.alike_c.specs.CardReplies.{word}

-- a filled test has two states more than the trace has actions
pub filled : (o : Answer Split) (s : List ℕ) (t : DistinguishingTest) (old : Ground × List ℕ) → Ok tt ≡ fill_reply o s → held t ≡ fill_after o s old
    → 2 ∷ word (test_meant t).system.count ∷ [] ≡ filled_words s (fill_reply o s)
filled open' s t old k e = absurd cc
filled alike s t old k e = absurd cc
filled full s t old k e = absurd cc
filled (apart v) s t old k e = by (nat_le (length s) 62) k e
  where
    by : (b : Bool) → ◌≡◌ {A = Result (Unit {0}) Refusal} (Ok tt) (cond b (Ok tt) (Err LongTrace)) → held t ≡ cond b (v.ground, s) old
        → 2 ∷ word (test_meant t).system.count ∷ [] ≡ filled_words s (cond b (Ok tt) (Err LongTrace))
    by true k e = ap (λ (n : ℕ). 2 ∷ word n ∷ []) (test_count t.ground t.trace.items ∙ ap (λ (h : Ground × List ℕ). length h.1 + 2) e)
    by false k e = absurd cc

-- calls and one more
module _ (S : PairSystem Pair Split) where
  pub no_words : (st : State Pair Split) → words_from S st [] ≡ []
  unfolding words_from
  no_words st = refl

  pub no_state : (st : State Pair Split) → state_from S st [] ≡ st
  unfolding state_from
  no_state st = refl

  state_more : (st : State Pair Split) (rs : List Request) (r : Request) → state_from S st (rs ++ (r ∷ [])) ≡ state_after S r (state_from S st rs)
  unfolding state_from
  state_more st [] r = refl
  state_more st (q ∷ rs) r = state_more (state_after S q st) rs r

  words_more : (st : State Pair Split) (rs : List Request) (r : Request) → words_from S st (rs ++ (r ∷ [])) ≡ words_from S st rs ++ words_of S r (state_from S st rs)
  unfolding words_from state_from
  words_more st [] r = append-nil (words_of S r st)
  words_more st (q ∷ rs) r =
      ap (λ (ws : List ℕ). words_of S q st ++ ws) (words_more (state_after S q st) rs r)
      ∙ sym (append_assoc (words_of S q st) (words_from S (state_after S q st) rs) (words_of S r (state_from S (state_after S q st) rs)))

  pub state_next : (st : State Pair Split) (ps : List (List ℕ)) (i : ℕ) (d : List ℕ) → i < length ps
      → state_from S st (map said (take (i + 1) ps)) ≡ state_after S (said (get_or ps i d)) (state_from S st (map said (take i ps)))
  state_next st ps i d l =
      ap (λ (rs : List Request). state_from S st rs) (ap (map said) (take_more ps i d l) ∙ map_push said (take i ps) (get_or ps i d))
      ∙ state_more st (map said (take i ps)) (said (get_or ps i d))

  pub words_next : (st : State Pair Split) (ps : List (List ℕ)) (i : ℕ) (d : List ℕ) → i < length ps
      → words_from S st (map said (take (i + 1) ps)) ≡ words_from S st (map said (take i ps)) ++ words_of S (said (get_or ps i d)) (state_from S st (map said (take i ps)))
  words_next st ps i d l =
      ap (λ (rs : List Request). words_from S st rs) (ap (map said) (take_more ps i d l) ∙ map_push said (take i ps) (get_or ps i d))
      ∙ words_more st (map said (take i ps)) (said (get_or ps i d))

-- what is replied of the cards that two files were read into
pub files_replied : (left right calls : List ℕ) (lo ro : Contents) (l r : WrittenCard) → Ok tt ≡ read_told (read_sides left right) → contents l ≡ left_after lo (read_sides left right)
    → contents r ≡ right_after ro (read_sides left right) → systems_words (system l) (system r) calls ≡ calls_words left right calls
files_replied left right calls lo ro l r = by (read_sides left right)
  where
    by : (o : Result Sides SideFault) → Ok tt ≡ read_told o → contents l ≡ left_after lo o → contents r ≡ right_after ro o
        → systems_words (system l) (system r) calls ≡ words_told (two_meant o) calls
    by (Ok s) k p q = λ i. systems_words (card_of (p i)) (card_of (q i)) calls
    by (Err f) k p q = absurd cc
