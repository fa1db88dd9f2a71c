-- What a comparison's calls tell, as the line that is printed of it. Assumes nothing.
use Rattle.std.proofs.Common.{◌≡◌, ℕ, ◌≢◌, Bool, true, false, cond, List, length, take, Some, None, Option, Ok, Err, Result, leb, refl, ap, ◌∙◌}
use Rattle.std.specs.Result.{result_unwrap_or}
use Rattle.lts.specs.System.{System}
use Rattle.cards.specs.declared.faults.SideFault.{SideFault}
use Rattle.cards.specs.declared.written_card.WrittenCard.{WrittenCard}
use Rattle.cards.specs.Bytes.{Sides, read_sides, left_after, right_after}
use Rattle.cards.specs.Cards.{contents, system, told as read_told}
use Rattle.cards.specs.Contents.{Contents}
use Rattle.testing.specs.declared.ground.Split.{Split}
use Rattle.comparison.specs.declared.answer.Progress.{Progress}
use Rattle.comparison.specs.declared.comparison.Comparison.{Comparison}
use Rattle.comparison.specs.declared.refusal.Refusal.{Refusal}
use Rattle.comparison.specs.declared.refusal.Refusal.TheVariants.{ShortBuffer}
use Rattle.comparison.specs.Pairs.{PairSystem}
use Rattle.comparison.specs.Exploration.{Answer, open', alike, full, apart, State, told_trace}
use Rattle.comparison.specs.Calls.{Advance, Ask, Copy, Reply, copied, refused, unless_apart, reply, state_after, history_from}
use Rattle.comparison.specs.Compared.{pairs_of, state_of, SameSystems, Opened}
use Rattle.comparison.specs.Comparing.{pairs}
use Rattle.comparison.specs.Replies.{answer_of, told_by, copy_reply}
use Rattle.printing.specs.Experiments.{card_of}
use Rattle.reports.specs.Told.{Told, trace_at, told_in, compared, two_meant, told_of}
use Rattle.reports.specs.Printed.{answer_text, line, files_line}

-- what stands at the head of a buffer after a copy: the trace that was written, and nothing where it was refused
abbrev pub copied_part : Result ℕ Refusal → List ℕ → List ℕ
copied_part r buffer = take (result_unwrap_or r 0) buffer

-- what is told by asking and copying, as text
module _ {X : Type 0} (S : PairSystem X Split) (st : State X Split) (n : ℕ) where
  by_refusal : Option Refusal → Reply Split
  by_refusal w = elim w [ None ↦ copied (length (told_trace st)) (told_trace st) | Some r ↦ refused r ]

  trace_copied : (v : Split) (r : Result ℕ Refusal) (buffer : List ℕ) → st.answer ≡ apart v → r ≢ Err ShortBuffer → copy_reply r buffer ≡ reply S (Copy n) st → copied_part r buffer ≡ told_trace st
  unfolding by_refusal
  trace_copied v r buffer a room e = by (leb (length (told_trace st)) n) r room (e ∙ ap by_refusal (ap (λ (o : Answer Split). unless_apart o (leb (length (told_trace st)) n)) a))
    where
      by : (b : Bool) (r : Result ℕ Refusal) → r ≢ Err ShortBuffer → copy_reply r buffer ≡ by_refusal (cond b None (Some ShortBuffer)) → copied_part r buffer ≡ told_trace st
      by true (Ok m) room q = cc
      by true (Err f) room q = absurd cc
      by false (Ok m) room q = absurd cc
      by false (Err f) room q = absurd (room cc)

  pub text_told : (p : Progress) (r : Result ℕ Refusal) (buffer : List ℕ) → told_by p ≡ reply S Ask st → copy_reply r buffer ≡ reply S (Copy n) st → r ≢ Err ShortBuffer
      → answer_text (answer_of p.answer) p.rows (copied_part r buffer) ≡ answer_text st.answer (length st.rows) (trace_at st.answer (told_trace st))
  text_told p r buffer asked copy room = by st.answer refl
    where
      answer : answer_of p.answer ≡ st.answer
      answer = cc

      rows : p.rows ≡ length st.rows
      rows = cc

      by : (o : Answer Split) → st.answer ≡ o → answer_text (answer_of p.answer) p.rows (copied_part r buffer) ≡ answer_text o (length st.rows) (trace_at o (told_trace st))
      by open' e = rw (answer, e, rows) refl
      by alike e = rw (answer, e, rows) refl
      by full e = rw (answer, e, rows) refl
      by (apart v) e = rw (answer, e, rows, trace_copied v r buffer e room copy) refl

-- what is told after opening and an advance by 2,048
pub compared_by : (l r : System) (c d : Comparison) → Opened l r c → SameSystems c d → state_of d ≡ state_after (pairs_of c) (Advance 2048) (state_of c) → told_in (state_of d) ≡ compared 2048 l r
unfolding history_from
compared_by l r c d o same after =
    let both : pairs_of c ≡ pairs l r = λ i. pairs (o.left i) (o.right i) in
    ap told_in (after ∙ (λ i. state_after (both i) (Advance 2048) (o.begun i)))

-- what is told of the cards that two files were read into
pub files_told : (left right : List ℕ) (lo ro : Contents) (l r : WrittenCard) (t : Told) → Ok tt ≡ read_told (read_sides left right) → contents l ≡ left_after lo (read_sides left right)
    → contents r ≡ right_after ro (read_sides left right) → t ≡ compared 2048 (system l) (system r) → line (Ok t) ≡ files_line left right
files_told left right lo ro l r t = by (read_sides left right)
  where
    by : (o : Result Sides SideFault) → Ok tt ≡ read_told o → contents l ≡ left_after lo o → contents r ≡ right_after ro o → t ≡ compared 2048 (system l) (system r)
        → line (Ok t) ≡ line (told_of 2048 (two_meant o))
    by (Ok s) k p q e = ap (λ (x : Told). line (Ok x)) (e ∙ (λ i. compared 2048 (card_of (p i)) (card_of (q i))))
    by (Err f) k p q e = absurd cc
