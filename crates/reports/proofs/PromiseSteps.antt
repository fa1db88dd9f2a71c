-- The line of two card files is right. Assumes nothing.
use Rattle.std.proofs.Common.{◌≡◌, ℕ, ◌≢◌, List, [], ◌∷◌, ◌++◌, Some, None, Ok, Err, Result, IfOk, refl, ap, ◌∙◌, sym, subst, arith}
use Rattle.lts.specs.System.{System, Lawful}
use Rattle.cards.specs.declared.faults.SideFault.{SideFault}
use Rattle.cards.specs.declared.written_card.WrittenCard.{WrittenCard}
use Rattle.cards.specs.Bytes.{Sides, read_sides, left_after, right_after}
use Rattle.cards.specs.Cards.{contents, system, told as read_told}
use Rattle.cards.specs.Contents.{Contents}
use Rattle.cards.specs.Holding.{held_lawful}
use Rattle.testing.specs.declared.ground.Split.{Split}
use Rattle.printing.specs.Experiments.{card_of}
use Rattle.printing.specs.Shown.{newline}
use Rattle.comparison.specs.Exploration.{Answer, open', alike, full, apart, State, told_trace, begin, advance}
use Rattle.comparison.specs.Calls.{Call, Begin, Advance, History, history, history_from, unless_open, limit_after, total_after}
use Rattle.comparison.specs.Comparing.{Pair, pairs}
use Rattle.comparison.specs.Promise.{MainTheorem, RowsTheorem, MoreThan, ApartBy}
use Rattle.reports.specs.Told.{Told, Two, trace_at, compared, two_meant, files, told_of}
use Rattle.reports.specs.Printed.{answer_text, line, files_line}
use Rattle.reports.specs.Promised.{Right, LineRight}

-- what holds of a value, if there is one, from something else that does
pub ok_kept : {T E : Type 0} {P Q : T → Type 0} (r : Result T E) → ((x : T) → P x → Q x) → IfOk r P → IfOk r Q
ok_kept (Ok x) f p = f x p
ok_kept (Err e) f p = p

-- which answer a line tells
abbrev first_code : List ℕ → ℕ
first_code [] = 0
first_code (c ∷ cs) = c

abbrev rest_codes : List ℕ → List ℕ
rest_codes [] = []
rest_codes (c ∷ cs) = cs

says_alike : (t : Told) (n : ℕ) → line (Ok t) ≡ answer_text alike n [] ++ newline → t.answer ≡ alike
says_alike t n = by t.answer
  where
    by : (o : Answer Split) → answer_text o t.rows t.trace ++ newline ≡ answer_text alike n [] ++ newline → o ≡ alike
    by open' e = absurd (omega (arith, ap first_code e))
    by alike e = refl
    by full e = absurd (omega (arith, ap first_code e))
    by (apart v) e = absurd (omega (arith, ap (λ (cs : List ℕ). first_code (rest_codes cs)) e))

-- the advance is refused unless the answer is OPEN
limits : (o : Answer Split) → limit_after (unless_open o) (Advance 2048) 2048 ≡ 2048
limits open' = refl
limits alike = refl
limits full = refl
limits (apart v) = refl

stays : {A : Type 0} (x y : A) (o : Answer Split) → o ≢ open' → (elim (unless_open o) [ None ↦ x | Some r ↦ y ]) ≡ y
stays x y open' n = absurd (n refl)
stays x y alike n = refl
stays x y full n = refl
stays x y (apart v) n = refl

-- of two lawful systems, what is told is right
module _ (promised : MainTheorem) (counted : RowsTheorem) (l r : System) (ll : Lawful l) (lr : Lawful r) where
  abbrev calls : List Call
  calls = Begin 2048 ∷ Advance 2048 ∷ []

  abbrev h : History Pair Split
  h = history (pairs l r) calls

  abbrev begun : State Pair Split
  begun = begin (pairs l r) 2048

  limit_same : h.limit ≡ 2048
  unfolding history_from
  limit_same = limits begun.answer

  total_same : begun.answer ≡ open' → h.total ≡ 2048
  unfolding history_from
  total_same e = ap (λ (o : Answer Split). total_after (unless_open o) (Advance 2048) 0) e

  state_same : begun.answer ≢ open' → h.state ≡ begun
  unfolding history_from
  state_same n = stays (advance (pairs l r) 2048 begun) begun begun.answer n

  closed : h.state.answer ≢ open'
  closed e = by begun.answer refl
    where
      refused : begun.answer ≢ open' → ⊥
      refused n = n (sym (ap (λ (st : State Pair Split). st.answer) (state_same n)) ∙ e)

      by : (o : Answer Split) → begun.answer ≡ o → ⊥
      by open' y = ((promised l r ll lr calls).decided (omega (arith, total_same y))).0 e
      by alike y = refused (λ z. cc)
      by full y = refused (λ z. cc)
      by (apart v) y = refused (λ z. cc)

  pub right : Right l r (compared 2048 l r)
  right =
      let p = promised l r ll lr calls in
      let n = counted l r ll lr calls in
      record {
        at_alike = λ e. (p.at_alike e, n.at_alike e);
        at_apart = λ v e. (subst (λ (s : List ℕ). ApartBy l r s v) (sym (ap (λ (o : Answer Split). trace_at o (told_trace h.state)) e)) (p.at_apart v e), n.at_apart v e);
        at_full = λ e. (subst (λ (k : ℕ). MoreThan l r k) limit_same (p.at_full e), n.at_full e ∙ limit_same);
        never_open = closed;
      }

-- of the cards that two good files were read into
pub read_right : (promised : MainTheorem) (counted : RowsTheorem) (left_bytes right_bytes : List ℕ) (lo ro : Contents) (l r : WrittenCard)
    → Ok tt ≡ read_told (read_sides left_bytes right_bytes) → contents l ≡ left_after lo (read_sides left_bytes right_bytes) → contents r ≡ right_after ro (read_sides left_bytes right_bytes)
    → LineRight left_bytes right_bytes (files_line left_bytes right_bytes)
read_right promised counted lb rb lo ro l r = by (read_sides lb rb) refl
  where
    meant : System → System → Two
    meant a b = record { left = a; right = b }

    kept : (a b : System) → system l ≡ a → system r ≡ b → Right a b (compared 2048 a b)
    kept a b p q =
        let begun = right promised counted (system l) (system r) (held_lawful l) (held_lawful r) in
        subst (λ (m : System). Right a m (compared 2048 a m)) q (subst (λ (m : System). Right m (system r) (compared 2048 m (system r))) p begun)

    of_two : (a b : System) → system l ≡ a → system r ≡ b → files lb rb ≡ Ok (meant a b) → LineRight lb rb (files_line lb rb)
    of_two a b p q e =
        record {
          told = λ two f.
              let same : meant a b ≡ two = cc in (
                compared 2048 two.left two.right,
                ap (λ (x : Result Two SideFault). line (told_of 2048 x)) f,
                kept two.left two.right (p ∙ ap (λ (x : Two). x.left) same) (q ∙ ap (λ (x : Two). x.right) same),
              );
          alike = λ n f.
              let told = sym (ap (λ (x : Result Two SideFault). line (told_of 2048 x)) e) ∙ f in
              (meant a b, e, ((kept a b p q).at_alike (says_alike (compared 2048 a b) n told)).0);
        }

    by : (o : Result Sides SideFault) → read_sides lb rb ≡ o → Ok tt ≡ read_told o → contents l ≡ left_after lo o → contents r ≡ right_after ro o → LineRight lb rb (files_line lb rb)
    by (Ok s) e k p q = of_two (card_of s.left) (card_of s.right) (ap card_of p) (ap card_of q) (ap two_meant e)
    by (Err f) e k p q = absurd cc
