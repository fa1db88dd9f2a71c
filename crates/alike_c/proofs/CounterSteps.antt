-- The text of two counters in a row, case by case. Assumes nothing.
use Rattle.std.proofs.Common.{◌≡◌, ℕ, ◌+◌, ◌<◌, ◌≤◌, Bool, true, false, cond, List, Ok, Err, Result, nat_le, refl, ◌∙◌, le-leb}
use Rattle.std.proofs.lemmas.Bool.{lt-leb}
use Rattle.lts.specs.System.{System}
use Rattle.layers.specs.declared.counter.CounterFault.{CounterFault}
use Rattle.layers.specs.declared.counter.CounterFault.TheVariants.{Capacity, Action}
use Rattle.layers.specs.declared.parallel.FitFault.{FitFault}
use Rattle.layers.specs.declared.parallel.FitFault.TheVariants.{TooLarge}
use Rattle.layers.specs.Counter.{number as capacity_number}
use Rattle.layers.specs.Hiding.{hide}
use Rattle.layers.specs.Parallel.{parallel, fits, fitted, number as fit_number}
use Rattle.reports.specs.Told.{compared}
use Rattle.reports.specs.Printed.{line}
use Rattle.alike_c.specs.Counters.{first_counter, second_counter, both_counter, refused_text, counters_text}

-- what cannot be a counter is refused with one number
pub refused_3 : (f : CounterFault) → capacity_number f ≡ 3
refused_3 Capacity = refl
refused_3 Action = refl

pub refused_7 : (f : FitFault) → fit_number f ≡ 7
refused_7 TooLarge = refl

-- the capacities come to more than 63
pub too_much : (m n : ℕ) → 63 < m + n → refused_text 3 ≡ counters_text m n
unfolding counters_text
too_much m n over = by (nat_le (m + n) 63) (lt-leb (m + n) 63 over) _
  where
    by : (b : Bool) → b ≡ false → (t : List ℕ) → refused_text 3 ≡ cond b t (refused_text 3)
    by true e t = absurd cc
    by false e t = refl

module _ (m n : ℕ) (few : m + n ≤ 63) where
  within : (t : List ℕ) → t ≡ cond (nat_le (m + n) 63) t (refused_text 3)
  within t = by (nat_le (m + n) 63) (le-leb (m + n) 63 few) t
    where
      by : (b : Bool) → b ≡ true → (t : List ℕ) → t ≡ cond b t (refused_text 3)
      by true e t = refl
      by false e t = absurd cc

  -- the two do not fit
  pub too_large : (l r : System) (f : FitFault) → l ≡ first_counter m → r ≡ second_counter n → Err f ≡ fitted l r → refused_text 7 ≡ counters_text m n
  unfolding counters_text
  too_large l r f p q e = by (fits (first_counter m) (second_counter n)) (e ∙ (λ i. fitted (p i) (q i))) _ ∙ within _
    where
      by : (b : Bool) → ◌≡◌ {A = Result (Unit {0}) FitFault} (Err f) (cond b (Ok tt) (Err TooLarge)) → (t : List ℕ) → refused_text 7 ≡ cond b t (refused_text 7)
      by true k t = absurd cc
      by false k t = refl

  -- they do
  pub side_by_side : (h s : ℕ) (l r b : System) → h ≡ 2 → s ≡ 2 → l ≡ first_counter m → r ≡ second_counter n → b ≡ both_counter m n → Ok tt ≡ fitted (first_counter m) (second_counter n)
      → line (Ok (compared 2048 (hide h (parallel s l r)) b)) ≡ counters_text m n
  unfolding counters_text
  side_by_side h s l r b u v p q w e =
      (λ i. line (Ok (compared 2048 (hide (u i) (parallel (v i) (p i) (q i))) (w i)))) ∙ (by (fits (first_counter m) (second_counter n)) e _ ∙ within _)
    where
      by : (b : Bool) → ◌≡◌ {A = Result (Unit {0}) FitFault} (Ok tt) (cond b (Ok tt) (Err TooLarge)) → (t : List ℕ) → t ≡ cond b t (refused_text 7)
      by true k t = refl
      by false k t = absurd cc
