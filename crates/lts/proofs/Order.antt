-- The order of traces is total. Assumes nothing.
use Rattle.std.proofs.Common.{◌≡◌, ℕ, ◌⊎◌, List, [], ◌∷◌, length, sym, refl, ap₂, inl, inr, arith}
use native.Mathlib.Nat.{suc_inj}
use Rattle.std.proofs.lemmas.Bool.{cases_order}
use Rattle.lts.specs.Order.{Lower, Before}

lower_cases : (s t : List ℕ) → length s ≡ length t → (s ≡ t) ⊎ (Lower s t ⊎ Lower t s)
lower_cases [] [] e = inl refl
lower_cases [] (b ∷ t) e = absurd (omega arith)
lower_cases (a ∷ s) [] e = absurd (omega arith)
lower_cases (a ∷ s) (b ∷ t) e = elim (cases_order a b) [
  | inr (inl l) ↦ inr (inl (inl l))
  | inr (inr l) ↦ inr (inr (inl l))
  | inl q ↦ elim (lower_cases s t (suc_inj e)) [
    | inl p ↦ inl (ap₂ {B = List ℕ} {C = List ℕ} (λ x y. x ∷ y) q p)
    | inr (inl l) ↦ inr (inl (inr (q, l)))
    | inr (inr l) ↦ inr (inr (inr (sym q, l)))
  ]
]

pub before_cases : (s t : List ℕ) → (s ≡ t) ⊎ (Before s t ⊎ Before t s)
before_cases s t = elim (cases_order (length s) (length t)) [
  | inr (inl l) ↦ inr (inl (inl l))
  | inr (inr l) ↦ inr (inr (inl l))
  | inl e ↦ elim (lower_cases s t e) [
    | inl p ↦ inl p
    | inr (inl l) ↦ inr (inl (inr (e, l)))
    | inr (inr l) ↦ inr (inr (inr (sym e, l)))
  ]
]
