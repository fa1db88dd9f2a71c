-- Search below a bound, for what can be decided of each number. Assumes nothing.
use Rattle.std.proofs.Common.{ℕ, zero, suc, ◌<◌, ◌⊎◌, subst, inl, inr, le_refl, not-suc-le-zero, arith}
use native.Mathlib.Decide.{ℕ_discrete}

module _ (P : ℕ → Type 0) (dec : (q : ℕ) → Dec (P q)) where
  -- the lowest number below n with P, or none has it
  pub look : (n : ℕ) → ((q : ℕ) × (q < n) × P q × ((r : ℕ) → r < q → ¬ P r)) ⊎ ((q : ℕ) → q < n → ¬ P q)
  look zero = inr (λ q b. absurd (not-suc-le-zero b))
  look (suc n) = elim (look n) [
    | inl r ↦ inl (r.0, omega (arith, r.1), r.2, r.3)
    | inr k ↦ elim (dec n) [
      | yes h ↦ inl (n, le_refl _, h, k)
      | no f ↦ inr (λ q b. elim (ℕ_discrete q n) [ yes e ↦ (λ h. f (subst P e h)) | no d ↦ k q (omega arith) ])
    ]
  ]

  -- whether some number has P, where only numbers below n do
  pub dec_below : (n : ℕ) → ((q : ℕ) → P q → q < n) → Dec ((q : ℕ) × P q)
  dec_below n below = elim (look n) [ inl r ↦ yes (r.0, r.2) | inr k ↦ no (λ h. k h.0 (below h.0 h.1) h.1) ]
