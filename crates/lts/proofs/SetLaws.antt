-- What the calls of sets make, by membership. Assumes nothing.
use Rattle.std.proofs.Common.{◌≡◌, ℕ, ◌<◌, ◌^◌, Bool, true, not, T, ◌⊎◌, ◌↔◌, inl, inr, sym, subst, ◌∙◌, arith}
use Rattle.std.proofs.lemmas.Bool.{cases_lt, lt-ltb, le-ltb}
use Rattle.lts.specs.Sets.{In, has, Subset, Exactly, union, intersection, complement, within, inserted}
use Rattle.lts.proofs.Membership.{in_or, or_left, or_right, in_and, and_in, in_set, set_in, in_has, out_has, in_power, power_in, within_subset, subset_within}

pub exact_union : (a b s : ℕ) → s ≡ union a b → Exactly (λ q. In q a ⊎ In q b) s
exact_union a b s e = rw e (record { exact = λ q. (in_or q a b, λ h. elim h [ inl i ↦ or_left q a b i | inr i ↦ or_right q a b i ]) })

pub exact_intersection : (a b s : ℕ) → s ≡ intersection a b → Exactly (λ q. In q a × In q b) s
exact_intersection a b s e = rw e (record { exact = λ q. (in_and q a b, λ h. and_in q a b h.0 h.1) })

pub exact_complement : (n a s : ℕ) → s ≡ complement n a → Exactly (λ q. (q < n) × (¬ In q a)) s
exact_complement n a s e = rw e (record {
  exact = λ q. (
    (λ h. let z = in_set (λ q. not (has q a)) n q h in (z.0, λ i. let t : T (not true) = subst (λ (b : Bool). T (not b)) (in_has q a i) z.1 in t)),
    (λ h. set_in (λ q. not (has q a)) n q h.0 (subst (λ (b : Bool). T (not b)) (sym (out_has q a h.1)) tt)),
  );
})

pub exact_inserted : (w n a s : ℕ) → s ≡ inserted w n a → Exactly (λ q. In q a ⊎ ((q ≡ n) × (q < w))) s
exact_inserted w n a s e = rw e (elim (cases_lt n w) [
  | inl b ↦ rw (lt-ltb n w b) (record {
    exact = λ q. (
      (λ h. elim (in_or q a (2 ^ n) h) [ inl i ↦ inl i | inr i ↦ (let z = power_in q n i in inr (z, omega arith)) ]),
      (λ h. elim h [ inl i ↦ or_left q a (2 ^ n) i | inr i ↦ or_right q a (2 ^ n) (subst (λ (k : ℕ). In k (2 ^ n)) (sym i.0) (in_power n)) ]),
    );
  })
  | inr b ↦ rw (le-ltb n w b) (record {
    exact = λ q. (
      (λ h. inl h),
      (λ h. elim h [ inl i ↦ i | inr i ↦ absurd (omega (arith, i.0, i.1)) ]),
    );
  })
])

pub told_within : (a b : ℕ) (r : Bool) → r ≡ within a b → r ≡ true ↔ Subset a b
told_within a b r e = (λ t. within_subset a b (sym e ∙ t), λ f. e ∙ subset_within a b f)
