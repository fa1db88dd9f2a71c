-- The set of passing states that a list names. Assumes nothing.
use Rattle.std.specs.Prelude.{◌≡◌, ℕ, ◌^◌, ◌<◌, ◌≤◌, ◌⊎◌, List, [], ◌∷◌, bit_or, refl}
use Rattle.std.proofs.Common.{sym, subst, inl, inr, arith, lt-ltb}
use mathlib.Core.List.Memᴰ
use mathlib.Core.List.{Memᴰ}
use Rattle.std.proofs.lemmas.Nat.{pow_below, or_lt}
use Rattle.lts.specs.Sets.{In, inserted, members, Ascending}
use Rattle.lts.proofs.Membership.{in_or, or_left, or_right, in_power, power_in, not_empty}
use Rattle.lts.proofs.Lowest.{lists, lists_unique}
use Rattle.cards.specs.Contents.{with_all}
use Rattle.cards.proofs.Sorted.{Below}

-- a set with one state more
pub grown : (q s : ℕ) → q < 64 → inserted 64 q s ≡ bit_or s (2 ^ q)
grown q s h = rw (lt-ltb q 64 h)

pub with_below : (n s : ℕ) (qs : List ℕ) → n ≤ 64 → s < 2 ^ n → Below n qs → with_all s qs < 2 ^ n
unfolding with_all
with_below n s [] h l b = l
with_below n s (q ∷ qs) h l b =
    with_below n (inserted 64 q s) qs h (rw (grown q s (omega (arith, b.0))) (or_lt n s (2 ^ q) l (pow_below q n b.0))) b.1

with_in : (q s : ℕ) (qs : List ℕ) → Below 64 qs → In q (with_all s qs) → In q s ⊎ Memᴰ q qs
unfolding with_all
with_in q s [] b h = inl h
with_in q s (p ∷ qs) b h =
    elim (with_in q (inserted 64 p s) qs b.1 h) [
      | inl y ↦ elim (in_or q s (2 ^ p) (rw (grown p s b.0) at y)) [ inl z ↦ inl z | inr z ↦ inr (Memᴰ.head (power_in q p z)) ]
      | inr y ↦ inr (Memᴰ.tail y)
    ]

with_old : (q s : ℕ) (qs : List ℕ) → Below 64 qs → In q s → In q (with_all s qs)
unfolding with_all
with_old q s [] b h = h
with_old q s (p ∷ qs) b h = with_old q (inserted 64 p s) qs b.1 (rw (grown p s b.0) (or_left q s (2 ^ p) h))

with_new : (q s : ℕ) (qs : List ℕ) → Below 64 qs → Memᴰ q qs → In q (with_all s qs)
unfolding with_all
with_new q s [] b m = absurd (Memᴰ.not-nil m)
with_new q s (p ∷ qs) b m =
    elim (Memᴰ.cases_cons m) [
      | inl e ↦
          with_old q (inserted 64 p s) qs b.1 (rw (grown p s b.0) (or_right q s (2 ^ p) (subst (λ (x : ℕ). In x (2 ^ p)) (sym e) (in_power p))))
      | inr m' ↦ with_new q (inserted 64 p s) qs b.1 m'
    ]

-- a state is in the set exactly when the list names it
pub with_exact : (q : ℕ) (qs : List ℕ) → Below 64 qs → (In q (with_all 0 qs) → Memᴰ q qs) × (Memᴰ q qs → In q (with_all 0 qs))
with_exact q qs b = (λ h. elim (with_in q 0 qs b h) [ inl y ↦ absurd (not_empty q 0 y refl) | inr m ↦ m ], with_new q 0 qs b)

-- the members of the set of a rising list are that list
pub members_with : (qs : List ℕ) → Below 64 qs → Ascending qs → members (with_all 0 qs) ≡ qs
members_with qs b a =
    let s = with_all 0 qs in
    lists_unique s (members s) qs (lists 64 s (with_below 64 0 qs (omega arith) (omega arith) b))
    (record { ascending = a; exact = λ q. ((with_exact q qs b).1, (with_exact q qs b).0) })

pub below_wider : (n m : ℕ) (qs : List ℕ) → n ≤ m → Below n qs → Below m qs
below_wider n m [] h b = tt
below_wider n m (q ∷ qs) h b = (omega (arith, b.0), below_wider n m qs h b.1)
