-- The members of a set, taken off from the lowest. Assumes nothing.
use Rattle.std.proofs.Common.{◌≡◌, ℕ, zero, suc, ◌+◌, ◌-◌, ◌/◌, ◌%◌, ◌^◌, ◌<◌, ◌≤◌, Bool, true, false, cond, eqb, ◌⊎◌, List, [], ◌∷◌, ◌++◌, map, length, sym, refl, ap, ◌∙◌, subst, ap₂, inl, inr, zero-le, pow-suc, div-one, arith}
use mathlib.Core.List.{Memᴰ}
use native.Mathlib.Nat.{zero-div}
use lib.Bits.{bit_and, and_step, and_self}
use lib.Count.{count_trailing_zeros, ones, ones_in, ones_step, ones-le}
use lib.ListN.{length-map}
use Rattle.std.proofs.lemmas.Bool.{cases_eq}
use Rattle.lts.specs.Sets.{In, has, members_from, members, Above, Ascending, Lists}
use Rattle.lts.proofs.Membership.{half, has_in, in_has, members_below}

odd : (n s : ℕ) → s % 2 ≡ 1 → count_trailing_zeros (suc n) s ≡ 0
unfolding count_trailing_zeros
odd n s h = rw h

even : (n s : ℕ) → s % 2 ≡ 0 → count_trailing_zeros (suc n) s ≡ suc (count_trailing_zeros n (s / 2))
unfolding count_trailing_zeros
even n s h = rw h

has_suc : (q s : ℕ) → has (suc q) s ≡ has q (s / 2)
has_suc q s = ap (λ (x : ℕ). eqb (x % 2) 1) (half s q)

has_zero : (s : ℕ) → has 0 s ≡ eqb (s % 2) 1
has_zero s = ap (λ (x : ℕ). eqb (x % 2) 1) (div-one s)

map_cond : (b : Bool) (x y : List ℕ) → map suc (cond b x y) ≡ cond b (map suc x) (map suc y)
map_cond true x y = refl
map_cond false x y = refl

-- one bit further up
shifted : (k n s : ℕ) → members_from (suc k) n s ≡ map suc (members_from k n (s / 2))
unfolding members_from
shifted k zero s = refl
shifted k (suc n) s =
    rw (has_suc k s, shifted (suc k) n s)
    (sym (map_cond (has k (s / 2)) (k ∷ members_from (suc k) n (s / 2)) (members_from (suc k) n (s / 2))))

-- the members of a set, by its lowest bit and the rest
from_zero : (n s : ℕ) → members_from 0 (suc n) s ≡ cond (eqb (s % 2) 1) (0 ∷ map suc (members_from 0 n (s / 2))) (map suc (members_from 0 n (s / 2)))
unfolding members_from
from_zero n s = rw (has_zero s, shifted 0 n s)

pub members_none : (k n : ℕ) → members_from k n 0 ≡ []
unfolding members_from
members_none k zero = refl
members_none k (suc n) = rw (zero-div (2 ^ k)) (members_none (suc k) n)

lowest_odd : (n s : ℕ) → s % 2 ≡ 1 → members_from 0 (suc n) s ≡ 0 ∷ members_from 0 (suc n) (bit_and s (s - 1))
lowest_odd n s y =
    let d : (s - 1) / 2 ≡ s / 2 = omega arith in
    let st = rw (d, and_self (s / 2)) at (and_step s (s - 1)) in
    let o : bit_and s (s - 1) % 2 ≡ 0 = omega arith in
    let v : bit_and s (s - 1) / 2 ≡ s / 2 = omega arith in
    rw (from_zero n s, from_zero n (bit_and s (s - 1)), y, o, v)

lowest_even : (n s t : ℕ) → 0 < s → s % 2 ≡ 0 → members_from 0 n (s / 2) ≡ t ∷ members_from 0 n (bit_and (s / 2) (s / 2 - 1))
    → members_from 0 (suc n) s ≡ suc t ∷ members_from 0 (suc n) (bit_and s (s - 1))
lowest_even n s t h e r =
    let d : (s - 1) / 2 ≡ s / 2 - 1 = omega arith in
    let st = rw (d, e) at (and_step s (s - 1)) in
    let o : bit_and s (s - 1) % 2 ≡ 0 = omega arith in
    let v : bit_and s (s - 1) / 2 ≡ bit_and (s / 2) (s / 2 - 1) = omega arith in
    rw (from_zero n s, from_zero n (bit_and s (s - 1)), e, o, v, r)

-- the lowest member first, then those of what is left when its bit is cleared
pub members_lowest : (n s : ℕ) → 0 < s → s < 2 ^ n → members_from 0 n s ≡ count_trailing_zeros n s ∷ members_from 0 n (bit_and s (s - 1))
members_lowest zero s h l = absurd (omega arith)
members_lowest (suc n) s h l =
    let p = pow-suc 2 n in
    elim (cases_eq (s % 2) 1) [
      | inl y ↦ rw (odd n s y) (lowest_odd n s y)
      | inr y ↦
          let e : s % 2 ≡ 0 = omega arith in
          let a : 0 < s / 2 = omega arith in
          let b : s / 2 < 2 ^ n = omega arith in
          rw (even n s e) (lowest_even n s (count_trailing_zeros n (s / 2)) h e (members_lowest n (s / 2) a b))
    ]

above_zero : (xs : List ℕ) → Above 0 (map suc xs)
above_zero [] = tt
above_zero (x ∷ xs) = (omega arith, above_zero xs)

above_suc : (x : ℕ) (xs : List ℕ) → Above x xs → Above (suc x) (map suc xs)
above_suc x [] h = tt
above_suc x (y ∷ ys) h = (omega (arith, h.0), above_suc x ys h.1)

ascending_suc : (xs : List ℕ) → Ascending xs → Ascending (map suc xs)
ascending_suc [] h = tt
ascending_suc (x ∷ xs) h = (above_suc x xs h.0, ascending_suc xs h.1)

ascending_cond : (b : Bool) (xs : List ℕ) → Ascending xs → Ascending (cond b (0 ∷ map suc xs) (map suc xs))
ascending_cond true xs h = (above_zero xs, ascending_suc xs h)
ascending_cond false xs h = ascending_suc xs h

pub members_ascending : (n s : ℕ) → Ascending (members_from 0 n s)
unfolding members_from
members_ascending zero s = tt
members_ascending (suc n) s = rw (from_zero n s) (ascending_cond (eqb (s % 2) 1) (members_from 0 n (s / 2)) (members_ascending n (s / 2)))

-- an element of a list that begins with k if b
in_cond : (b : Bool) (k q : ℕ) (xs : List ℕ) → Memᴰ q (cond b (k ∷ xs) xs) → ((b ≡ true) × (q ≡ k)) ⊎ Memᴰ q xs
in_cond true k q xs m = elim (mathlib.Core.List.Memᴰ.cases_cons m) [ inl e ↦ inl (refl, e) | inr m' ↦ inr m' ]
in_cond false k q xs m = inr m

cond_head : (b : Bool) (k : ℕ) (xs : List ℕ) → b ≡ true → Memᴰ k (cond b (k ∷ xs) xs)
cond_head b k xs e = rw e (mathlib.Core.List.Memᴰ.head refl)

cond_tail : (b : Bool) (k q : ℕ) (xs : List ℕ) → Memᴰ q xs → Memᴰ q (cond b (k ∷ xs) xs)
cond_tail true k q xs m = mathlib.Core.List.Memᴰ.tail m
cond_tail false k q xs m = m

listed_in : (n k s q : ℕ) → Memᴰ q (members_from k n s) → In q s
unfolding members_from
listed_in zero k s q m = absurd (mathlib.Core.List.Memᴰ.not-nil m)
listed_in (suc n) k s q m =
    elim (in_cond (has k s) k q (members_from (suc k) n s) m) [
      | inl e ↦ subst (λ (x : ℕ). In x s) (sym e.1) (has_in k s e.0)
      | inr m' ↦ listed_in n (suc k) s q m'
    ]

in_listed : (n k s q : ℕ) → k ≤ q → q < k + n → In q s → Memᴰ q (members_from k n s)
unfolding members_from
in_listed zero k s q h l i = absurd (omega arith)
in_listed (suc n) k s q h l i =
    elim (cases_eq q k) [
      | inl e ↦ subst (λ (x : ℕ). Memᴰ x (members_from k (suc n) s)) (sym e) (cond_head (has k s) k (members_from (suc k) n s) (in_has k s (subst (λ (x : ℕ). In x s) e i)))
      | inr d ↦ cond_tail (has k s) k q (members_from (suc k) n s) (in_listed n (suc k) s q (omega arith) (omega arith) i)
    ]

pub lists : (n s : ℕ) → s < 2 ^ n → Lists s (members_from 0 n s)
lists n s h = record {
  ascending = members_ascending n s;
  exact = λ q. (listed_in n 0 s q, λ i. in_listed n 0 s q zero-le (omega (arith, members_below n s q h i)) i);
}

-- the same, of what is left at first
pub lists_of : (r s : ℕ) → r ≡ s → s < 2 ^ 64 → Lists s (members r)
lists_of r s e h = subst (λ (x : ℕ). Lists s (members x)) (sym e) (lists 64 s h)

above_all : (x q : ℕ) (xs : List ℕ) → Above x xs → Memᴰ q xs → x < q
above_all x q [] h m = absurd (mathlib.Core.List.Memᴰ.not-nil m)
above_all x q (y ∷ ys) h m =
    elim (mathlib.Core.List.Memᴰ.cases_cons m) [ inl e ↦ omega (arith, h.0) | inr m' ↦ above_all x q ys h.1 m' ]

-- what is in a list after its first element, in another that begins alike
rest_in : (x y q : ℕ) (xs ys : List ℕ) → x ≡ y → Above x xs → Memᴰ q xs → Memᴰ q (y ∷ ys) → Memᴰ q ys
rest_in x y q xs ys e a m n = elim (mathlib.Core.List.Memᴰ.cases_cons n) [ inl f ↦ absurd (omega (arith, above_all x q xs a m)) | inr n' ↦ n' ]

same_heads : (x y : ℕ) (xs ys : List ℕ) → Above x xs → Above y ys → Memᴰ x (y ∷ ys) → Memᴰ y (x ∷ xs) → x ≡ y
same_heads x y xs ys a b m n =
    elim (mathlib.Core.List.Memᴰ.cases_cons m) [
      | inl e ↦ e
      | inr m' ↦ elim (mathlib.Core.List.Memᴰ.cases_cons n) [ inl e ↦ sym e | inr n' ↦ absurd (omega (arith, above_all y x ys b m', above_all x y xs a n')) ]
    ]

-- rising lists with the same elements are equal
pub ascending_unique : (xs ys : List ℕ) → Ascending xs → Ascending ys → ((q : ℕ) → Memᴰ q xs → Memᴰ q ys) → ((q : ℕ) → Memᴰ q ys → Memᴰ q xs) → xs ≡ ys
ascending_unique [] [] a b to fro = refl
ascending_unique [] (y ∷ ys) a b to fro = absurd (mathlib.Core.List.Memᴰ.not-nil (fro y (mathlib.Core.List.Memᴰ.head refl)))
ascending_unique (x ∷ xs) [] a b to fro = absurd (mathlib.Core.List.Memᴰ.not-nil (to x (mathlib.Core.List.Memᴰ.head refl)))
ascending_unique (x ∷ xs) (y ∷ ys) a b to fro =
    let e = same_heads x y xs ys a.0 b.0 (to x (mathlib.Core.List.Memᴰ.head refl)) (fro y (mathlib.Core.List.Memᴰ.head refl)) in
    ap₂ (λ (z : ℕ) (zs : List ℕ). z ∷ zs) e
    (ascending_unique xs ys a.1 b.1 (λ q m. rest_in x y q xs ys e a.0 m (to q (mathlib.Core.List.Memᴰ.tail m))) (λ q m. rest_in y x q ys xs (sym e) b.0 m (fro q (mathlib.Core.List.Memᴰ.tail m))))

-- so the members of a set are listed in one way
pub lists_unique : (s : ℕ) (xs ys : List ℕ) → Lists s xs → Lists s ys → xs ≡ ys
lists_unique s xs ys l m =
    ascending_unique xs ys l.ascending m.ascending (λ q h. (m.exact q).1 ((l.exact q).0 h)) (λ q h. (l.exact q).1 ((m.exact q).0 h))

ones_none : ones 0 ≡ 0
unfolding ones ones_in
ones_none = refl

counted : (b : Bool) (xs : List ℕ) → length (cond b (0 ∷ map suc xs) (map suc xs)) ≡ cond b 1 0 + length xs
counted true xs = omega (arith, length-map xs suc)
counted false xs = omega (arith, length-map xs suc)

low_bit : (s : ℕ) → cond (eqb (s % 2) 1) 1 0 ≡ s % 2
low_bit s = elim (cases_eq (s % 2) 1) [ inl y ↦ rw y | inr y ↦ let e : s % 2 ≡ 0 = omega arith in rw e ]

-- as many members as bits that are set
pub ones_members : (n s : ℕ) → s < 2 ^ n → ones s ≡ length (members_from 0 n s)
unfolding members_from
ones_members zero s h = let z : s ≡ 0 = omega arith in ap ones z ∙ ones_none
ones_members (suc n) s h =
    let p = pow-suc 2 n in
    let b : s / 2 < 2 ^ n = omega arith in
    rw (from_zero n s) (omega (arith, ones_step s, ones_members n (s / 2) b, counted (eqb (s % 2) 1) (members_from 0 n (s / 2)), low_bit s))

pub members_few : (s : ℕ) → s < 2 ^ 64 → length (members s) ≤ 64
members_few s h = omega (arith, ones_members 64 s h, ones-le 64 s h)

-- the members among n + 1 numbers: those among n, and the last
pub members_last : (n k j s : ℕ) → j ≡ k + n → members_from k (suc n) s ≡ members_from k n s ++ cond (has j s) (j ∷ []) []
unfolding members_from
members_last zero k j s e = let q : j ≡ k = omega arith in rw q
members_last (suc n) k j s e = front (has k s) (members_from (suc k) n s) (cond (has j s) (j ∷ []) []) (members_last n (suc k) j s (omega arith))
  where
    front : (b : Bool) {xs : List ℕ} (ys zs : List ℕ) → xs ≡ ys ++ zs → cond b (k ∷ xs) xs ≡ cond b (k ∷ ys) ys ++ zs
    front true ys zs q = ap (λ (l : List ℕ). k ∷ l) q
    front false ys zs q = q
