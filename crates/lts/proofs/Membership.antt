-- The laws of membership. Assumes nothing.
use Rattle.std.proofs.Common.{◌≡◌, ℕ, zero, suc, ◌+◌, ◌*◌, ◌/◌, ◌%◌, ◌^◌, ◌<◌, ◌≤◌, Bool, true, false, not, cond, T, eqb, ◌≢◌, ◌⊎◌, sym, refl, ap, ◌∙◌, subst, ap₂, inl, inr, suc-le-suc, zero-le, le_of_suc-le-suc, not-suc-le-zero, pow-suc, div-one, one-add, arith, pow_pos, pow_mono, shr-shr, eq-eqb, ne_eqb, eqb-true}
use native.Mathlib.Nat.{div_self, div-eq_of_lt, zero-div}
use native.Mathlib.Decide.{ℕ_discrete}
use lib.Arith.{bin_ind}
use lib.Bits.{bit_and, bit_or, or_zero_l, or_zero_r, and_zero_l, or_shr, or_mod, and_shr, and_mod, or_comm, and_comm}
use Rattle.lts.specs.Sets.{In, has, Subset, within, complement, set_of}

pub half : (s k : ℕ) → s / 2 ^ suc k ≡ s / 2 / 2 ^ k
half s k = ap (λ (j : ℕ). s / 2 ^ j) (sym (one-add k)) ∙ sym (shr-shr s 1 k)

pub in_suc : (k s : ℕ) → In k (s / 2) → In (suc k) s
in_suc k s h = ap (λ (x : ℕ). x % 2) (half s k) ∙ h

pub in_half : (k s : ℕ) → In (suc k) s → In k (s / 2)
in_half k s h = ap (λ (x : ℕ). x % 2) (sym (half s k)) ∙ h

pub in_zero : (s : ℕ) → s % 2 ≡ 1 → In 0 s
in_zero s h = ap (λ (x : ℕ). x % 2) (div-one s) ∙ h

pub in_odd : (s : ℕ) → In 0 s → s % 2 ≡ 1
in_odd s h = ap (λ (x : ℕ). x % 2) (sym (div-one s)) ∙ h

-- a set that is not empty has a member, and one with a member is not empty
pub some_member : (s : ℕ) → s ≢ 0 → (k : ℕ) × In k s
some_member = bin_ind (λ (s : ℕ). s ≢ 0 → (k : ℕ) × In k s) (λ h. absurd (h refl)) (λ s ih h. elim (ℕ_discrete (s % 2) 1) [
  | yes e ↦ (0, in_zero s e)
  | no d ↦ let r = ih (omega arith) in (suc r.0, in_suc r.0 s r.1)
])

pub not_empty : (k s : ℕ) → In k s → s ≢ 0
not_empty k s h e =
    let z : 0 / 2 ^ k % 2 ≡ 1 = subst (λ (x : ℕ). x / 2 ^ k % 2 ≡ 1) e h in
    let y : ◌≡◌ {A = ℕ} 0 1 = ap (λ (x : ℕ). x % 2) (sym (zero-div (2 ^ k))) ∙ z in
    omega arith

-- a part of a set is no larger a number
pub subset_le : (s t : ℕ) → Subset s t → s ≤ t
subset_le = bin_ind (λ (s : ℕ). (t : ℕ) → Subset s t → s ≤ t) (λ t h. zero-le) (λ s ih t h.
    let a : s / 2 ≤ t / 2 = ih (t / 2) (λ k i. in_half k t (h (suc k) (in_suc k s i))) in
    elim (ℕ_discrete (s % 2) 1) [ yes e ↦ (let b = in_odd t (h 0 (in_zero s e)) in omega arith) | no d ↦ omega arith ])

pub same_members : (s t : ℕ) → Subset s t → Subset t s → s ≡ t
same_members s t h k = let a = subset_le s t h in let b = subset_le t s k in omega arith

digit : (b : Bool) (x : ℕ) → (cond b 1 0 + 2 * x) / 2 ≡ x
digit true x = omega arith
digit false x = omega arith

-- a set with no member is empty
pub empty_set : (s : ℕ) → ((q : ℕ) → ¬ In q s) → s ≡ 0
empty_set s f = same_members s 0 (λ q h. absurd (f q h)) (λ q h. absurd (not_empty q 0 h refl))

pub true_T : (b : Bool) → T b → b ≡ true
true_T true t = refl
true_T false t = absurd t

pub T_true : (b : Bool) → b ≡ true → T b
T_true b e = subst T (sym e) tt

odd_if : (b : Bool) (x : ℕ) → (cond b 1 0 + 2 * x) % 2 ≡ 1 → T b
odd_if true x h = tt
odd_if false x h = omega arith

if_odd : (b : Bool) (x : ℕ) → T b → (cond b 1 0 + 2 * x) % 2 ≡ 1
if_odd true x h = omega arith
if_odd false x h = absurd h

pub in_set : (f : ℕ → Bool) (n k : ℕ) → In k (set_of f n) → (k < n) × T (f k)
unfolding set_of
in_set f zero k h = absurd (not_empty k 0 h refl)
in_set f (suc n) zero h = (suc-le-suc zero-le, odd_if (f 0) (set_of (λ j. f (suc j)) n) (in_odd (set_of f (suc n)) h))
in_set f (suc n) (suc k) h =
    let i = in_set (λ j. f (suc j)) n k (subst (λ (s : ℕ). In k s) (digit (f 0) (set_of (λ j. f (suc j)) n)) (in_half k (set_of f (suc n)) h)) in
    (suc-le-suc i.0, i.1)

pub set_in : (f : ℕ → Bool) (n k : ℕ) → k < n → T (f k) → In k (set_of f n)
unfolding set_of
set_in f zero k b t = absurd (not-suc-le-zero b)
set_in f (suc n) zero b t = in_zero (set_of f (suc n)) (if_odd (f 0) (set_of (λ j. f (suc j)) n) t)
set_in f (suc n) (suc k) b t =
    in_suc k (set_of f (suc n)) (subst (λ (s : ℕ). In k s) (sym (digit (f 0) (set_of (λ j. f (suc j)) n))) (set_in (λ j. f (suc j)) n k (le_of_suc-le-suc b) t))

digit_below : (b : Bool) (x y z : ℕ) → x < y → z ≡ 2 * y → cond b 1 0 + 2 * x < z
digit_below true x y z l e = omega arith
digit_below false x y z l e = omega arith

pub set_below : (f : ℕ → Bool) (n : ℕ) → set_of f n < 2 ^ n
unfolding set_of
set_below f zero = omega arith
set_below f (suc n) =
    let p = pow-suc 2 n in
    digit_below (f 0) (set_of (λ q. f (suc q)) n) (2 ^ n) (2 ^ suc n) (set_below (λ q. f (suc q)) n) (omega arith)

pub in_power : (k : ℕ) → In k (2 ^ k)
in_power k = ap (λ (x : ℕ). x % 2) (div_self (pow_pos k))

double : (k : ℕ) → 2 ^ suc k / 2 ≡ 2 ^ k
double k = let p = pow-suc 2 k in omega arith

pub power_in : (q k : ℕ) → In q (2 ^ k) → q ≡ k
power_in zero zero h = refl
power_in zero (suc k) h = let p = pow-suc 2 k in let o = in_odd (2 ^ suc k) h in absurd (omega arith)
power_in (suc q) zero h = absurd (not_empty q 0 (in_half q 1 h) refl)
power_in (suc q) (suc k) h = ap suc (power_in q k (subst (λ (x : ℕ). In q x) (double k) (in_half q (2 ^ suc k) h)))

-- the set of k alone, if b
pub alone_in : (b : Bool) (q k : ℕ) → In q (cond b (2 ^ k) 0) → T b × (q ≡ k)
alone_in true q k h = (tt, power_in q k h)
alone_in false q k h = absurd (not_empty q 0 h refl)

pub in_alone : (b : Bool) (k : ℕ) → T b → In k (cond b (2 ^ k) 0)
in_alone true k t = in_power k
in_alone false k t = absurd t

-- a member of a set if b
pub picked : (b : Bool) (q s : ℕ) → In q (cond b s 0) → (b ≡ true) × In q s
picked true q s h = (refl, h)
picked false q s h = absurd (not_empty q 0 h refl)

-- unions and intersections
or_digit : (x y : ℕ) → x < 2 → bit_or x y ≡ 1 → (x ≡ 1) ⊎ (y ≡ 1)
or_digit zero y b e = inr (sym (or_zero_l y) ∙ e)
or_digit (suc zero) y b e = inl refl
or_digit (suc (suc x)) y b e = absurd (omega arith)

digit_or : (x y : ℕ) → x ≡ 1 → y < 2 → bit_or x y ≡ 1
digit_or x zero e b = or_zero_r x ∙ e
digit_or x (suc zero) e b = ap (λ (z : ℕ). bit_or z 1) e
digit_or x (suc (suc y)) e b = absurd (omega arith)

and_digit : (x y : ℕ) → x < 2 → bit_and x y ≡ 1 → x ≡ 1
and_digit zero y b e = sym (and_zero_l y) ∙ e
and_digit (suc zero) y b e = refl
and_digit (suc (suc x)) y b e = absurd (omega arith)

or_bit : (k a b : ℕ) → bit_or a b / 2 ^ k % 2 ≡ bit_or (a / 2 ^ k % 2) (b / 2 ^ k % 2)
or_bit k a b = ap (λ (x : ℕ). x % 2) (or_shr a b k) ∙ or_mod (a / 2 ^ k) (b / 2 ^ k) 1

and_bit : (k a b : ℕ) → bit_and a b / 2 ^ k % 2 ≡ bit_and (a / 2 ^ k % 2) (b / 2 ^ k % 2)
and_bit k a b = ap (λ (x : ℕ). x % 2) (and_shr a b k) ∙ and_mod (a / 2 ^ k) (b / 2 ^ k) 1

two : (x : ℕ) → x % 2 < 2
two x = omega arith

pub in_or : (k a b : ℕ) → In k (bit_or a b) → In k a ⊎ In k b
in_or k a b h = or_digit (a / 2 ^ k % 2) (b / 2 ^ k % 2) (two _) (sym (or_bit k a b) ∙ h)

pub or_left : (k a b : ℕ) → In k a → In k (bit_or a b)
or_left k a b h = or_bit k a b ∙ digit_or (a / 2 ^ k % 2) (b / 2 ^ k % 2) h (two _)

pub or_right : (k a b : ℕ) → In k b → In k (bit_or a b)
or_right k a b h = subst (λ (x : ℕ). In k x) (or_comm b a) (or_left k b a h)

pub in_and : (k a b : ℕ) → In k (bit_and a b) → In k a × In k b
in_and k a b h = (
  and_digit (a / 2 ^ k % 2) (b / 2 ^ k % 2) (two _) (sym (and_bit k a b) ∙ h),
  and_digit (b / 2 ^ k % 2) (a / 2 ^ k % 2) (two _) (sym (and_bit k b a) ∙ subst (λ (x : ℕ). In k x) (and_comm a b) h),
)

pub and_in : (k a b : ℕ) → In k a → In k b → In k (bit_and a b)
and_in k a b h i = and_bit k a b ∙ ap₂ (λ (x y : ℕ). bit_and x y) h i

-- a set below 2 ^ n has its members below n
-- whether a set is part of another
pub within_subset : (a b : ℕ) → within a b ≡ true → Subset a b
within_subset a b t k i = (in_and k a b (subst (λ (x : ℕ). In k x) (sym (eqb-true (bit_and a b) a t)) i)).1

pub subset_within : (a b : ℕ) → Subset a b → within a b ≡ true
subset_within a b f = eq-eqb (bit_and a b) a (same_members (bit_and a b) a (λ k i. (in_and k a b i).0) (λ k i. and_in k a b i (f k i)))

pub members_below : (n s k : ℕ) → s < 2 ^ n → In k s → k < n
members_below zero s k b h = absurd (not_empty k s h (omega arith))
members_below (suc n) s zero b h = suc-le-suc zero-le
members_below (suc n) s (suc k) b h = let p = pow-suc 2 n in suc-le-suc (members_below n (s / 2) k (omega arith) (in_half k s h))

-- nothing at or above n is a member of a set below 2 ^ n
pub outside : (n s q : ℕ) → s < 2 ^ n → n ≤ q → s / 2 ^ q % 2 ≡ 0
outside n s q b h =
    let p : 2 ^ n ≤ 2 ^ q = pow_mono h in
    let k : s < 2 ^ q = omega arith in
    rw (div-eq_of_lt k)

-- the test and the relation
pub has_in : (q s : ℕ) → has q s ≡ true → In q s
has_in q s e = eqb-true (s / 2 ^ q % 2) 1 e

pub in_has : (q s : ℕ) → In q s → has q s ≡ true
in_has q s h = eq-eqb (s / 2 ^ q % 2) 1 h

pub out_has : (q s : ℕ) → ¬ In q s → has q s ≡ false
out_has q s h = ne_eqb (s / 2 ^ q % 2) 1 h

pub has_out : (q s : ℕ) → has q s ≡ false → ¬ In q s
has_out q s e h = let z : true ≡ false = sym (in_has q s h) ∙ e in let y : ◌≡◌ {A = ℕ} 0 1 = cc in omega arith

-- a union is associative
pub or_assoc : (a b c : ℕ) → bit_or (bit_or a b) c ≡ bit_or a (bit_or b c)
or_assoc a b c =
    same_members _ _
    (λ q h. elim (in_or q (bit_or a b) c h) [
      | inl h' ↦ elim (in_or q a b h') [ inl x ↦ or_left q a (bit_or b c) x | inr y ↦ or_right q a (bit_or b c) (or_left q b c y) ]
      | inr z ↦ or_right q a (bit_or b c) (or_right q b c z)
    ])
    (λ q h. elim (in_or q a (bit_or b c) h) [
      | inl x ↦ or_left q (bit_or a b) c (or_left q a b x)
      | inr h' ↦ elim (in_or q b c h') [ inl y ↦ or_left q (bit_or a b) c (or_right q a b y) | inr z ↦ or_right q (bit_or a b) c z ]
    ])

-- the complement of a set below 2 ^ n, digit by digit
complement_digit : (s x y : ℕ) → x + (s / 2 + 1) ≡ y → cond (not (has 0 s)) 1 0 + 2 * x + (s + 1) ≡ 2 * y
complement_digit s x y h = elim (ℕ_discrete (s % 2) 1) [
  | yes e ↦ rw (eq-eqb (s / 2 ^ 0 % 2) 1 (in_zero s e)) (omega arith)
  | no d ↦ rw (ne_eqb (s / 2 ^ 0 % 2) 1 (λ i. d (in_odd s i))) (omega arith)
]

pub complement_sum : (n s : ℕ) → s < 2 ^ n → complement n s + (s + 1) ≡ 2 ^ n
unfolding set_of
complement_sum zero s b = omega arith
complement_sum (suc n) s b =
    let p = pow-suc 2 n in
    let shift : ◌≡◌ {A = ℕ → Bool} (λ q. not (has (suc q) s)) (λ q. not (has q (s / 2))) = λ i q. not (eqb (half s q i % 2) 1) in
    let h = complement_sum n (s / 2) (omega arith) in
    complement_digit s (set_of (λ q. not (has (suc q) s)) n) (2 ^ n) (ap (λ (f : ℕ → Bool). set_of f n + (s / 2 + 1)) shift ∙ h) ∙ (omega arith)
