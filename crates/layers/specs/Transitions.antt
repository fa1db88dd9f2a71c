-- A system is lawful exactly when its transitions, one by one, stay within it. Assumes nothing.
use Rattle.std.specs.Prelude.{◌≡◌, ℕ, zero, suc, ◌/◌, ◌^◌, ◌<◌, ◌≤◌}
use Rattle.std.proofs.Common.{inl, inr, pow-suc, le_of_suc-le-suc, not-suc-le-zero, arith}
use Rattle.std.proofs.lemmas.Bool.{cases_lt}
use Rattle.lts.specs.Sets.{In}
use Rattle.lts.specs.System.{System, Lawful}
use Rattle.lts.proofs.Membership.{empty_set, not_empty, in_suc, members_below}

-- a set whose members are below n is below 2 ^ n
bounded : (n s : ℕ) → ((q : ℕ) → In q s → q < n) → s < 2 ^ n
bounded zero s h = let e = empty_set s (λ q i. not-suc-le-zero (h q i)) in omega arith
bounded (suc n) s h =
    let b : s / 2 < 2 ^ n = bounded n (s / 2) (λ q i. le_of_suc-le-suc (h (suc q) (in_suc q s i))) in
    let p = pow-suc 2 n in
    omega arith

-- what has a member where it is empty from k on is below k
below : (k x q : ℕ) (f : ℕ → ℕ) → ((y : ℕ) → k ≤ y → f y ≡ 0) → In q (f x) → x < k
below k x q f h i = elim (cases_lt x k) [ inl b ↦ b | inr o ↦ absurd (not_empty q (f x) i (h x o)) ]

-- an action leads from a state to a state, and is below 32
abbrev pub VisibleWithin : System → Type 0
VisibleWithin m = (p a q : ℕ) → In q (m.visible p a) → (p < m.count) × (q < m.count) × (a < 32)

-- a silent transition leads from a state to a state
abbrev pub HiddenWithin : System → Type 0
HiddenWithin m = (p q : ℕ) → In q (m.hidden p) → (p < m.count) × (q < m.count)

pub visible_within : (m : System) → Lawful m → VisibleWithin m
visible_within m l p a q i = (
  below m.count p q (λ y. m.visible y a) (λ y. l.visible_outside y a) i,
  members_below m.count _ q (l.visible_below p a) i,
  below 32 a q (λ y. m.visible p y) (λ y. l.no_action p y) i,
)

pub hidden_within : (m : System) → Lawful m → HiddenWithin m
hidden_within m l p q i = (
  below m.count p q m.hidden l.hidden_outside i,
  members_below m.count _ q (l.hidden_below p) i,
)

pub lawful_within : (m : System) → m.start < m.count → VisibleWithin m → HiddenWithin m → Lawful m
lawful_within m s v h = record {
  nonempty = omega arith;
  starts = s;
  visible_below = λ p a. bounded m.count _ (λ q i. (v p a q i).1);
  hidden_below = λ p. bounded m.count _ (λ q i. (h p q i).1);
  visible_outside = λ p a o. empty_set _ (λ q i. (let b = v p a q i in omega arith));
  hidden_outside = λ p o. empty_set _ (λ q i. (let b = h p q i in omega arith));
  no_action = λ p a o. empty_set _ (λ q i. (let b = v p a q i in omega arith));
}
