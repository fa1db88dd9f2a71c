-- Hiding by membership, and that it keeps the laws of systems. Assumes nothing.
use Rattle.std.specs.Prelude.{◌≡◌, ℕ, zero, suc, ◌+◌, ◌<◌, cond, ◌⊎◌, refl}
use Rattle.std.proofs.Common.{subst, add-one, not-suc-le-zero, arith}
use Rattle.std.proofs.Math.Logic.{inl, inr}
use Rattle.std.proofs.lemmas.Bool.{cases_eq}
use Rattle.lts.specs.Sets.{In, has, union}
use Rattle.lts.specs.System.{System, Lawful}
use Rattle.lts.proofs.Membership.{in_or, or_left, or_right}
use Rattle.layers.specs.Transitions.{visible_within, hidden_within, lawful_within}
use Rattle.layers.specs.Deciding.{if_members, unless_members, decides_has}
use Rattle.layers.specs.Hiding.{silenced, hide, Hides}

pub silenced_none : (h : ℕ) (m : System) (p : ℕ) → silenced h m p 0 ≡ m.hidden p
unfolding silenced
silenced_none h m p = refl

pub silenced_more : (h : ℕ) (m : System) (p n : ℕ) → silenced h m p (n + 1) ≡ union (silenced h m p n) (cond (has n h) (m.visible p n) 0)
unfolding silenced
silenced_more h m p n = rw (add-one n)

module _ (h : ℕ) (m : System) (p q : ℕ) where
  -- q is reached from p by an action of h
  abbrev By : Type 0
  By = (a : ℕ) × In a h × In q (m.visible p a)

  silenced_in : (n : ℕ) → In q (silenced h m p n) → In q (m.hidden p) ⊎ By
  unfolding silenced
  silenced_in zero i = inl i
  silenced_in (suc n) i = elim (in_or q (silenced h m p n) _ i) [
    | inl j ↦ silenced_in n j
    | inr j ↦ (let k = (if_members (has n h) q (m.visible p n) (decides_has n h)).0 j in inr (n, k.0, k.1))
  ]

  in_hidden : (n : ℕ) → In q (m.hidden p) → In q (silenced h m p n)
  unfolding silenced
  in_hidden zero i = i
  in_hidden (suc n) i = or_left q (silenced h m p n) _ (in_hidden n i)

  in_silenced : (n a : ℕ) → a < n → In a h → In q (m.visible p a) → In q (silenced h m p n)
  unfolding silenced
  in_silenced zero a b i j = absurd (not-suc-le-zero b)
  in_silenced (suc n) a b i j = elim (cases_eq a n) [
    | inl e ↦ or_right q (silenced h m p n) _ (subst (λ x. In q (cond (has x h) (m.visible p x) 0)) e ((if_members (has a h) q (m.visible p a) (decides_has a h)).1 (i, j)))
    | inr d ↦ or_left q (silenced h m p n) _ (in_silenced n a (omega arith) i j)
  ]

pub hide_hides : (h : ℕ) (m : System) → Lawful m → Hides h m (hide h m)
hide_hides h m l = record {
  count = refl;
  start = refl;
  visible = λ p a q. unless_members (has a h) q (m.visible p a) (decides_has a h);
  hidden = λ p q. (
    silenced_in h m p q 32,
    λ i. elim i [
      | inl j ↦ in_hidden h m p q 32 j
      | inr j ↦ in_silenced h m p q 32 j.0 (visible_within m l p j.0 q j.2).2 j.1 j.2
    ],
  );
}

pub hide_lawful : (h : ℕ) (m : System) → Lawful m → Lawful (hide h m)
hide_lawful h m l =
    let s = hide_hides h m l in
    lawful_within (hide h m) l.starts (λ p a q i. visible_within m l p a q ((s.visible p a q).0 i).1)
    (λ p q i. elim ((s.hidden p q).0 i) [
      | inl j ↦ hidden_within m l p q j
      | inr j ↦ (let b = visible_within m l p j.0 q j.2 in (b.0, b.1))
    ])
