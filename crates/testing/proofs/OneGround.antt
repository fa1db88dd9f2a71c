-- A trace splits two systems in at most one way, and at most one is the first to split. Assumes nothing.
use Rattle.std.proofs.Common.{◌≡◌, ℕ, List, sym, refl, ap, ◌∙◌, inl, inr, arith}
use Rattle.lts.specs.System.{System}
use Rattle.lts.specs.Traces.{CanDo, Convergent}
use Rattle.lts.specs.SetTypes.{ActionSet}
use Rattle.lts.proofs.Order.{before_cases}
use Rattle.testing.specs.declared.ground.Side.{Side}
use Rattle.testing.specs.declared.ground.Side.TheVariants.{Left, Right}
use Rattle.testing.specs.declared.ground.Ground.{Ground}
use Rattle.testing.specs.declared.ground.Ground.TheVariants.{Reach, Settle, Offer}
use Rattle.lts.specs.Sets.{complement}
use Rattle.testing.specs.Splits.{Lowest, OfferFrom, BothConvergent, Splits}
use Rattle.testing.specs.Theorems.{OneGround, OneFirst}

lowest_one : {P : ℕ → Type 0} (S R : ℕ) → Lowest P S → Lowest P R → S ≡ R
lowest_one S R a b = omega (arith, a.lowest R b.holds, b.lowest S a.holds)

same_offer : (l r : System) (s : List ℕ) (O Q : ActionSet) → OfferFrom l r s O.bits → OfferFrom l r s Q.bits → Offer O ≡ Offer Q
same_offer l r s O Q a b =
    let e : O.bits ≡ Q.bits = a.2 ∙ ap (λ (S : ℕ). complement 32 S) (lowest_one a.0 b.0 a.1 b.1) ∙ sym b.2 in
    λ i. Offer (record { bits = e i })

module _ (l r : System) (s : List ℕ) where
  -- what each ground says of both
  not_both : (p : Side) → Splits l r s Reach p → CanDo l s → CanDo r s → ⊥
  not_both Left a c d = a.1 d
  not_both Right a c d = a.1 c

  both_do : (p : Side) → Splits l r s Settle p → CanDo l s × CanDo r s
  both_do Left a = (a.0, a.1)
  both_do Right a = (a.0, a.1)

  not_convergent : (p : Side) → Splits l r s Settle p → Convergent l s → Convergent r s → ⊥
  not_convergent Left a c d = a.3 d
  not_convergent Right a c d = a.3 c

  both_convergent : (O : ActionSet) (p : Side) → Splits l r s (Offer O) p → BothConvergent l r s
  both_convergent O Left a = a.0
  both_convergent O Right a = a.0

  -- the passers on one ground
  reach_one : (p q : Side) → Splits l r s Reach p → Splits l r s Reach q → p ≡ q
  reach_one Left Left a b = refl
  reach_one Left Right a b = absurd (a.1 b.0)
  reach_one Right Left a b = absurd (a.1 b.0)
  reach_one Right Right a b = refl

  settle_one : (p q : Side) → Splits l r s Settle p → Splits l r s Settle q → p ≡ q
  settle_one Left Left a b = refl
  settle_one Left Right a b = absurd (a.3 b.2)
  settle_one Right Left a b = absurd (a.3 b.2)
  settle_one Right Right a b = refl

  offer_one : (O Q : ActionSet) (p q : Side) → Splits l r s (Offer O) p → Splits l r s (Offer Q) q → (Offer O ≡ Offer Q) × (p ≡ q)
  offer_one O Q Left Left a b = (same_offer r l s O Q a.2 b.2, refl)
  offer_one O Q Left Right a b = absurd (a.1 b.1.0 b.1.1.holds)
  offer_one O Q Right Left a b = absurd (b.1 a.1.0 a.1.1.holds)
  offer_one O Q Right Right a b = (same_offer l r s O Q a.1 b.1, refl)

  one : (g h : Ground) (p q : Side) → Splits l r s g p → Splits l r s h q → (g ≡ h) × (p ≡ q)
  one Reach Reach p q a b = (refl, reach_one p q a b)
  one Reach Settle p q a b = let c = both_do q b in absurd (not_both p a c.0 c.1)
  one Reach (Offer Q) p q a b = let c = both_convergent Q q b in absurd (not_both p a c.left c.right)
  one Settle Reach p q a b = let c = both_do p a in absurd (not_both q b c.0 c.1)
  one Settle Settle p q a b = (refl, settle_one p q a b)
  one Settle (Offer Q) p q a b = let c = both_convergent Q q b in absurd (not_convergent p a c.left_convergent c.right_convergent)
  one (Offer O) Reach p q a b = let c = both_convergent O p a in absurd (not_both q b c.left c.right)
  one (Offer O) Settle p q a b = let c = both_convergent O p a in absurd (not_convergent q b c.left_convergent c.right_convergent)
  one (Offer O) (Offer Q) p q a b = offer_one O Q p q a b

pub one_ground : OneGround
one_ground = one

pub one_first : OneFirst
one_first l r s t g h p q a b = elim (before_cases s t) [
  | inl e ↦ e
  | inr (inl before) ↦ absurd (b.first s a.actions before (g, p, a.splits))
  | inr (inr before) ↦ absurd (a.first t b.actions before (h, q, b.splits))
]
