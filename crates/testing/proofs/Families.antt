-- Two families of minimal acceptance sets: they are the same, or the rule of the ground Offer finds a set. Assumes nothing.
use Rattle.std.proofs.Common.{◌≡◌, ℕ, ◌^◌, ◌<◌, not, eqb, ◌⊎◌, ◌↔◌, List, refl, subst, inl, inr, arith}
use native.Mathlib.Decide.{dec_lt}
use Rattle.lts.specs.Sets.{Subset, complement}
use Rattle.lts.specs.System.{System, Lawful}
use Rattle.lts.specs.Traces.{Minimal}
use Rattle.lts.specs.SetTypes.{ActionSet}
use Rattle.lts.proofs.Membership.{same_members, set_below}
use Rattle.testing.specs.declared.ground.Side.{Side}
use Rattle.testing.specs.declared.ground.Side.TheVariants.{Left, Right}
use Rattle.testing.specs.declared.ground.Ground.TheVariants.{Offer}
use Rattle.testing.specs.Splits.{Bare, Lowest, BothConvergent, Splits}
use Rattle.testing.specs.Theorems.{RuleFinds}
use Rattle.testing.proofs.Search.{look}
use Rattle.testing.proofs.Decide.{minimal_dec, covers_dec}

-- each of one family contains one of the other
abbrev pub Covers : System → System → List ℕ → Type 0
Covers l r s = (A : ℕ) → Minimal l s A → (B : ℕ) × Minimal r s B × Subset B A

-- families each of which covers the other are the same
pub covers_both : (l r : System) (s : List ℕ) → Covers r l s → Covers l r s → (A : ℕ) → Minimal l s A → Minimal r s A
covers_both l r s down up A minimal =
    let b = up A minimal in
    let c = down b.0 b.1 in
    let same : c.0 ≡ A = minimal.least c.0 c.1.member (λ k i. b.2 k (c.2 k i)) in
    let back : Subset A b.0 = subst (λ (X : ℕ). Subset X b.0) same c.2 in
    subst (λ (X : ℕ). Minimal r s X) (same_members b.0 A b.2 back) b.1

pub same_families : (l r : System) (s : List ℕ) → Covers r l s → Covers l r s → (A : ℕ) → Minimal l s A ↔ Minimal r s A
same_families l r s down up A = (covers_both l r s down up A, covers_both r l s up down A)

minimal_below_lem : (m : System) (s : List ℕ) (A : ℕ) → Minimal m s A → A < 2 ^ 32
minimal_below_lem m s A h = subst (λ (X : ℕ). X < 2 ^ 32) h.member.offers (set_below (λ a. not (eqb (m.visible h.member.state a) 0)) 32)

module _ (l r : System) (ll : Lawful l) (lr : Lawful r) (s : List ℕ) where
  bare_dec : (S : ℕ) → Dec (Bare l r s S)
  bare_dec S = elim (minimal_dec l ll s S) [
    | no f ↦ no (λ b. f b.minimal)
    | yes h ↦ elim (covers_dec r lr s S) [
      | yes c ↦ no (λ b. b.free c.0 c.1.0 c.1.1)
      | no g ↦ yes (record { minimal = h; free = λ B k sub. g (B, (k, sub)) })
    ]
  ]

  -- the lowest minimal set of l that contains none of r, or there is none and each contains one
  pub find_bare : ((S : ℕ) × Lowest (Bare l r s) S) ⊎ (((S : ℕ) → ¬ Bare l r s S) × Covers l r s)
  find_bare = elim (look (Bare l r s) bare_dec (2 ^ 32)) [
    | inl f ↦ inl (f.0, record { holds = f.2; lowest = λ R b. elim (dec_lt R f.0) [ yes lower ↦ absurd (f.3 R lower b) | no n ↦ omega arith ] })
    | inr k ↦ inr (
      λ S b. k S (minimal_below_lem l s S b.minimal) b,
      λ A h. elim (covers_dec r lr s A) [
        | yes c ↦ (c.0, c.1.0, c.1.1)
        | no g ↦ absurd (k A (minimal_below_lem l s A h) (record { minimal = h; free = λ B b sub. g (B, (b, sub)) }))
      ],
    )
  ]

module _ (l r : System) (ll : Lawful l) (lr : Lawful r) (s : List ℕ) where
  -- what the rule comes to
  pub rule : BothConvergent l r s → ((O : ActionSet) × (p : Side) × Splits l r s (Offer O) p) ⊎ ((A : ℕ) → Minimal l s A ↔ Minimal r s A)
  rule both = elim (find_bare l r ll lr s) [
    | inl f ↦ inl (record { bits = complement 32 f.0 }, Right, (both, (f.0, f.1, refl)))
    | inr up ↦ elim (find_bare r l lr ll s) [
      | inl f ↦ inl (record { bits = complement 32 f.0 }, Left, (both, up.0, (f.0, f.1, refl)))
      | inr down ↦ inr (same_families l r s down.1 up.1)
    ]
  ]

pub rule_finds : RuleFinds
rule_finds l r ll lr s both differ = elim (rule l r ll lr s both) [ inl f ↦ f | inr same ↦ absurd (differ same) ]
