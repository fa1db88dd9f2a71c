-- The distinguishing test of a trace that splits two systems tells them apart. Assumes nothing.
use Rattle.std.proofs.Common.{ℕ, ◌<◌, not, List, sym, subst, inl, inr, eqb→eq, T_not}
use native.Mathlib.Decide.{ℕ_discrete}
use lib.Dec.{not_T}
use Rattle.lts.specs.Sets.{In, has, Subset, complement}
use Rattle.lts.specs.System.{System, Lawful}
use Rattle.lts.specs.Traces.{Convergent, Acceptance}
use Rattle.lts.specs.Order.{Actions}
use Rattle.lts.proofs.Membership.{in_set, set_in}
use Rattle.testing.specs.declared.ground.Side.{Side}
use Rattle.testing.specs.declared.ground.Side.TheVariants.{Left, Right}
use Rattle.testing.specs.declared.ground.Ground.{Ground}
use Rattle.testing.specs.declared.ground.Ground.TheVariants.{Reach, Settle, Offer}
use Rattle.testing.specs.Testing.{Must, Alike}
use Rattle.testing.specs.Distinguish.{offer_test, test_of, Passes}
use Rattle.testing.specs.Splits.{OfferFrom, Splits, passer, non_passer}
use Rattle.testing.specs.Theorems.{Answers, SoundNo, TestsAndTraces}
use Rattle.testing.proofs.Truth.{eq_T}
use Rattle.testing.proofs.Search.{look}
use Rattle.testing.proofs.Laws.{path_actions, offer_below}
use Rattle.testing.proofs.Decide.{and_dec, minimal_within}
use Rattle.testing.specs.TestsLawful.{test_lawful}
use Rattle.testing.proofs.Ladder.{reach_test_lem, settle_test_lem, offer_test_lem}
use Rattle.testing.proofs.SameTraces.{sound_yes}

in_others : (S a : ℕ) → a < 32 → ¬ In a S → In a (complement 32 S)
in_others S a b f = set_in (λ c. not (has c S)) 32 a b (not_T (has a S) (λ t. f (eqb→eq _ 1 t)))

others_out : (S a : ℕ) → In a (complement 32 S) → ¬ In a S
others_out S a h i = T_not (has a S) (in_set (λ c. not (has c S)) 32 a h).1 (eq_T _ 1 i)

not_dec : {A : Type 0} → Dec A → Dec (¬ A)
not_dec (yes a) = no (λ f. f a)
not_dec (no f) = yes f

-- if no minimal set is part of S, every stable state has an action outside S
bare_answers : (m : System) → Lawful m → (s : List ℕ) (S : ℕ) → ((A : ℕ) → Acceptance m s A → ¬ Subset A S) → Answers m s (complement 32 S)
bare_answers m lawful s S none A acc =
    elim (look (λ a. In a A × (¬ In a S)) (λ a. and_dec (ℕ_discrete _ 1) (λ i. not_dec (ℕ_discrete _ 1))) 32) [
      | inl f ↦ (f.0, f.2.0, in_others S f.0 f.1 f.2.1)
      | inr k ↦ absurd (none A acc (λ a i. elim (ℕ_discrete _ 1) [ yes j ↦ j | no g ↦ absurd (k a (below a i) (i, g)) ]))
    ]
  where
    below : (a : ℕ) → In a A → a < 32
    below a i = offer_below m acc.state a (subst (λ (B : ℕ). In a B) (sym acc.offers) i)

module _ (l r : System) (ll : Lawful l) (lr : Lawful r) (s : List ℕ) (actions : Actions s) where
  -- S is a minimal set of r that contains none of l: then l passes
  offer_apart : Convergent l s → (O : ℕ) → OfferFrom r l s O → Must l (offer_test s O) × (¬ Must r (offer_test s O))
  offer_apart convergent O (S, low, e) =
      let bare = low.holds in
      let none : ((A : ℕ) → Acceptance l s A → ¬ Subset A S) = λ A acc sub.
      (let b = minimal_within l ll s A acc in bare.free b.0 b.1 (λ k i. sub k (b.2 k i))) in
      subst (λ (Q : ℕ). Must l (offer_test s Q) × (¬ Must r (offer_test s Q))) (sym e) (
        (offer_test_lem l ll s actions (complement 32 S)).1 (convergent, bare_answers l ll s S none),
        λ h. let a = ((offer_test_lem r lr s actions (complement 32 S)).0 h).1 S bare.minimal.member in others_out S a.0 a.2 a.1,
      )

split_actions : (l r : System) → Lawful l → Lawful r → (s : List ℕ) (g : Ground) (p : Side) → Splits l r s g p → Actions s
split_actions l r ll lr s Reach Left b = path_actions l ll b.0.1
split_actions l r ll lr s Reach Right b = path_actions r lr b.0.1
split_actions l r ll lr s Settle Left b = path_actions l ll b.0.1
split_actions l r ll lr s Settle Right b = path_actions l ll b.0.1
split_actions l r ll lr s (Offer O) Left b = path_actions l ll b.0.left.1
split_actions l r ll lr s (Offer O) Right b = path_actions l ll b.0.left.1

module _ (l r : System) (ll : Lawful l) (lr : Lawful r) where
  told : (s : List ℕ) (g : Ground) (p : Side) → Actions s → Splits l r s g p
      → Passes g (passer p l r) (test_of g s) × (¬ Passes g (non_passer p l r) (test_of g s))
  told s Reach Left actions b = ((reach_test_lem l ll s).1 b.0, λ h. b.1 ((reach_test_lem r lr s).0 h))
  told s Reach Right actions b = ((reach_test_lem r lr s).1 b.0, λ h. b.1 ((reach_test_lem l ll s).0 h))
  told s Settle Left actions b = ((settle_test_lem l ll s actions).1 b.2, λ h. b.3 ((settle_test_lem r lr s actions).0 h))
  told s Settle Right actions b = ((settle_test_lem r lr s actions).1 b.2, λ h. b.3 ((settle_test_lem l ll s actions).0 h))
  told s (Offer O) Left actions b = offer_apart l r ll lr s actions b.0.left_convergent O.bits b.2
  told s (Offer O) Right actions b = offer_apart r l lr ll s actions b.0.right_convergent O.bits b.1

pub sound_no : SoundNo
sound_no l r ll lr s g p b =
    let t = told l r ll lr s g p (split_actions l r ll lr s g p b) b in
    record { lawful = test_lawful g s; passes = t.0; fails = t.1 }

-- two systems that no test splits pass every distinguishing test both or neither
alike_passes : (l r : System) → Alike l r → (s : List ℕ) (g : Ground) (p : Side) → Passes g (passer p l r) (test_of g s) → Passes g (non_passer p l r) (test_of g s)
alike_passes l r alike s Reach Left = (alike (test_of Reach s) (test_lawful Reach s)).0.0
alike_passes l r alike s Reach Right = (alike (test_of Reach s) (test_lawful Reach s)).0.1
alike_passes l r alike s Settle Left = (alike (test_of Settle s) (test_lawful Settle s)).1.0
alike_passes l r alike s Settle Right = (alike (test_of Settle s) (test_lawful Settle s)).1.1
alike_passes l r alike s (Offer O) Left = (alike (test_of (Offer O) s) (test_lawful (Offer O) s)).1.0
alike_passes l r alike s (Offer O) Right = (alike (test_of (Offer O) s) (test_lawful (Offer O) s)).1.1

pub tests_and_traces : TestsAndTraces
tests_and_traces l r ll lr = (
  λ alike s actions h.
      let t = sound_no l r ll lr s h.0 h.1 h.2 in
      t.fails (alike_passes l r alike s h.0 h.1 t.passes),
  sound_yes l r ll lr,
)
