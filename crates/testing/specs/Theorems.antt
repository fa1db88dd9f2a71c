-- The theorems of testing. They hold of lawful systems with any number of states, and of tests of any finite size. Assumes nothing.
use Rattle.std.specs.Prelude.{◌≡◌, ℕ, ◌↔◌, List}
use Rattle.lts.specs.Sets.{In, Subset}
use Rattle.lts.specs.System.{System, Lawful, Tester, LawfulTester}
use Rattle.lts.specs.Traces.{CanDo, Convergent, Acceptance, Minimal}
use Rattle.lts.specs.Order.{Actions}
use Rattle.testing.specs.declared.ground.Side.{Side}
use Rattle.testing.specs.declared.ground.Ground.{Ground}
use Rattle.testing.specs.declared.ground.Ground.TheVariants.{Offer}
use Rattle.lts.specs.SetTypes.{ActionSet}
use Rattle.testing.specs.Testing.{May, Must, Alike}
use Rattle.testing.specs.Distinguish.{reach_test, settle_test, offer_test, test_of, Passes}
use Rattle.testing.specs.Splits.{BothConvergent, Splits, NoSplit, FirstSplit, passer, non_passer}

-- r may stand in for l, as far as the trace s shows: r can do s only if l can; if l is convergent along it then r is; and then each
-- acceptance set of r contains one of l
pub record RefinesAt (l r : System) (s : List ℕ) : Type 0 where
  pub does : CanDo r s → CanDo l s
  pub converges : CanDo r s → Convergent l s → Convergent r s
  pub accepts : Convergent l s → (B : ℕ) → Acceptance r s B → (A : ℕ) × Acceptance l s A × Subset A B

abbrev pub Refines : System → System → Type 0
Refines l r = (s : List ℕ) → RefinesAt l r s

-- the trace s shows the same of both
pub record SameAt (l r : System) (s : List ℕ) : Type 0 where
  pub does : CanDo l s ↔ CanDo r s
  pub converges : CanDo l s → Convergent l s ↔ Convergent r s
  pub accepts : Convergent l s → Convergent r s → (A : ℕ) → Minimal l s A ↔ Minimal r s A

abbrev pub Same : System → System → Type 0
Same l r = (s : List ℕ) → SameAt l r s

-- If r may stand in for l, every test that may pass with r may pass with l, and every test that must pass with l must pass with r.
abbrev pub OneWay : Type 0
OneWay = (l r : System) → Lawful l → Lawful r → Refines l r → (e : Tester) → (May r e → May l e) × (Must l e → Must r e)

-- The same is shown of both exactly when each may stand in for the other.
abbrev pub BothWays : Type 0
BothWays = (l r : System) → Lawful l → Lawful r → Same l r ↔ (Refines l r × Refines r l)

-- If every trace shows the same of both, every test may pass with both or with neither, and must pass with both or with neither.
abbrev pub TwoWay : Type 0
TwoWay = (l r : System) → Lawful l → Lawful r → Same l r → (e : Tester) → (May l e ↔ May r e) × (Must l e ↔ Must r e)

-- No trace splits two systems exactly when every trace shows the same of both.
abbrev pub SplitLaw : Type 0
SplitLaw = (l r : System) → Lawful l → Lawful r → NoSplit l r ↔ Same l r

-- A yes is right: if no trace splits two systems, no test does.
abbrev pub SoundYes : Type 0
SoundYes = (l r : System) → Lawful l → Lawful r → NoSplit l r → Alike l r

-- what the distinguishing test of a trace and a ground shows: it is a lawful test, passes with the passer and does not with the other
pub record ToldApart (l r : System) (s : List ℕ) (g : Ground) (p : Side) : Type 0 where
  pub lawful : LawfulTester (test_of g s)
  pub passes : Passes g (passer p l r) (test_of g s)
  pub fails : ¬ Passes g (non_passer p l r) (test_of g s)

-- A no is right: the distinguishing test of a trace that splits two systems tells them apart.
abbrev pub SoundNo : Type 0
SoundNo = (l r : System) → Lawful l → Lawful r → (s : List ℕ) (g : Ground) (p : Side) → Splits l r s g p → ToldApart l r s g p

-- No test splits two systems exactly when no trace does.
abbrev pub TestsAndTraces : Type 0
TestsAndTraces = (l r : System) → Lawful l → Lawful r → Alike l r ↔ NoSplit l r

-- Where both systems are convergent and their minimal acceptance sets differ, the rule of the ground Offer finds a set.
abbrev pub RuleFinds : Type 0
RuleFinds = (l r : System) → Lawful l → Lawful r → (s : List ℕ) → BothConvergent l r s → ¬ ((A : ℕ) → Minimal l s A ↔ Minimal r s A)
    → (O : ActionSet) × (p : Side) × Splits l r s (Offer O) p

-- A trace splits two systems on at most one ground, with one passer.
abbrev pub OneGround : Type 0
OneGround = (l r : System) (s : List ℕ) (g h : Ground) (p q : Side) → Splits l r s g p → Splits l r s h q → (g ≡ h) × (p ≡ q)

-- At most one trace is the first to split.
abbrev pub OneFirst : Type 0
OneFirst = (l r : System) (s t : List ℕ) (g h : Ground) (p q : Side) → FirstSplit l r s g p → FirstSplit l r t h q → s ≡ t

-- The distinguishing tests say what they are made to say. That of Reach may pass with what can do the trace;
abbrev pub ReachTest : Type 0
ReachTest = (m : System) → Lawful m → (s : List ℕ) → May m (reach_test s) ↔ CanDo m s

-- that of Settle must pass with what is convergent along it;
abbrev pub SettleTest : Type 0
SettleTest = (m : System) → Lawful m → (s : List ℕ) → Actions s → Must m (settle_test s) ↔ Convergent m s

-- every stable state after s has an action of O
abbrev pub Answers : System → List ℕ → ℕ → Type 0
Answers m s O = (A : ℕ) → Acceptance m s A → (a : ℕ) × In a A × In a O

-- that of Offer must pass with what is convergent along it and, after it, always has an action of the set.
abbrev pub OfferTest : Type 0
OfferTest = (m : System) → Lawful m → (s : List ℕ) → Actions s → (O : ℕ) → Must m (offer_test s O) ↔ (Convergent m s × Answers m s O)
