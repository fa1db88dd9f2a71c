-- What splits two systems, in the words of traces. Assumes nothing.
use Rattle.std.specs.Prelude.{◌≡◌, ℕ, ◌≤◌, List}
use Rattle.lts.specs.Sets.{Subset, complement}
use Rattle.lts.specs.System.{System}
use Rattle.lts.specs.Traces.{CanDo, Convergent, Minimal}
use Rattle.lts.specs.Order.{Actions, Before}
use Rattle.testing.specs.declared.ground.Side.{Side}
use Rattle.testing.specs.declared.ground.Side.TheVariants.{Left, Right}
use Rattle.testing.specs.declared.ground.Ground.{Ground}
use Rattle.testing.specs.declared.ground.Ground.TheVariants.{Reach, Settle, Offer}

-- S is a minimal acceptance set of l after s that contains none of r
pub record Bare (l r : System) (s : List ℕ) (S : ℕ) : Type 0 where
  pub minimal : Minimal l s S
  pub free : (B : ℕ) → Minimal r s B → ¬ Subset B S

-- the lowest number with P
pub record Lowest (P : ℕ → Type 0) (S : ℕ) : Type 0 where
  pub holds : P S
  pub lowest : (R : ℕ) → P R → S ≤ R

-- both can do s and are convergent along it
pub record BothConvergent (l r : System) (s : List ℕ) : Type 0 where
  pub left : CanDo l s
  pub right : CanDo r s
  pub left_convergent : Convergent l s
  pub right_convergent : Convergent r s

-- O is the offer of the lowest minimal set of l that contains none of r: all actions outside it
abbrev pub OfferFrom : System → System → List ℕ → ℕ → Type 0
OfferFrom l r s O = (S : ℕ) × Lowest (Bare l r s) S × (O ≡ complement 32 S)

-- The first ground that holds of the trace s, and the system that passes its test. On the ground Offer the passer is the one that S was not
-- taken from: the right one where the left has such an S, and otherwise the left one.
abbrev pub Splits : System → System → List ℕ → Ground → Side → Type 0
Splits l r s Reach Left = CanDo l s × (¬ CanDo r s)
Splits l r s Reach Right = CanDo r s × (¬ CanDo l s)
Splits l r s Settle Left = CanDo l s × CanDo r s × Convergent l s × (¬ Convergent r s)
Splits l r s Settle Right = CanDo l s × CanDo r s × Convergent r s × (¬ Convergent l s)
Splits l r s (Offer O) Right = BothConvergent l r s × OfferFrom l r s O.bits
Splits l r s (Offer O) Left = BothConvergent l r s × ((S : ℕ) → ¬ Bare l r s S) × OfferFrom r l s O.bits

abbrev pub SplitsSome : System → System → List ℕ → Type 0
SplitsSome l r s = (g : Ground) × (p : Side) × Splits l r s g p

-- no trace splits the two
abbrev pub NoSplit : System → System → Type 0
NoSplit l r = (s : List ℕ) → Actions s → ¬ SplitsSome l r s

-- s splits the two, and no trace before it does
pub record FirstSplit (l r : System) (s : List ℕ) (g : Ground) (p : Side) : Type 0 where
  pub actions : Actions s
  pub splits : Splits l r s g p
  pub first : (t : List ℕ) → Actions t → Before t s → ¬ SplitsSome l r t

-- the system on a side, and the one on the other
abbrev pub passer : Side → System → System → System
passer Left l r = l
passer Right l r = r

abbrev pub non_passer : Side → System → System → System
non_passer Left l r = r
non_passer Right l r = l
