-- The rule of the ground Offer, worked out over two ascending lists of minimal acceptance sets. Assumes nothing.
use Rattle.std.specs.Prelude.{◌≡◌, ℕ, cond, ◌⊎◌, ◌↔◌, List, [], ◌∷◌, Some, None, Option}
use Rattle.lts.specs.Sets.{Subset, complement, Ascending}
use Rattle.lts.specs.System.{System}
use Rattle.traces.specs.Families.{Member, covered}
use Rattle.traces.specs.Shown.{Accepts}
use Rattle.traces.specs.Offered.{Incomparable}
use Rattle.testing.specs.declared.ground.Side.{Side}
use Rattle.testing.specs.declared.ground.Side.TheVariants.{Left, Right}
use Rattle.testing.specs.declared.ground.Ground.{Ground}
use Rattle.testing.specs.declared.ground.Ground.TheVariants.{Offer}
use Rattle.testing.specs.declared.ground.Split.{Split}
use Rattle.testing.specs.Splits.{Lowest, BothConvergent, Splits}

-- the first of xs that contains no set of ys
unfoldable pub first_bare : List ℕ → List ℕ → Option ℕ
first_bare [] ys = None
first_bare (x ∷ xs) ys = cond (covered x ys) (first_bare xs ys) (Some x)

-- the split on a ground, with the side that passes
abbrev pub split_by : (ground : Ground) → Side → Split
split_by g p = record { ground = g; passer = p }

-- the split by the set S, which the given side passes
abbrev pub offer_split : ℕ → Side → Split
offer_split S p = split_by (Offer (record { bits = complement 32 S })) p

-- what comes of a set found on the left, or failing that on the right: the passer is the other side
abbrev pub by_offer : Option ℕ → Option ℕ → Option Split
by_offer (Some S) o = Some (offer_split S Right)
by_offer None (Some S) = Some (offer_split S Left)
by_offer None None = None

abbrev pub offer_rule : List ℕ → List ℕ → Option Split
offer_rule xs ys = by_offer (first_bare xs ys) (first_bare ys xs)

-- S stands in xs and contains no set of ys
pub record BareIn (xs ys : List ℕ) (S : ℕ) : Type 0 where
  pub member : Member S xs
  pub free : (y : ℕ) → Member y ys → ¬ Subset y S

-- what a split by the rule says of two lists: S is the lowest set of the left list that contains none of the right or, if none of those is, the
-- lowest of the right list that contains none of the left
abbrev pub RuleSays : List ℕ → List ℕ → Option Split → Type 0
RuleSays xs ys None = ((S : ℕ) → ¬ BareIn xs ys S) × ((S : ℕ) → ¬ BareIn ys xs S)
RuleSays xs ys (Some v) =
    ((S : ℕ) × Lowest (BareIn xs ys) S × (v ≡ offer_split S Right))
    ⊎ (((S : ℕ) → ¬ BareIn xs ys S) × ((S : ℕ) × Lowest (BareIn ys xs) S × (v ≡ offer_split S Left)))

-- The rule does what it says.
abbrev pub RuleLaw : Type 0
RuleLaw = (xs ys : List ℕ) → Ascending xs → Ascending ys → RuleSays xs ys (offer_rule xs ys)

-- Of two lists in which no set contains another it finds a set exactly when they differ.
abbrev pub RuleDiffers : Type 0
RuleDiffers = (xs ys : List ℕ) → Ascending xs → Ascending ys → Incomparable xs → Incomparable ys → offer_rule xs ys ≡ None ↔ xs ≡ ys

-- At the minimal acceptance sets of two convergent systems it tells how the trace splits them.
abbrev pub RuleSplits : Type 0
RuleSplits = (l r : System) (s xs ys : List ℕ) → BothConvergent l r s → Accepts l s xs → Accepts r s ys
    → ((v : Split) → offer_rule xs ys ≡ Some v ↔ Splits l r s v.ground v.passer)
