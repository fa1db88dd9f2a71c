-- Lists of sets of actions as lists of numbers, and what a family's laws are. Assumes nothing.
use Rattle.std.specs.Prelude.{◌≡◌, ℕ, ◌≤◌, Bool, true, not, List, length, map}
use Rattle.lts.specs.Sets.{Subset, Ascending, within}
use Rattle.traces.specs.Families.{Member, antichain}
use Rattle.lts.specs.SetTypes.{ActionSet}

abbrev pub bits_of : List ActionSet → List ℕ
bits_of l = map (λ s. s.bits) l

-- no set of the list contains another
abbrev pub Incomparable : List ℕ → Type 0
Incomparable l = (x y : ℕ) → Member x l → Member y l → Subset x y → x ≡ y

-- what every family is: at most 64 sets in rising order, none of which contains another
pub record IsFamily (sets : List ℕ) : Type 0 where
  pub few : length sets ≤ 64
  pub rising : Ascending sets
  pub apart : Incomparable sets

-- s does not contain x
unfoldable pub free : ℕ → ActionSet → Bool
free x s = not (within x s.bits)

-- what a family keeps of its sets, their number and the room set aside for them
pub record Kept (sets : List ActionSet) (len capacity : ℕ) : Type 0 where
  pub room : 64 ≤ capacity
  pub few : len ≤ 64
  pub apart : antichain (bits_of sets) ≡ true
