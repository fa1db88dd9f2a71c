-- Unions over the members of a set. Assumes nothing.
use Rattle.std.specs.Prelude.{ℕ, List, [], ◌∷◌}
use Rattle.lts.specs.Sets.{union}

-- the union of f q over the numbers q of a list
unfoldable pub union_all : (ℕ → ℕ) → List ℕ → ℕ
union_all f [] = 0
union_all f (q ∷ qs) = union (f q) (union_all f qs)
