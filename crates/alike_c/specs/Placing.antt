-- What a call puts into its caller's buffer, and what it returns. Assumes nothing.
use Rattle.std.specs.Prelude.{◌≡◌, ◌≢◌, ℕ, ◌-◌, ◌^◌, cond, List, ◌++◌, length, drop, nat_le}

-- what is returned where memory is wanting
abbrev pub no_memory : ℕ
no_memory = 2 ^ 64 - 1

-- the items at the head of a buffer, where there is room for all of them; what lies beyond them is as it was
abbrev pub put : {X : Type 0} → List X → List X → List X
put xs buffer = cond (nat_le (length xs) (length buffer)) (xs ++ drop (length xs) buffer) buffer

-- Unless memory was wanting, the number of the items is returned, and they are put into the buffer. Nothing else is touched.
pub record Placed (xs old new : List ℕ) (n : ℕ) : Type 0 where
  pub told : n ≢ no_memory → n ≡ length xs
  pub after : n ≢ no_memory → new ≡ put xs old
  pub untouched : n ≡ no_memory → new ≡ old
