-- A finite set of numbers is a number: q is a member when bit q is set. Assumes nothing.
use Rattle.std.specs.Prelude.{◌≡◌, ℕ, zero, suc, ◌+◌, ◌*◌, ◌/◌, ◌%◌, ◌^◌, ◌<◌, Bool, not, cond, ◌↔◌, List, [], ◌∷◌, ◌==◌, bit_and, bit_or, nat_lt}
use mathlib.Core.List.{Memᴰ}

-- q is a member of the set s
abbrev pub In : ℕ → ℕ → Type 0
In q s = s / 2 ^ q % 2 ≡ 1

-- the same, as a test
abbrev pub has : ℕ → ℕ → Bool
has q s = s / 2 ^ q % 2 == 1

-- every member of s is one of t
abbrev pub Subset : ℕ → ℕ → Type 0
Subset s t = (q : ℕ) → In q s → In q t

-- s holds the numbers with P, and no other
pub record Exactly (P : ℕ → Type 0) (s : ℕ) : Type 0 where
  pub exact : (q : ℕ) → In q s ↔ P q

abbrev pub union : ℕ → ℕ → ℕ
union s t = bit_or s t

abbrev pub intersection : ℕ → ℕ → ℕ
intersection s t = bit_and s t

-- every member of s is one of t, as a test
abbrev pub within : ℕ → ℕ → Bool
within s t = bit_and s t == s

-- s with q, where q is below w, the width of the set's type; otherwise s
abbrev pub inserted : ℕ → ℕ → ℕ → ℕ
inserted w q s = cond (nat_lt q w) (union s (2 ^ q)) s

-- the set of the numbers below n at which f is true
unfoldable pub set_of : (ℕ → Bool) → ℕ → ℕ
set_of f zero = 0
set_of f (suc n) = cond (f 0) 1 0 + 2 * set_of (λ q. f (suc q)) n

-- the numbers below w that are no members of s
abbrev pub complement : ℕ → ℕ → ℕ
complement w s = set_of (λ q. not (has q s)) w

-- the members of s among the n numbers from k on, in rising order
unfoldable pub members_from : ℕ → ℕ → ℕ → List ℕ
members_from k zero s = []
members_from k (suc n) s = cond (has k s) (k ∷ members_from (suc k) n s) (members_from (suc k) n s)

-- the members of a set of at most 64 bits, in rising order
abbrev pub members : ℕ → List ℕ
members s = members_from 0 64 s

-- every number of the list is above x
abbrev pub Above : ℕ → List ℕ → Type 0
Above x [] = Unit {0}
Above x (y ∷ ys) = (x < y) × Above x ys

-- rising, and so without duplicates
abbrev pub Ascending : List ℕ → Type 0
Ascending [] = Unit {0}
Ascending (x ∷ xs) = Above x xs × Ascending xs

-- xs holds the members of s, each once, in rising order
pub record Lists (s : ℕ) (xs : List ℕ) : Type 0 where
  pub ascending : Ascending xs
  pub exact : (q : ℕ) → Memᴰ q xs ↔ In q s
