-- Families of sets of actions as ascending lists in which no set contains another, and the minimal acceptance sets. Assumes nothing.
use Rattle.std.specs.Prelude.{◌≡◌, ℕ, zero, suc, Bool, true, false, cond, not, ◌&&◌, ◌||◌, ◌⊎◌, List, [], ◌∷◌, ◌==◌, nat_lt}
use Rattle.lts.specs.Sets.{has, within}
use Rattle.lts.specs.System.{System}
use Rattle.lts.specs.Traces.{offer}

-- x stands in the list
abbrev pub Member : ℕ → List ℕ → Type 0
Member x [] = ⊥
Member x (y ∷ ys) = (x ≡ y) ⊎ Member x ys

-- x contains a set of the list
unfoldable pub covered : ℕ → List ℕ → Bool
covered x [] = false
covered x (y ∷ ys) = within y x || covered x ys

-- every set of xs contains one of ys
unfoldable pub all_covered : List ℕ → List ℕ → Bool
all_covered [] ys = true
all_covered (x ∷ xs) ys = covered x ys && all_covered xs ys

-- a set above x that neither contains it nor is contained in it
abbrev pub follows : ℕ → ℕ → Bool
follows x y = nat_lt x y && (not (within x y) && not (within y x))

unfoldable pub followed : ℕ → List ℕ → Bool
followed x [] = true
followed x (y ∷ ys) = follows x y && followed x ys

-- ascending, and no set contains another
unfoldable pub antichain : List ℕ → Bool
antichain [] = true
antichain (x ∷ xs) = followed x xs && antichain xs

-- the sets of the list that do not contain x
unfoldable pub without : ℕ → List ℕ → List ℕ
without x [] = []
without x (y ∷ ys) = cond (within x y) (without x ys) (y ∷ without x ys)

-- x in its place in an ascending list
unfoldable pub placed : ℕ → List ℕ → List ℕ
placed x [] = x ∷ []
placed x (y ∷ ys) = cond (nat_lt x y) (x ∷ y ∷ ys) (y ∷ placed x ys)

-- the minimal sets after one more: nothing changes if x contains one of them, else those that contain x leave
unfoldable pub offered : ℕ → List ℕ → List ℕ
offered x l = cond (covered x l) l (placed x (without x l))

-- the minimal sets after the offers f q of all q of a list
unfoldable pub offered_all : (ℕ → ℕ) → List ℕ → List ℕ → List ℕ
offered_all f [] l = l
offered_all f (q ∷ qs) l = offered_all f qs (offered (f q) l)

-- the minimal sets among the offers of the stable states of S below n
unfoldable pub minimal_below : System → ℕ → ℕ → List ℕ
minimal_below m S zero = []
minimal_below m S (suc n) = let rest = minimal_below m S n in cond (has n S && m.hidden n == 0) (offered (offer m n) rest) rest

-- the minimal acceptance sets of a set of states
abbrev pub minimal : System → ℕ → List ℕ
minimal m S = minimal_below m S m.count
