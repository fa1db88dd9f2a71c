-- The first bare set of a list of sets of actions. Assumes nothing.
use Rattle.std.proofs.Common.{◌≡◌, ℕ, Bool, true, false, cond, not, List, [], ◌∷◌, Option, Some, None, option_map, refl}
use Rattle.std.specs.List.{find}
use Rattle.lts.specs.SetTypes.{ActionSet}
use Rattle.traces.specs.Families.{covered}
use Rattle.traces.specs.Offered.{bits_of}
use Rattle.testing.specs.Rule.{first_bare}

first_bare_find : (l : List ActionSet) (ys : List ℕ) → first_bare (bits_of l) ys ≡ option_map (λ s. s.bits) (find (λ s. not (covered s.bits ys)) l)
unfolding first_bare
first_bare_find [] ys = refl
first_bare_find (x ∷ l) ys = pick (covered x.bits ys) (find (λ s. not (covered s.bits ys)) l) (first_bare_find l ys)
  where
    pick : (b : Bool) (o : Option ActionSet) {w : Option ℕ} → w ≡ option_map (λ s. s.bits) o → cond b w (Some x.bits) ≡ option_map (λ s. s.bits) (cond (not b) (Some x) o)
    pick true o e = e
    pick false o e = refl

-- what `find` gives is the first bare set
pub found_bare : (l : List ActionSet) (ys : List ℕ) (r : Option ActionSet) → option_map (λ s. s) r ≡ find (λ s. not (covered s.bits ys)) l
    → option_map (λ s. s.bits) r ≡ first_bare (bits_of l) ys
found_bare l ys r e = rw (first_bare_find l ys, ← e) (same r)
  where
    same : (r : Option ActionSet) → option_map (λ s. s.bits) r ≡ option_map (λ s. s.bits) (option_map (λ s. s) r)
    same None = refl
    same (Some s) = refl
