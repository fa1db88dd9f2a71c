-- How a trace splits two systems, worked out from what it shows of each. Assumes nothing.
use Rattle.std.specs.Prelude.{◌≡◌, ℕ, Bool, true, false, not, T, ◌↔◌, List, [], Some, None, Option, ◌==◌}
use Rattle.std.specs.Borrow.{Bor}
use Rattle.lts.specs.System.{System, Lawful}
use Rattle.lts.specs.Traces.{CanDo, Convergent}
use Rattle.traces.specs.Macrostates.{macrostate}
use Rattle.traces.specs.Shown.{Accepts}
use Rattle.traces.specs.Families.{minimal}
use Rattle.traces.specs.Offered.{bits_of}
use Rattle.lts.specs.SetTypes.{ActionSet}
use Rattle.testing.specs.declared.ground.Side.{Side}
use Rattle.testing.specs.declared.ground.Side.TheVariants.{Left, Right}
use Rattle.testing.specs.declared.ground.Ground.{Ground}
use Rattle.testing.specs.declared.ground.Ground.TheVariants.{Reach, Settle}
use Rattle.testing.specs.declared.ground.Split.{Split}
use Rattle.testing.specs.declared.ground.Shown.{Shown}
use Rattle.testing.specs.declared.ground.Shown.TheVariants.{Unable, Divergent, Offers}
use Rattle.testing.specs.Splits.{Splits}
use Rattle.testing.specs.Rule.{split_by, offer_rule}

abbrev pub split_on : Ground → Side → Option Split
split_on g p = Some (split_by g p)

-- where both can do the trace: whether each is convergent along it, and the minimal sets
abbrev pub by_convergence : Bool → Bool → List ℕ → List ℕ → Option Split
by_convergence true true xs ys = offer_rule xs ys
by_convergence true false xs ys = split_on Settle Left
by_convergence false true xs ys = split_on Settle Right
by_convergence false false xs ys = None

-- whether each can do the trace, whether each is convergent along it, and the minimal sets
abbrev pub split_rule : Bool → Bool → Bool → Bool → List ℕ → List ℕ → Option Split
split_rule true true cl cr xs ys = by_convergence cl cr xs ys
split_rule true false cl cr xs ys = split_on Reach Left
split_rule false true cl cr xs ys = split_on Reach Right
split_rule false false cl cr xs ys = None

-- whether a system of which this is shown can do the trace, whether it is convergent along it as well, and the minimal sets if so
abbrev pub does : Shown → Bool
does Unable = false
does Divergent = true
does (Offers sets) = true

abbrev pub settles : Shown → Bool
settles Unable = false
settles Divergent = false
settles (Offers sets) = true

abbrev pub minimal_sets : Shown → List ℕ
minimal_sets Unable = []
minimal_sets Divergent = []
minimal_sets (Offers sets) = bits_of sets.now

-- how a trace that shows this of two systems splits them, if it does
abbrev pub told : Shown → Shown → Option Split
told l r = split_rule (does l) (does r) (settles l) (settles r) (minimal_sets l) (minimal_sets r)

-- the trace s shows this of m: whether m can do it, whether it is convergent along it and, if so, its minimal acceptance sets
pub record Shows (m : System) (s : List ℕ) (can convergent : Bool) (xs : List ℕ) : Type 0 where
  pub does : T can ↔ CanDo m s
  pub converges : T convergent ↔ Convergent m s
  pub minimal : T convergent → Accepts m s xs

-- the same, as far as it can matter: convergence where m can do the trace, the minimal sets where m is convergent as well
abbrev pub ShownBy : System → List ℕ → Shown → Type 0
ShownBy m s Unable = ¬ CanDo m s
ShownBy m s Divergent = CanDo m s × (¬ Convergent m s)
ShownBy m s (Offers sets) = CanDo m s × Convergent m s × Accepts m s (bits_of sets.now)

-- What is told from what a trace shows of two systems is how it splits them.
abbrev pub Judges : Type 0
Judges = (l r : System) (s : List ℕ) (x y : Shown) → ShownBy l s x → ShownBy r s y
    → (v : Split) → told x y ≡ Some v ↔ Splits l r s v.ground v.passer

-- what is shown where m can do the trace or not, is convergent along it or not, and has the minimal sets of a list
abbrev pub shown_as : Bool → Bool → Bor (List ActionSet) → Shown
shown_as false c sets = Unable
shown_as true false sets = Divergent
shown_as true true sets = Offers sets

-- What is told of two such is told of the flags and the lists themselves, whatever they are.
abbrev pub ToldAs : Type 0
ToldAs = (dl dr cl cr : Bool) (xs ys : Bor (List ActionSet))
    → told (shown_as dl cl xs) (shown_as dr cr ys) ≡ split_rule dl dr cl cr (bits_of xs.now) (bits_of ys.now)

-- Each of these is shown, whatever they are.
abbrev pub ShownAs : Type 0
ShownAs = (m : System) (s : List ℕ) (can convergent : Bool) (sets : Bor (List ActionSet)) → Shows m s can convergent (bits_of sets.now)
    → ShownBy m s (shown_as can convergent sets)

-- So the rule over them tells how the trace splits two systems.
abbrev pub RuleJudges : Type 0
RuleJudges = (l r : System) (s : List ℕ) (dl dr cl cr : Bool) (xs ys : Bor (List ActionSet)) → Shows l s dl cl (bits_of xs.now) → Shows r s dr cr (bits_of ys.now)
    → (v : Split) → split_rule dl dr cl cr (bits_of xs.now) (bits_of ys.now) ≡ Some v ↔ Splits l r s v.ground v.passer

-- The macrostate after a trace, and its list of minimal sets, are what the trace shows.
abbrev pub MacrostateShows : Type 0
MacrostateShows = (m : System) → Lawful m → (s : List ℕ)
    → Shows m s (not ((macrostate m s).states == 0)) (macrostate m s).convergent (minimal m (macrostate m s).states)
