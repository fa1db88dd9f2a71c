-- What a macrostate shows of a system. Assumes nothing.
use Rattle.std.specs.Prelude.{◌≡◌, true, ◌&&◌}
use Rattle.lts.specs.System.{System}
use Rattle.traces.specs.Macrostates.{Macrostate}
use Rattle.traces.specs.Families.{minimal}
use Rattle.testing.specs.declared.ground.Shown.{Shown}
use Rattle.testing.specs.Judging.{does, settles, minimal_sets}
use Rattle.comparison.specs.Comparing.{can_do}

-- this is what the macrostate x of m shows: the sets count only where m can do the trace and is convergent along it
pub record ShownIn (m : System) (x : Macrostate) (s : Shown) : Type 0 where
  pub able : does s ≡ can_do x
  pub settled : settles s ≡ (can_do x && x.convergent)
  pub sets : settles s ≡ true → minimal_sets s ≡ minimal m x.states
