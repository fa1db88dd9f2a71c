use Rattle.lts.specs.Sets.{members}
use Rattle.lts.proofs.Unions.{Joined}
use Rattle.layers.specs.Hiding.{silenced}
use Rattle.layers.proofs.hide.HideLts.hidden.Given as goal

abbrev pub invariant-loop-action : goal.invariant-loop-action
invariant-loop-action g l =
    (goal.iterator-loop-action g).can_next l.action-iterator × (goal.iterator-loop-action g).is_finite l.action-iterator
    × Joined ((g.C.Lts.meaning l.self.inner).visible l.state) l.states.bits (members l.action-iterator.rest) (silenced l.self.actions.bits (g.C.Lts.meaning l.self.inner) l.state 32)
