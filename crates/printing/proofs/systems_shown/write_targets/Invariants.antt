use Rattle.std.specs.Fmt.{HasWritten, IsPlainFormatter}
use Rattle.printing.specs.Systems.{targets_text}
use Rattle.printing.proofs.systems_shown.write_targets.Given as goal

abbrev pub invariant-loop-to : goal.invariant-loop-to
invariant-loop-to g l =
    (goal.iterator-loop-to g).can_next l.to-iterator × (goal.iterator-loop-to g).is_finite l.to-iterator
    × (IsPlainFormatter l.initial.f → HasWritten g.W.Write.write_str_gives l.initial.f (targets_text l.from l.label l.yielded) l.f)
