use Rattle.std.proofs.Common.{ap, ◌∙◌, arith}
use Rattle.std.proofs.Output.{has_written_of_eq}
use Rattle.printing.specs.Systems.{targets_text}
use Rattle.lts.specs.Sets.{members}
use Rattle.lts.proofs.Taken.{member_below}
use Rattle.printing.proofs.Members.{drained}
use Rattle.printing.proofs.systems_shown.write_targets.Goals as goal

pub overflow_cast-to : goal.overflow_cast-to
overflow_cast-to g c = let below = member_below _ _ _ c.in-Some.ensures.steps in omega arith

pub returns : goal.returns
returns g c p k =
    let all = drained c.loop-to.yielded c.into_iter-to-iterator.result (_, (_, c.loop-to.yielded_by, c.in-None.ensures.steps)) ∙ ap (λ s. members s.rest) c.into_iter-to-iterator.ensures.into_iter_gives in
    has_written_of_eq _ _ _ _ _ (ap (targets_text c.args.from c.args.label) all) (c.loop-to.invariant.2 p)
