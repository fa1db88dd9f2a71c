use Rattle.std.proofs.Common.{ap, ◌∙◌, arith}
use Rattle.lts.specs.Sets.{members}
use Rattle.lts.proofs.Unions.{joined_more, joined_all}
use Rattle.layers.proofs.Gathered.{silenced_union}
use Rattle.layers.proofs.hide.HideLts.hidden.Goals as goal

pub loop-action-init : goal.loop-action-init
loop-action-init g c =
    let u = silenced_union c.args.self.now.actions.bits (g.C.Lts.meaning c.args.self.now.inner) c.args.state (omega arith) in
    let i = c.into_iter-action-iterator.ensures.into_iter_gives in
    (tt, tt, rw (c.hidden-states.ensures, i, c.members-action-items.ensures.value) u)

pub loop-action-preserved : goal.loop-action-preserved
loop-action-preserved g c =
    (tt, tt, joined_more _ c.loop-action.states.bits _ c.in-Some.action _ _ _ c.loop-action.invariant.2 c.in-Some.ensures.steps (c.union-states.ensures.value ∙ ap (λ s. Rattle.lts.specs.Sets.union c.loop-action.states.bits s) c.visible.ensures))

pub returns : goal.returns
returns g c = joined_all _ c.loop-action.states.bits _ _ c.loop-action.invariant.2 c.in-None.ensures.steps.0
