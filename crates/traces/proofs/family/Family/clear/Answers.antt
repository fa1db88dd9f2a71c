use Rattle.std.proofs.Common.{arith, rules}
use Rattle.traces.proofs.FamilySteps.{antichain_empty}
use Rattle.traces.proofs.family.Family.clear.Goals as goal

pub invariant_of-self : goal.invariant_of-self
invariant_of-self c =
    let room = c.self.invariant.room in
    let few = c.self.invariant.few in
    record { room = omega arith; few = omega arith; apart = search (rules, antichain_empty) }
