use Rattle.std.proofs.Common.{ap, ◌∙◌, arith}
use Rattle.traces.specs.Families.{antichain}
use Rattle.traces.specs.Offered.{bits_of}
use Rattle.traces.proofs.Antichains.{antichain_none}
use Rattle.traces.proofs.family.Family.new.Goals as goal

pub invariant_of-result : goal.invariant_of-result
invariant_of-result c =
    let made = c.in_ok-sets.ensures in
    record {
      room = made.capacity;
      few = omega (arith, made.len);
      apart = ap (λ l. antichain (bits_of l)) made.items ∙ antichain_none;
    }
