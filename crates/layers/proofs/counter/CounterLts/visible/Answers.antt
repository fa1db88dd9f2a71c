use Rattle.std.proofs.Common.{rules}
use lib.Bits.{or_zero_r}
use Rattle.layers.proofs.counter.CounterLts.visible.Goals as goal

pub returns-else-action-self-2 : goal.returns-else-action-self-2
returns-else-action-self-2 c = search (rules, or_zero_r)
