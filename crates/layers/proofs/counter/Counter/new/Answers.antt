use Rattle.layers.specs.Counters.{counter_counts}
use Rattle.layers.proofs.counter.Counter.new.Goals as goal

pub returns-clause-counts : goal.returns-clause-counts
returns-clause-counts c = counter_counts c.args.capacity c.args.input c.args.output
