use Rattle.std.proofs.Common.{rules}
use Rattle.lts.specs.Traces.{offer}
use Rattle.traces.specs.Transitions.{table_of}
use Rattle.traces.proofs.Chains.{made}
use Rattle.testing.proofs.offers.offers.Goals as goal

pub returns : goal.returns
returns c =
    let m = table_of c.args.system.now in
    made _ _ (λ p. record { bits = offer m p }) (λ p y q k. search rules) c.from_fn.result 64 c.from_fn.ensures.items
