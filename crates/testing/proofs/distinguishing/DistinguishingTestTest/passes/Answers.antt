use Rattle.std.proofs.Common.{arith}
use Rattle.std.proofs.lemmas.Bool.Decides.{nat_tests}
use Rattle.testing.specs.TestsLawful.{test_count}
use Rattle.testing.proofs.distinguishing.DistinguishingTestTest.passes.Goals as goal

pub returns-clause-within : goal.returns-clause-within
returns-clause-within c b =
    let e = test_count c.args.self.now.ground c.args.self.now.trace.items in grind (arith, nat_tests)
