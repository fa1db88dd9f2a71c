use Rattle.std.proofs.Common.{rules}
use Rattle.testing.proofs.Rungs.{hidden_is}
use Rattle.testing.proofs.distinguishing.DistinguishingTestLts.hidden.Goals as goal

pub returns-then-is_silent : goal.returns-then-is_silent
returns-then-is_silent c =
    let f = c.args.self.now.fits in rw (hidden_is, ← c.is_silent.ensures, c.if-is_silent.true) (search rules)
