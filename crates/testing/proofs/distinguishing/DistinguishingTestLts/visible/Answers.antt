use Rattle.std.proofs.Common.{◌∙◌, sym, rules}
use Rattle.testing.proofs.Rungs.{visible_is, leads_within}
use Rattle.testing.proofs.distinguishing.DistinguishingTestLts.visible.Goals as goal

pub returns-then-leads : goal.returns-then-leads
returns-then-leads c =
    let i = leads_within c.args.self.now.ground c.args.self.now.trace.items c.args.state c.args.action (sym c.leads.ensures ∙ c.if-leads.true) in
    rw (visible_is, ← c.leads.ensures, c.if-leads.true) (search rules)
