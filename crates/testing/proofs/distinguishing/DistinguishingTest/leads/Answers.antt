use Rattle.std.proofs.Common.{◌∙◌, ap, sym, arith, length, get_or, subst, ◌<◌, ◌≤◌, ◌≢◌, List, ℕ, rules}
use Rattle.testing.proofs.Rungs.{leads_some, leads_end, leads_beyond}
use Rattle.testing.proofs.distinguishing.DistinguishingTest.leads.Goals as goal

pub returns-in-Some : goal.returns-in-Some
returns-in-Some c =
    let k = c.in-Some.ensures.lookup.3 in
    sym (leads_some c.args.self.now.ground c.args.self.now.trace.items c.args.state c.args.action c.from.result
    (subst (λ (s : List ℕ). c.args.state < length s) c.as_slice.ensures.value k.0)
    (c.from.ensures ∙ k.1 0 ∙ ap (λ (s : List ℕ). get_or s c.args.state 0) c.as_slice.ensures.value)
    (omega arith))

pub returns-then-state-len : goal.returns-then-state-len
returns-then-state-len c =
    c.contains.ensures
    ∙ sym (leads_end c.args.self.now.ground _ _ _ _ (c.if-state-len.true ∙ c.len.ensures.value) c.last_actions.ensures (omega arith))

pub returns-else-state-len : goal.returns-else-state-len
returns-else-state-len c =
    let b : length c.args.self.now.trace.items ≤ c.args.state = rw (← c.as_slice.ensures.value) c.in-None.ensures.lookup.3 in
    let d : c.args.state ≢ length c.args.self.now.trace.items = rw (← c.len.ensures.value) c.if-state-len.false in
    rw (leads_beyond c.args.self.now.ground _ _ c.args.action b d) (search rules)
