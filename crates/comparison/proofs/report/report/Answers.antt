use Rattle.std.proofs.Common.{◌≡◌, sym, ap, subst, ◌∙◌}
use Rattle.testing.specs.declared.ground.Split.{Split}
use Rattle.comparison.specs.Pairs.{PairSystem}
use Rattle.comparison.specs.Calls.{opened, history, history_from}
use Rattle.comparison.specs.Comparing.{Pair, pairs}
use Rattle.comparison.specs.Compared.{pairs_of, state_of}
use Rattle.comparison.specs.Report.{Report, PromiseKept, RowsTold}
use Rattle.comparison.specs.Reporting.{calls_of}
use Rattle.comparison.proofs.Systems.{same_pairs}
use Rattle.comparison.proofs.Reported.{report_theorem, rows_reported}
use Rattle.comparison.proofs.ReportSteps.{told_in}
use Rattle.comparison.proofs.report.report.Goals as goal

pub returns-clause-value : goal.returns-clause-value
returns-clause-value g c =
    let l = g.L.Lts.meaning c.args.left in
    let r = g.R.Lts.meaning c.args.right in
    let calls = calls_of c.args.calls.now in
    let o = c.in_ok-comparison.ensures in
    let compares : pairs_of c.in_ok-comparison.comparison ≡ pairs l r = λ i. pairs (o.left i) (o.right i) in
    let now = c.send_all.new.self in
    let comes_to =
    c.send_all.ensures.after (opened (pairs l r)) (sym o.begun)
    ∙ ap (λ (S : PairSystem Pair Split). (history_from S (opened (pairs l r)) calls).state) compares in
    told_in l r (pairs_of now) (state_of now) (history (pairs l r) calls).state c.args.buffer.now c.copy-copied.new.buffer _ _
    (same_pairs c.send_all.ensures.same ∙ compares) comes_to c.ask-asked.ensures c.copy-copied.ensures.told c.copy-copied.ensures.after

-- what is told is what the calls come to, so it is right as that is
pub returns-clause-promise : goal.returns-clause-promise
returns-clause-promise g c =
    let l = g.L.Lts.meaning c.args.left in
    let r = g.R.Lts.meaning c.args.right in
    let calls = calls_of c.args.calls.now in
    let before = c.args.buffer.now in
    let h = history (pairs l r) calls in
    subst (λ (x : Report). PromiseKept l r h.limit h.total before x) (sym (returns-clause-value g c))
    (report_theorem l r (g.met.L.Lts.lawful c.args.left) (g.met.R.Lts.lawful c.args.right) calls before)

pub returns-clause-rows : goal.returns-clause-rows
returns-clause-rows g c =
    let l = g.L.Lts.meaning c.args.left in
    let r = g.R.Lts.meaning c.args.right in
    let calls = calls_of c.args.calls.now in
    subst (λ (x : Report). RowsTold l r (history (pairs l r) calls).limit x) (sym (returns-clause-value g c))
    (rows_reported l r (g.met.L.Lts.lawful c.args.left) (g.met.R.Lts.lawful c.args.right) calls c.args.buffer.now)
