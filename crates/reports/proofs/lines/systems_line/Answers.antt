use Rattle.std.proofs.Common.{◌≡◌, ℕ, List, Ok, IfOk, string_bytes, subst, ap}
use Rattle.reports.specs.Told.{Told, compared}
use Rattle.reports.specs.Printed.{line}
use Rattle.reports.proofs.LineSteps.{compared_by}
use Rattle.reports.proofs.PromiseSteps.{ok_kept, right}
use Rattle.reports.proofs.lines.systems_line.Goals as goal

pub returns : goal.returns
returns g c =
    let l = g.L.Lts.meaning c.args.left in
    let r = g.R.Lts.meaning c.args.right in
    let told = compared_by l r c.in-Ok.comparison c.advance.new.self c.in-Ok.ensures c.advance.ensures.same c.advance.ensures.after in
    let text : IfOk c.comparison_line.result (λ s. string_bytes s ≡ line (Ok (compared 2048 l r))) =
    subst (λ (t : List ℕ). IfOk c.comparison_line.result (λ s. string_bytes s ≡ t)) (ap (λ (x : Told). line (Ok x)) told) c.comparison_line.ensures in
    let kept = right c.comparison_law.ensures.promise c.comparison_law.ensures.rows l r (g.met.L.Lts.lawful c.args.left) (g.met.R.Lts.lawful c.args.right) in
    record {
      text = text;
      right = ok_kept c.comparison_line.result (λ s e. (compared 2048 l r, e, kept)) text;
    }
