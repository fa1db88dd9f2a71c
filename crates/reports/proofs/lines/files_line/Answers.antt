use Rattle.std.proofs.Common.{◌≡◌, ℕ, List, IfOk, string_bytes, subst, refl, sym}
use Rattle.reports.specs.Printed.{files_line}
use Rattle.reports.specs.Promised.{LineRight}
use Rattle.reports.proofs.LineSteps.{files_told}
use Rattle.reports.proofs.PromiseSteps.{ok_kept, read_right}
use Rattle.reports.proofs.lines.files_line.Goals as goal

pub returns : goal.returns
returns c =
    let l = c.read_sides.new.left in
    let r = c.read_sides.new.right in
    let same = files_told c.args.left.now c.args.right.now _ _ l r _ c.in_default.ensures.told c.read_sides.ensures.left c.read_sides.ensures.right refl in
    let kept = read_right c.comparison_law.ensures.promise c.comparison_law.ensures.rows c.args.left.now c.args.right.now _ _ l r c.in_default.ensures.told c.read_sides.ensures.left c.read_sides.ensures.right in
    let text : IfOk c.systems_line.result (λ s. string_bytes s ≡ files_line c.args.left.now c.args.right.now) =
    subst (λ (t : List ℕ). IfOk c.systems_line.result (λ s. string_bytes s ≡ t)) same c.systems_line.ensures.text in
    record {
      text = text;
      right = ok_kept c.systems_line.result (λ s e. subst (LineRight c.args.left.now c.args.right.now) (sym e) kept) text;
    }
