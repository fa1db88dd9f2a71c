use Rattle.std.proofs.Common.{◌≡◌, ℕ, List, ◌++◌, IfOk, string_bytes, take, ap, ◌∙◌, subst, arith}
use Rattle.printing.specs.Shown.{newline}
use Rattle.comparison.specs.Compared.{pairs_of, state_of}
use Rattle.comparison.specs.Replies.{answer_of}
use Rattle.reports.specs.Printed.{answer_text}
use Rattle.reports.proofs.LineSteps.{text_told}
use Rattle.reports.proofs.lines.comparison_line.Goals as goal

pub returns : goal.returns
returns c =
    let s = c.args.comparison.now in
    let p = c.ask.result in
    let read = ap (λ (k : ℕ). answer_text (answer_of p.answer) p.rows (take k c.copy.new.buffer)) c.unwrap_or-count.ensures in
    let told = text_told (pairs_of s) (state_of s) 2048 p c.copy.result c.copy.new.buffer c.ask.ensures c.copy.ensures.told (c.copy.ensures.few (omega arith)) in
    subst (λ (t : List ℕ). IfOk c.answer_line.result (λ s. string_bytes s ≡ t)) (ap (λ (t : List ℕ). t ++ newline) (read ∙ told)) c.answer_line.ensures
