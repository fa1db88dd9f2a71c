use Rattle.std.proofs.Common.{rules, ◌≡◌, ℕ, List, ◌++◌, IfOk, string_bytes, codes, decimal, sym, ap, ◌∙◌, append_assoc, subst}
use Rattle.printing.specs.Shown.{newline}
use Rattle.reports.specs.Printed.{side_text, place_text}
use Rattle.reports.proofs.lines.word_line.Goals as goal

-- the line of a fault, with the text of its side
line_with : List ℕ → ℕ → ℕ → List ℕ
line_with side number place = codes "FAULT " ++ (side ++ (codes " " ++ (decimal number ++ (codes " at " ++ (decimal place ++ newline)))))

pub returns : goal.returns
unfolding line_with
returns c =
    let place = c.args.fault.place in
    let text : IfOk c.format.result (λ s. string_bytes s ≡ line_with c.side_name-side.result.now c.number-number.result place) = search rules in
    let same : line_with c.side_name-side.result.now c.number-number.result place ≡ codes "FAULT " ++ (side_text c.args.side ++ (codes " " ++ (place_text c.args.fault ++ newline))) =
    (λ i. line_with (c.side_name-side.ensures i) (c.number-number.ensures i) place)
    ∙ ap (λ (bs : List ℕ). codes "FAULT " ++ (side_text c.args.side ++ (codes " " ++ bs))) (sym (append_assoc _ _ newline)) in
    subst (λ (t : List ℕ). IfOk c.format.result (λ s. string_bytes s ≡ t)) same text
