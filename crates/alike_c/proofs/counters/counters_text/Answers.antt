use Rattle.std.proofs.Common.{◌≡◌, ℕ, List, IfOk, string_bytes, subst, ap, ◌∙◌}
use Rattle.lts.specs.SetTypes.{ActionSet}
use Rattle.layers.specs.Parallel.{fitted}
use Rattle.alike_c.specs.Counters.{meant, refused_text}
use Rattle.alike_c.proofs.CounterSteps.{refused_3, refused_7, too_much, too_large, side_by_side}
use Rattle.alike_c.proofs.counters.counters_text.Goals as goal

pub returns-in-Err : goal.returns-in-Err
returns-in-Err c =
    let is_text = ap refused_text (c.number.ensures ∙ refused_3 c.in-Err.fault) ∙ too_much c.args.first c.args.second c.in-Err.ensures in
    subst (λ (t : List ℕ). IfOk c.refused_text.result (λ s. string_bytes s ≡ t)) is_text c.refused_text.ensures

pub returns-in-Err-fit : goal.returns-in-Err-fit
returns-in-Err-fit c =
    let made = c.in-Ok.ensures.1 in
    let is_text = ap refused_text (c.number-in-Err-fit.ensures ∙ refused_7 c.in-Err-fit.fault)
    ∙ too_large c.args.first c.args.second c.in-Ok.ensures.0 _ _ c.in-Err-fit.fault made.first made.second c.in-Err-fit.ensures in
    subst (λ (t : List ℕ). IfOk c.refused_text-in-Err-fit.result (λ s. string_bytes s ≡ t)) is_text c.refused_text-in-Err-fit.ensures

pub returns : goal.returns
returns c =
    let made = c.in-Ok.ensures.1 in
    let two = c.from_bits-between.ensures in
    let both = c.new-2.ensures in
    let row = c.new-in_a_row.ensures in
    let hidden : c.new-in_a_row.result.actions.bits ≡ 2 = ap (λ (a : ActionSet). a.bits) row.actions ∙ two in
    let shared : c.new-in_a_row.result.inner.shared.bits ≡ 2 = (λ i. (row.inner i).shared.bits) ∙ ap (λ (a : ActionSet). a.bits) both.shared ∙ two in
    let left = (λ i. meant (row.inner i).left) ∙ ap meant both.left ∙ made.first in
    let right = (λ i. meant (row.inner i).right) ∙ ap meant both.right ∙ made.second in
    let is_text = side_by_side c.args.first c.args.second c.in-Ok.ensures.0 _ _ _ _ _ hidden shared left right made.both (c.in_default.ensures ∙ (λ i. fitted (made.first i) (made.second i))) in
    subst (λ (t : List ℕ). IfOk c.systems_line.result (λ s. string_bytes s ≡ t)) is_text c.systems_line.ensures.text
