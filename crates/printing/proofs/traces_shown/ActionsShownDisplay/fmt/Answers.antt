use Rattle.std.proofs.Common.{rules, ℕ, refl, sym, ap, ◌∙◌}
use Rattle.std.proofs.Output.{has_written_of_eq}
use Rattle.std.proofs.lemmas.Iterator.{YieldsList-from_map, YieldsList-from_slice, items_from_drains}
use Rattle.std.proofs.lemmas.List.{map-id}
use Rattle.printing.specs.Trails.{numbers_text}
use Rattle.printing.proofs.traces_shown.ActionsShownDisplay.fmt.Goals as goal

pub returns-clause-writes : goal.returns-clause-writes
returns-clause-writes g c p k =
    let trace = c.args.self.now.0.now in
    let shown = c.write_numbers.ensures k in
    let taken = sym (map-id shown.0) ∙ items_from_drains shown.0 (shown.1.1.0, shown.1.1.1, λ _. (shown.1.0, shown.1.1.2)) (YieldsList-from_map _ (λ (x : ℕ). x) (YieldsList-from_slice trace cc) refl (λ x r q k. search rules)) ∙ map-id trace in
    has_written_of_eq _ _ _ _ _ (ap numbers_text taken) (shown.2 p)
