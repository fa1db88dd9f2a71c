use Rattle.std.proofs.Common.{◌≡◌, ℕ, rules, ap, ap₂}
use Rattle.std.proofs.Common.{map}
use Rattle.std.specs.List.{range_with_len}
use Rattle.lts.specs.SetTypes.{StateSet}
use Rattle.traces.specs.declared.transitions.TransitionRow.{TransitionRow}
use Rattle.traces.specs.Tables.{row_of}
use Rattle.traces.proofs.Chains.{made}
use Rattle.traces.proofs.tabulate.row.Goals as goal

pub returns : goal.returns
unfolding row_of
returns g c =
    let m = g.S.Lts.meaning c.args.system.now in
    let visible : c.from_fn.result ≡ map {A = ℕ} {B = StateSet} (λ a. record { bits = m.visible c.args.state a }) (range_with_len 0 32) =
    made _ _ (λ a. record { bits = m.visible c.args.state a }) (λ i y q k. search rules) c.from_fn.result 32 c.from_fn.ensures.items in
    ap₂ {C = TransitionRow} (λ v h. record { visible = v; hidden = h }) visible (ap {B = StateSet} (λ b. record { bits = b }) c.hidden.ensures)
