use Rattle.std.proofs.Common.{vec_items, vec_len, ◌≡◌, ◌∙◌, arith}
use Rattle.traces.proofs.Tabled.{tabled_same, counted, visible_within, hidden_within}
use Rattle.traces.proofs.tabulate.tabulate.Goals as goal

pub invariant_of-result : goal.invariant_of-result
invariant_of-result g c =
    let m = g.S.Lts.meaning c.args.system.now in
    let lawful = g.met.S.Lts.lawful c.args.system.now in
    let small = g.met.S.Lts.small c.args.system.now in
    let starts = lawful.starts in
    let rows = c.in_ok-rows.rows in
    let count : vec_len rows ≡ m.count = rows.ok.0 ∙ counted m lawful (vec_items rows) c.in_ok-rows.ensures in
    record {
      few = omega arith;
      starts = omega (arith, c.start-start.ensures);
      visible_below = visible_within m lawful (vec_len rows) (vec_items rows) count c.in_ok-rows.ensures;
      hidden_below = hidden_within m lawful (vec_len rows) (vec_items rows) count c.in_ok-rows.ensures;
    }

pub returns : goal.returns
returns g c =
    let m = g.S.Lts.meaning c.args.system.now in
    let lawful = g.met.S.Lts.lawful c.args.system.now in
    let rows = c.in_ok-rows.rows in
    tabled_same m lawful _ _ (vec_items rows) (rows.ok.0 ∙ counted m lawful (vec_items rows) c.in_ok-rows.ensures) c.start-start.ensures c.in_ok-rows.ensures
