use Rattle.std.proofs.Common.{◌≡◌, ◌<◌, [], length, get_or, arith}
use Rattle.std.proofs.lemmas.List.{get_or_read}
use Rattle.cards.proofs.Tabled.{same_row, tabled_none, tabled_next, rows_filled, rows_set, fits_at, no_line}
use Rattle.cards.proofs.tables.Table.fill.Goals as goal

pub loop-line-init : goal.loop-line-init
loop-line-init c =
    let e = c.fill.ensures.items (λ y e. same_row _ y e.whole) in
    record { tabled = tabled_none _ 33 c.empty.result _ e c.empty.ensures; wide = rows_filled _ 33 c.empty.result _ e }

pub loop-line-preserved : goal.loop-line-preserved
loop-line-preserved c =
    let rows = c.loop-line.self.rows.items in
    let row = c.index_mut-row.result.now in
    let f = fits_at 64 c.args.lines.now c.loop-line.line-index no_line c.requires (omega arith) in
    let room : c.from.result < length rows = omega (arith, f.from_below, c.loop-line.self.wide, c.loop-line.self.rows.ok.0, c.from.ensures) in
    let e : row ≡ get_or rows c.from.result [] = get_or_read rows c.from.result row room c.index_mut-row.ensures.value [] in
    record {
      tabled =
          tabled_next c.args.lines.now c.loop-line.line-index rows row c.insert.new.self c.from.result c.column.result c.from-in-loop-line.result c.requires (omega arith) room
          c.from.ensures c.column.ensures c.from-in-loop-line.ensures e (c.loop-line.invariant.wide c.from.result room) c.insert.ensures.after c.loop-line.invariant.tabled;
      wide = rows_set 33 c.from.result c.column.result rows row c.insert.new.self c.loop-line.invariant.wide room e;
    }
