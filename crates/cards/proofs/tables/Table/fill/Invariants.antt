use Rattle.std.proofs.Common.{take}
use Rattle.cards.specs.Lines.{Tabled}
use Rattle.cards.proofs.Tabled.{Rows}
use Rattle.cards.proofs.tables.Table.fill.Given as goal

abbrev pub invariant-loop-line : goal.invariant-loop-line
invariant-loop-line l = record { tabled : Tabled l.self.rows.items (take l.line-index l.lines); wide : Rows 33 l.self.rows.items }
