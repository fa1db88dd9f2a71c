use Rattle.std.proofs.Common.{◌≡◌, ◌+◌, map, take}
use Rattle.cards.specs.Contents.{laid}
use Rattle.cards.specs.Words.{line_word}
use Rattle.cards.proofs.writing.write_lines.Given as goal

abbrev pub invariant-loop-line : goal.invariant-loop-line
invariant-loop-line l = (l.place ≡ l.at + l.line-index) × (l.out ≡ laid l.at (map line_word (take l.line-index l.lines)) l.initial.out)
