use Rattle.std.proofs.Common.{◌≡◌, ◌++◌, drop, vec_items, vec_capacity}
use Rattle.cards.specs.Contents.{with_all}
use Rattle.cards.specs.Reading.{lines_in, passing_in}
use Rattle.cards.proofs.collecting.collect.Given as goal

abbrev pub invariant-loop-word : goal.invariant-loop-word
invariant-loop-word l =
    (lines_in l.words ≡ vec_items l.lines ++ lines_in (drop l.word-index l.words))
    × (vec_capacity l.lines ≡ vec_capacity l.initial.lines)
    × (with_all 0 (passing_in l.words) ≡ with_all l.passing.bits (passing_in (drop l.word-index l.words)))
