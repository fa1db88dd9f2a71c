use Rattle.std.proofs.Common.{◌≡◌, drop}
use Rattle.cards.specs.Reading.{check, check_from}
use Rattle.cards.proofs.reading.check.Given as goal

abbrev pub invariant-loop-word : goal.invariant-loop-word
invariant-loop-word l =
    (l.place ≡ l.word-index)
    × (check l.role l.words ≡ check_from l.role l.progress l.word-index (drop l.word-index l.words))
