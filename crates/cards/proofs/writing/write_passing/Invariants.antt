use Rattle.std.proofs.Common.{◌≡◌, ◌+◌, ◌++◌, map, length}
use Rattle.lts.specs.Sets.{members}
use Rattle.cards.specs.Contents.{laid}
use Rattle.cards.specs.Words.{passing_word}
use Rattle.cards.proofs.writing.write_passing.Given as goal

abbrev pub invariant-loop-state : goal.invariant-loop-state
invariant-loop-state l =
    (goal.iterator-loop-state).can_next l.state-iterator × (goal.iterator-loop-state).is_finite l.state-iterator
    × (l.place ≡ l.at + length l.yielded)
    × (l.out ≡ laid l.at (map passing_word l.yielded) l.initial.out)
    × (members l.initial.state-iterator.rest ≡ l.yielded ++ members l.state-iterator.rest)
