-- The worked examples of systems side by side, by computation. Assumes nothing.
use Rattle.std.proofs.Common.{◌≡◌, ℕ, ◌≤◌, true, List, [], ◌∷◌, refl, arith}
use Rattle.std.specs.Fmt.{digits}
use Rattle.std.proofs.lemmas.List.Elements.{All-from_recursion}
use Rattle.lts.specs.Sets.{set_of}
use Rattle.lts.specs.System.{Lawful, blank}
use Rattle.traces.specs.Walks.{image, spread, staying, lasting}
use Rattle.traces.specs.Macrostates.{next, next_all, first}
use Rattle.traces.specs.Families.{covered, without, placed, offered, minimal_below}
use Rattle.cards.specs.declared.lines.Line.{Line}
use Rattle.cards.specs.Lines.{targets, lines_fit}
use Rattle.cards.specs.Meant.{lawful}
use Rattle.cards.specs.Reading.{check_from, lines_in, passing_in}
use Rattle.cards.specs.Contents.{read_words, with_all}
use Rattle.cards.specs.Words.{decode}
use Rattle.layers.specs.Counters.{counter_lawful}
use Rattle.layers.specs.Counter.{counter}
use Rattle.layers.specs.Hiding.{silenced, hide}
use Rattle.layers.specs.Silencing.{hide_lawful}
use Rattle.layers.specs.Parallel.{together, separately, parallel}
use Rattle.layers.specs.Composing.{parallel_lawful}
use Rattle.cards.specs.Bytes.{file_words, read_bytes, read_sides}
use Rattle.printing.specs.Numerals.{hex_digits}
use Rattle.testing.specs.Rule.{first_bare}
use Rattle.comparison.specs.Exploration.{sweep, handle, advance}
use Rattle.comparison.specs.Calls.{history_from}
use Rattle.reports.specs.SystemExamples.{act, lines, idle, idle_able, two_ways, one_way, ring, Worked, AsExpected, examples}

blank_lawful : Lawful blank
blank_lawful = record {
  nonempty = omega arith;
  starts = omega arith;
  visible_below = λ p a. omega arith;
  hidden_below = λ p. omega arith;
  visible_outside = λ p a o. refl;
  hidden_outside = λ p o. refl;
  no_action = λ p a o. refl;
}

lines_lawful : (n : ℕ) (ls : List Line) → 1 ≤ n → lines_fit n ls ≡ true → Lawful (lines n ls)
lines_lawful n ls some fit = lawful n 0 ls some (omega arith) fit

line_lawful : Lawful (hide 2 (parallel 2 (counter 1 0 1) (counter 1 1 2)))
line_lawful =
    hide_lawful 2 _ (parallel_lawful 2 _ _ (counter_lawful 1 0 1 (omega arith) (omega arith)) (counter_lawful 1 1 2 (omega arith) (omega arith)))

-- the lines of the two files
abbrev morning_lines : List Line
morning_lines = act 0 0 1 ∷ act 1 1 2 ∷ act 1 2 2 ∷ []

abbrev evening_lines : List Line
evening_lines = act 0 0 1 ∷ act 0 0 2 ∷ act 1 1 3 ∷ act 2 2 3 ∷ []

pub worked : Worked
unfolding set_of image spread staying lasting next next_all first covered without placed offered minimal_below targets lines_fit check_from lines_in passing_in read_words with_all decode silenced together separately first_bare sweep handle advance history_from file_words read_bytes read_sides hex_digits digits
worked = All-from_recursion AsExpected examples (
  record { lawful = (blank_lawful, blank_lawful); told = refl; printed = refl },
  (
    record { lawful = (lines_lawful 3 morning_lines (omega arith) refl, lines_lawful 4 evening_lines (omega arith) refl); told = refl; printed = refl },
    (
      record { lawful = tt; told = refl; printed = refl },
      (
        record { lawful = (blank_lawful, lines_lawful 1 idle (omega arith) refl); told = refl; printed = refl },
        (
          record { lawful = (lines_lawful 1 idle (omega arith) refl, lines_lawful 1 idle_able (omega arith) refl); told = refl; printed = refl },
          (
            record { lawful = (lines_lawful 4 two_ways (omega arith) refl, lines_lawful 3 one_way (omega arith) refl); told = refl; printed = refl },
            (
              record { lawful = (lines_lawful 3 ring (omega arith) refl, lines_lawful 3 ring (omega arith) refl); told = refl; printed = refl },
              (
                record { lawful = (lines_lawful 3 ring (omega arith) refl, lines_lawful 3 ring (omega arith) refl); told = refl; printed = refl },
                (record { lawful = (line_lawful, counter_lawful 2 0 2 (omega arith) (omega arith)); told = refl; printed = refl }, tt),
              ),
            ),
          ),
        ),
      ),
    ),
  ),
)
