-- The words of the card format, taken apart and put together. Assumes nothing.
use Rattle.std.specs.Prelude.{ℕ, ◌+◌, ◌*◌, ◌/◌, ◌%◌, ◌^◌, Bool, true, false, cond, ◌&&◌, Some, None, Option, ◌==◌}
use Rattle.cards.specs.declared.lines.Label.TheVariants.{Action, Silent}
use Rattle.cards.specs.declared.lines.Line.{Line as LineT}
use Rattle.cards.specs.declared.lines.Word.{Word}
use Rattle.cards.specs.declared.lines.Word.TheVariants.{Line, Passing, End}
use Rattle.cards.specs.declared.lines.Role.{Role}
use Rattle.cards.specs.declared.lines.Role.TheVariants.{Card, Test}

-- the n bits of w from bit k up
abbrev pub bits : ℕ → ℕ → ℕ → ℕ
bits w k n = w / 2 ^ k % 2 ^ n

-- the kind of a word: its top four bits
abbrev pub kind : ℕ → ℕ
kind w = w / 2 ^ 28

-- the word of a line: kind 2 with an action, 3 if silent
abbrev pub line_word : LineT → ℕ
line_word l = elim l.label [
  | Action a ↦ 2 * 2 ^ 28 + l.from * 2 ^ 11 + a * 2 ^ 6 + l.to
  | Silent ↦ 3 * 2 ^ 28 + l.from * 2 ^ 11 + l.to
]

abbrev pub head_word : ℕ → ℕ → ℕ → ℕ
head_word lines start states = 2 ^ 28 + lines * 2 ^ 16 + start * 2 ^ 8 + states

abbrev pub passing_word : ℕ → ℕ
passing_word q = 4 * 2 ^ 28 + q

abbrev pub end_word : ℕ
end_word = 5 * 2 ^ 28

-- a part after the head as a word; bits that have no use are zero
abbrev pub encode : Word → ℕ
encode (Line l) = line_word l
encode (Passing q) = passing_word q
encode End = end_word

abbrev pub is_test : Role → Bool
is_test Card = false
is_test Test = true

-- what a word would be by its kind: only a test has passing states
abbrev pub by_kind : Role → ℕ → Option Word
by_kind role w =
    cond (kind w == 2) (Some (Line (record { from = bits w 11 6; label = Action (bits w 6 5); to = bits w 0 6 })))
    (cond (kind w == 3) (Some (Line (record { from = bits w 11 6; label = Silent; to = bits w 0 6 })))
    (cond (kind w == 4 && is_test role) (Some (Passing (bits w 0 6))) (cond (kind w == 5) (Some End) None)))

-- x, if w is its word: that is, if w has no other bit set
abbrev pub exactly : ℕ → Option Word → Option Word
exactly w None = None
exactly w (Some x) = cond (encode x == w) (Some x) None

-- a word after the head, taken apart, where its kind may stand there and no unused bit is set
unfoldable pub decode : Role → ℕ → Option Word
decode role w = exactly w (by_kind role w)
