-- What a card or a test file holds, and its words. Assumes nothing.
use Rattle.std.specs.Prelude.{ℕ, ◌+◌, cond, List, [], ◌∷◌, ◌++◌, map, length, take, drop, Ok, Err, Result, nat_le}
use Rattle.lts.specs.Sets.{inserted, members}
use Rattle.cards.specs.declared.faults.ShortBuffer.{ShortBuffer}
use Rattle.cards.specs.declared.faults.WordFault.{WordFault}
use Rattle.cards.specs.declared.lines.Head.{Head}
use Rattle.cards.specs.declared.lines.Line.{Line}
use Rattle.cards.specs.declared.lines.Role.{Role}
use Rattle.cards.specs.Reading.{check, lines_in, passing_in}
use Rattle.cards.specs.Words.{line_word, head_word, passing_word, end_word}

-- the lines are in the order of their words; passing is the set of the passing states, empty for a card
pub record Contents : Type 0 where
  pub states : ℕ
  pub start : ℕ
  pub lines : List Line
  pub passing : ℕ

-- the words of what is held: the head, the lines, the passing states in rising order, the end
unfoldable pub written : Contents → List ℕ
written c =
    head_word (length c.lines) c.start c.states
    ∷ (map line_word c.lines ++ (map passing_word (members c.passing) ++ (end_word ∷ [])))

-- s with the states of a list
unfoldable pub with_all : ℕ → List ℕ → ℕ
with_all s [] = s
with_all s (q ∷ qs) = with_all (inserted 64 q s) qs

abbrev pub contents_of : List ℕ → Head → Contents
contents_of ws h = record { states = h.states; start = h.start; lines = lines_in ws; passing = with_all 0 (passing_in ws) }

abbrev pub held : List ℕ → Result Head WordFault → Result Contents WordFault
held ws (Ok h) = Ok (contents_of ws h)
held ws (Err e) = Err e

-- what the words of a card or a test hold, or the first fault
unfoldable pub read_words : Role → List ℕ → Result Contents WordFault
read_words role ws = held ws (check role ws)

-- words laid over a buffer from a place on; the rest of the buffer stays
abbrev pub laid : ℕ → List ℕ → List ℕ → List ℕ
laid at ws out = take at out ++ (ws ++ drop (at + length ws) out)

-- what writing tells, and what the buffer then holds: one that is too short is refused, and stays as it is
abbrev pub wrote : List ℕ → List ℕ → Result ℕ ShortBuffer
wrote ws out = cond (nat_le (length ws) (length out)) (Ok (length ws)) (Err record {})

abbrev pub buffer : List ℕ → List ℕ → List ℕ
buffer ws out = cond (nat_le (length ws) (length out)) (ws ++ drop (length ws) out) out
