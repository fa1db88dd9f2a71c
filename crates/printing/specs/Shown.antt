-- A card file as text. Assumes nothing.
use Rattle.std.specs.Prelude.{ℕ, List, [], ◌∷◌, ◌++◌, length, Ok, Err, codes, decimal, Result}
use Rattle.std.specs.List.{flat_map}
use Rattle.cards.specs.declared.faults.CardFault.{CardFault}
use Rattle.cards.specs.declared.faults.WordFault.{WordFault}
use Rattle.cards.specs.declared.lines.Role.TheVariants.{Card}
use Rattle.cards.specs.declared.lines.Line.{Line}
use Rattle.cards.specs.Bytes.{read_bytes}
use Rattle.cards.specs.Contents.{Contents, written}
use Rattle.cards.specs.Display.{transition_text, word_fault_text}
use Rattle.printing.specs.Numerals.{hex_word}

abbrev pub newline : List ℕ
newline = 10 ∷ []

-- a line, as from-label-to
abbrev pub line_text : Line → List ℕ
line_text l = transition_text l ++ newline

abbrev pub lines_text : List Line → List ℕ
lines_text ls = flat_map line_text ls

-- words, each after a blank
abbrev pub words_text : List ℕ → List ℕ
words_text ws = flat_map (λ w. codes " " ++ hex_word w) ws

abbrev pub head_text : Contents → List ℕ
head_text c =
    codes "states " ++ (decimal c.states ++ (codes " start " ++ (decimal c.start ++ (codes " lines " ++ (decimal (length c.lines) ++ newline)))))

-- what a card file is
unfoldable pub card_text : Contents → List ℕ
card_text c = head_text c ++ (lines_text c.lines ++ (codes "words" ++ (words_text (written c) ++ newline)))

-- what is wrong with it
abbrev pub fault_text : WordFault → List ℕ
fault_text f = word_fault_text f ++ newline

-- what is shown of a file
abbrev pub shown_text : Result Contents CardFault → List ℕ
shown_text (Ok c) = card_text c
shown_text (Err e) = fault_text e.word

abbrev pub file_text : List ℕ → List ℕ
file_text bs = shown_text (read_bytes Card bs)
