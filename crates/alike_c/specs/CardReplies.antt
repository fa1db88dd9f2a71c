-- What reading a card replies, as words. Assumes nothing.
use Rattle.std.specs.Prelude.{ℕ, ◌-◌, ◌^◌, List, [], ◌∷◌, length, Ok, Err, Result, min}
use Rattle.cards.specs.declared.faults.WordFault.{WordFault}
use Rattle.cards.specs.declared.lines.Role.TheVariants.{Card}
use Rattle.cards.specs.Contents.{Contents, read_words, written}
use Rattle.cards.specs.Faults.{number}

-- a number as a word: one that is too high, which none told here is, as the highest word
abbrev pub word : ℕ → ℕ
word n = min n (2 ^ 32 - 1)

-- 0, the number of words, and the words that the card is written as; or 3, the number of the fault and its place
abbrev pub card_words : Result Contents WordFault → List ℕ
card_words (Ok c) = 0 ∷ word (length (written c)) ∷ written c
card_words (Err f) = 3 ∷ number f.reason ∷ word f.place ∷ []

unfoldable pub words_read : List ℕ → List ℕ
words_read ws = card_words (read_words Card ws)
