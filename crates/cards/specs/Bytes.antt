-- Cards and tests as files of bytes. Assumes nothing.
use Rattle.std.specs.Prelude.{ℕ, ◌+◌, ◌*◌, ◌/◌, ◌%◌, ◌^◌, Bool, cond, List, map, length, take, Ok, Err, Result, ◌==◌, slice_index}
use Rattle.std.specs.List.{range_with_len}
use Rattle.cards.specs.declared.faults.Reason.TheVariants.{Trailing}
use Rattle.cards.specs.declared.faults.CardFault.{CardFault}
use Rattle.cards.specs.declared.faults.SideFault.{SideFault}
use Rattle.cards.specs.declared.faults.SideFault.TheVariants.{Left, Right}
use Rattle.cards.specs.declared.faults.WordFault.{WordFault}
use Rattle.cards.specs.declared.lines.Role.{Role}
use Rattle.cards.specs.declared.lines.Role.TheVariants.{Card}
use Rattle.cards.specs.Cards.{after_of}
use Rattle.cards.specs.Contents.{Contents, read_words}
use Rattle.cards.specs.Reading.{fault}

-- a file has at most 323 words: what lies beyond them is not looked at
abbrev pub looked : List ℕ → List ℕ
looked bs = take 1292 bs

-- word i of a file: its bytes from 4 i on, the low byte first
abbrev pub word_at : List ℕ → ℕ → ℕ
word_at bs i = slice_index bs (i * 4) + slice_index bs (i * 4 + 1) * 2 ^ 8 + slice_index bs (i * 4 + 2) * 2 ^ 16 + slice_index bs (i * 4 + 3) * 2 ^ 24

abbrev pub word_count : List ℕ → ℕ
word_count bs = length (looked bs) / 4

-- the whole words of a file
unfoldable pub file_words : List ℕ → List ℕ
file_words bs = map (word_at bs) (range_with_len 0 (word_count bs))

-- whether bytes are left over after the whole words
abbrev pub whole : List ℕ → Bool
whole bs = length (looked bs) % 4 == 0

-- bytes left over are a missing word, which is told already, or follow the end
abbrev pub unless_left : Bool → ℕ → Result Contents WordFault → Result Contents WordFault
unless_left w n (Ok c) = cond w (Ok c) (fault Trailing n)
unless_left w n (Err e) = Err e

abbrev pub in_card : Result Contents WordFault → Result Contents CardFault
in_card (Ok c) = Ok c
in_card (Err e) = Err (record { word = e })

-- what a file of bytes holds, or its first fault
unfoldable pub read_bytes : Role → List ℕ → Result Contents CardFault
read_bytes role bs = in_card (unless_left (whole bs) (word_count bs) (read_words role (file_words bs)))

-- two files: the left one is looked at first, and both are held or none
pub record Sides : Type 0 where
  pub left : Contents
  pub right : Contents

abbrev pub both_sides : Result Contents CardFault → Result Contents CardFault → Result Sides SideFault
both_sides (Ok l) (Ok r) = Ok (record { left = l; right = r })
both_sides (Ok l) (Err e) = Err (Right (record { card = e }))
both_sides (Err e) r = Err (Left (record { card = e }))

unfoldable pub read_sides : List ℕ → List ℕ → Result Sides SideFault
read_sides left right = both_sides (read_bytes Card left) (read_bytes Card right)

-- what each of two cards holds after both files were read: a refusal leaves both as they stood
abbrev pub left_after : Contents → Result Sides SideFault → Contents
left_after old r = after_of (λ s. s.left) old r

abbrev pub right_after : Contents → Result Sides SideFault → Contents
right_after old r = after_of (λ s. s.right) old r
