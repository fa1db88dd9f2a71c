-- The line that is printed of what is told. Assumes nothing.
use Rattle.std.specs.Prelude.{ℕ, List, ◌++◌, Ok, Err, Result, codes, decimal}
use Rattle.cards.specs.declared.faults.SideFault.{SideFault}
use Rattle.cards.specs.declared.faults.SideFault.TheVariants.{Left as InLeft, Right as InRight}
use Rattle.cards.specs.declared.faults.WordFault.{WordFault}
use Rattle.cards.specs.Faults.{number}
use Rattle.printing.specs.Numerals.{hex_word}
use Rattle.printing.specs.Shown.{newline}
use Rattle.printing.specs.Trails.{numbers_text}
use Rattle.testing.specs.declared.ground.Side.{Side}
use Rattle.testing.specs.declared.ground.Side.TheVariants.{Left, Right}
use Rattle.testing.specs.declared.ground.Ground.{Ground}
use Rattle.testing.specs.declared.ground.Ground.TheVariants.{Reach, Settle, Offer}
use Rattle.testing.specs.declared.ground.Split.{Split}
use Rattle.testing.specs.Filling.{offer_of}
use Rattle.comparison.specs.Exploration.{Answer, open', alike, full, apart}
use Rattle.reports.specs.Told.{Told, files, told_of}

abbrev pub side_text : Side → List ℕ
side_text Left = codes "LEFT"
side_text Right = codes "RIGHT"

-- a ground by its name; its offer is all 0 where it has none
abbrev pub name_of : Ground → List ℕ
name_of Reach = codes "REACH"
name_of Settle = codes "SETTLE"
name_of (Offer O) = codes "OFFER"

abbrev pub rows_text : ℕ → List ℕ
rows_text n = codes " rows " ++ decimal n

-- how the trace s splits, with its actions or a dash
abbrev pub split_text : Split → List ℕ → List ℕ
split_text v s =
    codes " ground "
    ++ (name_of v.ground ++ (codes " passer " ++ (side_text v.passer ++ (codes " offer " ++ (hex_word (offer_of v.ground) ++ (codes " track" ++ numbers_text s))))))

abbrev pub answer_text : Answer Split → ℕ → List ℕ → List ℕ
answer_text open' n s = codes "OPEN" ++ rows_text n
answer_text alike n s = codes "ALIKE" ++ rows_text n
answer_text full n s = codes "FULL" ++ rows_text n
answer_text (apart v) n s = codes "APART" ++ (rows_text n ++ split_text v s)

-- the number of the reason, and the place of the word
abbrev pub place_text : WordFault → List ℕ
place_text f = decimal (number f.reason) ++ (codes " at " ++ decimal f.place)

abbrev pub side_fault_text : SideFault → List ℕ
side_fault_text (InLeft f) = codes "FAULT LEFT " ++ place_text f.card.word
side_fault_text (InRight f) = codes "FAULT RIGHT " ++ place_text f.card.word

abbrev pub line : Result Told SideFault → List ℕ
line (Ok t) = answer_text t.answer t.rows t.trace ++ newline
line (Err e) = side_fault_text e ++ newline

-- the line of two card files
abbrev pub files_line : List ℕ → List ℕ → List ℕ
files_line left right = line (told_of 2048 (files left right))
