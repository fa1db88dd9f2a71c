-- Lines and faults as text. Assumes nothing.
use Rattle.std.specs.Prelude.{ℕ, List, ◌++◌, codes, decimal}
use Rattle.cards.specs.declared.faults.WordFault.{WordFault}
use Rattle.cards.specs.declared.lines.Label.{Label}
use Rattle.cards.specs.declared.lines.Label.TheVariants.{Action, Silent}
use Rattle.cards.specs.declared.lines.Line.{Line}
use Rattle.cards.specs.Faults.{number}

-- what a line bears: its action, or h
abbrev pub label_text : Label → List ℕ
label_text (Action a) = decimal a
label_text Silent = codes "h"

-- a line, as from-label-to
abbrev pub transition_text : Line → List ℕ
transition_text l = decimal l.from ++ (codes "-" ++ (label_text l.label ++ (codes "-" ++ decimal l.to)))

-- what is wrong with a word: the number of the reason, and the place
abbrev pub word_fault_text : WordFault → List ℕ
word_fault_text f = codes "FAULT " ++ (decimal (number f.reason) ++ (codes " at " ++ decimal f.place))
