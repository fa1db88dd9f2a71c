use Rattle.std.proofs.Common.{take}
use Rattle.std.specs.Fmt.{HasWritten, IsPlainFormatter}
use Rattle.printing.specs.Shown.{lines_text, words_text}
use Rattle.printing.proofs.cards_shown.CardShownDisplay.fmt.Given as goal

abbrev pub invariant-loop-line : goal.invariant-loop-line
invariant-loop-line g l = IsPlainFormatter l.initial.f → HasWritten g.W.Write.write_str_gives l.initial.f (lines_text (take l.line-index l.lines)) l.f

abbrev pub invariant-loop-word : goal.invariant-loop-word
invariant-loop-word g l = IsPlainFormatter l.initial.f → HasWritten g.W.Write.write_str_gives l.initial.f (words_text (take l.word-index l.word-items)) l.f
