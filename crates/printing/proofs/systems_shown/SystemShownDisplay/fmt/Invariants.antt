use Rattle.std.specs.Fmt.{HasWritten, IsPlainFormatter}
use Rattle.printing.specs.Systems.{text_from, actions_text, visible_text, silent_text}
use Rattle.printing.proofs.systems_shown.SystemShownDisplay.fmt.Given as goal

abbrev pub invariant-loop-state : goal.invariant-loop-state
invariant-loop-state g l = IsPlainFormatter l.initial.f → HasWritten g.W.Write.write_str_gives l.initial.f (text_from (visible_text (g.S.Lts.meaning l.self.0.now)) 0 l.state) l.f

abbrev pub invariant-loop-action : goal.invariant-loop-action
invariant-loop-action g l = IsPlainFormatter l.initial.f → HasWritten g.W.Write.write_str_gives l.initial.f (actions_text (g.S.Lts.meaning l.self.0.now) l.state l.action) l.f

abbrev pub invariant-loop-from : goal.invariant-loop-from
invariant-loop-from g l = IsPlainFormatter l.initial.f → HasWritten g.W.Write.write_str_gives l.initial.f (text_from (silent_text (g.S.Lts.meaning l.self.0.now)) 0 l.from) l.f
