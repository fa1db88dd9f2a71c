use Rattle.std.proofs.Common.{◌≡◌, ◌++◌, take}
use Rattle.alike_c.proofs.calls.push_trace.Given as goal

abbrev pub invariant-loop-action : goal.invariant-loop-action
invariant-loop-action l = l.replies.items ≡ l.initial.replies.items ++ take l.action-index l.trace
