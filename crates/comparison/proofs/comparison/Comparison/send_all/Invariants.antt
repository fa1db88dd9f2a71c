use Rattle.std.proofs.Common.{◌≡◌, take}
use Rattle.testing.specs.declared.ground.Split.{Split}
use Rattle.comparison.specs.Calls.{History, history_from}
use Rattle.comparison.specs.Comparing.{Pair}
use Rattle.comparison.specs.Compared.{pairs_of, state_of, SameSystems}
use Rattle.comparison.specs.Reporting.{calls_of}
use Rattle.comparison.proofs.comparison.Comparison.send_all.Given as goal

abbrev pub invariant-loop-call : goal.invariant-loop-call
invariant-loop-call l = record {
  same : SameSystems l.initial.self l.self;
  after : (h : History Pair Split) → h.state ≡ state_of l.initial.self
      → state_of l.self ≡ (history_from (pairs_of l.initial.self) h (calls_of (take l.call-index l.calls))).state;
}
