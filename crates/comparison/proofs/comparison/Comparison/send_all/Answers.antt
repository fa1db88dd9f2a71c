use Rattle.std.proofs.Common.{get_or, sym, ap, ◌∙◌}
use Rattle.testing.specs.declared.ground.Split.{Split}
use Rattle.comparison.specs.declared.calls.Call.TheVariants.{Begin}
use Rattle.comparison.specs.Pairs.{PairSystem}
use Rattle.comparison.specs.Exploration.{State}
use Rattle.comparison.specs.Calls.{History, state_after}
use Rattle.comparison.specs.Comparing.{Pair}
use Rattle.comparison.specs.Compared.{pairs_of, state_of}
use Rattle.comparison.specs.Reporting.{call_of}
use Rattle.comparison.proofs.Systems.{same_at_first, same_on, same_pairs}
use Rattle.comparison.proofs.ReportSteps.{no_calls, calls_more}
use Rattle.comparison.proofs.comparison.Comparison.send_all.Goals as goal

pub loop-call-init : goal.loop-call-init
loop-call-init c = record {
  same = same_at_first c.args.self.now;
  after = λ h e. sym e ∙ sym (ap (λ (g : History Pair Split). g.state) (no_calls (pairs_of c.args.self.now) h));
}

pub loop-call-preserved : goal.loop-call-preserved
loop-call-preserved c =
    let S = pairs_of c.args.self.now in
    let calls = c.args.calls.now in
    let i = c.loop-call.call-index in
    let call = call_of (get_or calls i (Begin 0)) in
    record {
      same = same_on c.loop-call.invariant.same c.send.ensures.same;
      after = λ h e.
          c.send.ensures.after
          ∙ ap (λ (T : PairSystem Pair Split). state_after T call (state_of c.loop-call.self)) (same_pairs c.loop-call.invariant.same)
          ∙ ap (λ (st : State Pair Split). state_after S call st) (c.loop-call.invariant.after h e)
          ∙ sym (calls_more S h calls i (Begin 0) c.loop-call-test.true);
    }
