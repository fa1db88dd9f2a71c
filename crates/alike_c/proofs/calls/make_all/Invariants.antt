use Rattle.std.proofs.Common.{◌≡◌, ◌++◌, map, take}
use Rattle.comparison.specs.Compared.{pairs_of, state_of, SameSystems}
use Rattle.alike_c.specs.CallReplies.{said, words_from, state_from}
use Rattle.alike_c.proofs.calls.make_all.Given as goal

abbrev pub invariant-loop-call : goal.invariant-loop-call
invariant-loop-call l = record {
  same : SameSystems l.initial.comparison l.comparison;
  after : state_of l.comparison ≡ state_from (pairs_of l.initial.comparison) (state_of l.initial.comparison) (map said (take l.call-index l.pairs));
  told : l.replies.items ≡ l.initial.replies.items ++ words_from (pairs_of l.initial.comparison) (state_of l.initial.comparison) (map said (take l.call-index l.pairs));
}
