use Rattle.std.proofs.Common.{◌≡◌, ℕ, List, [], ◌++◌, map, take, get_or, refl, ap, sym, ◌∙◌, append_assoc, append-nil}
use Rattle.comparison.specs.Comparing.{pairs}
use Rattle.comparison.specs.Compared.{pairs_of, state_of}
use Rattle.alike_c.specs.CallReplies.{said, words_of, state_after, words_from, state_from}
use Rattle.alike_c.proofs.CallSteps.{no_words, no_state, state_next, words_next}
use Rattle.alike_c.proofs.calls.make_all.Goals as goal

pub loop-call-init : goal.loop-call-init
loop-call-init c =
    let S = pairs_of c.args.comparison.now in
    let st = state_of c.args.comparison.now in
    let before = c.args.replies.now.items in
    record {
      same = record { left = refl; right = refl };
      after = sym (no_state S st);
      told = sym (append-nil before) ∙ ap (λ (ws : List ℕ). before ++ ws) (sym (no_words S st));
    }

pub loop-call-preserved : goal.loop-call-preserved
loop-call-preserved c =
    let S = pairs_of c.args.comparison.now in
    let st = state_of c.args.comparison.now in
    let before = c.args.replies.now.items in
    let calls = c.as_chunks.result.0.now in
    let k = c.loop-call.call-index in
    let was = c.loop-call.invariant in
    let same = c.make.ensures.same in
    let compares : pairs_of c.loop-call.comparison ≡ S = λ i. pairs (was.same.left i) (was.same.right i) in
    let call : c.new.result ≡ said (get_or calls k []) = c.new.ensures in
    record {
      same = record { left = same.left ∙ was.same.left; right = same.right ∙ was.same.right };
      after = c.make.ensures.after ∙ (λ i. state_after (compares i) (call i) (was.after i)) ∙ sym (state_next S st calls k [] c.loop-call-test.true);
      told =
          c.in_ok-make.ensures.told
          ∙ (λ i. was.told i ++ words_of (compares i) (call i) (was.after i))
          ∙ append_assoc before (words_from S st (map said (take k calls))) (words_of S (said (get_or calls k [])) (state_from S st (map said (take k calls))))
          ∙ ap (λ (ws : List ℕ). before ++ ws) (sym (words_next S st calls k [] c.loop-call-test.true));
    }
