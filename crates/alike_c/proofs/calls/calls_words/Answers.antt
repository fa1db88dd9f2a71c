use Rattle.std.proofs.Common.{◌≡◌, ◌++◌, ◌∙◌}
use Rattle.cards.specs.Cards.{system}
use Rattle.comparison.specs.Comparing.{pairs}
use Rattle.comparison.specs.Compared.{pairs_of}
use Rattle.alike_c.specs.CallReplies.{requests, words_from}
use Rattle.alike_c.proofs.CallSteps.{files_replied}
use Rattle.alike_c.proofs.calls.calls_words.Goals as goal

pub returns : goal.returns
returns c =
    let l = c.read_sides.new.left in
    let r = c.read_sides.new.right in
    let o = c.in-Ok.ensures in
    let compares : pairs_of c.in-Ok.comparison ≡ pairs (system l) (system r) = λ i. pairs (o.left i) (o.right i) in
    c.in_ok-make_all.ensures.told
    ∙ (λ i. c.new-replies.ensures.items i ++ words_from (compares i) ((o.begun) i) (requests c.args.calls.now))
    ∙ files_replied c.args.left.now c.args.right.now c.args.calls.now _ _ l r c.in_default.ensures.told c.read_sides.ensures.left c.read_sides.ensures.right
