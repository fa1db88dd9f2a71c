use Rattle.std.proofs.Common.{vec_items, sym, ◌∙◌, rules}
use borrow.Author.Tests.{tests}
use Rattle.std.proofs.lemmas.Fn.{filter_same}
use Rattle.std.proofs.lemmas.Iterator.{YieldsList-from_slice}
use Rattle.std.proofs.lemmas.Iterator.Search.{any_from_yields_List}
use Rattle.lts.specs.Sets.{within}
use Rattle.traces.specs.Offered.{free}
use Rattle.traces.proofs.FamilySteps.{none_contains}
use Rattle.traces.proofs.family.leave_out.Goals as goal

pub returns-then-any-clause-items : goal.returns-then-any-clause-items
unfolding free
returns-then-any-clause-items c = filter_same _ (free c.args.offer.bits) _ (λ x b f k. search rules) _ _ c.retain.ensures.filtered

pub returns-else-any-clause-items : goal.returns-else-any-clause-items
returns-else-any-clause-items c =
    let x = c.args.offer.bits in
    let l = vec_items c.args.sets.now in
    let found = any_from_yields_List (λ s. within x s.bits) _ _ _ c.any.ensures.ran (YieldsList-from_slice l cc) (λ s b q k. search (rules, tests)) in
    none_contains x l (sym found ∙ c.if-any.false)
