use Rattle.std.proofs.Common.{nat_lt, not, refl, ◌∙◌, rules, arith}
use borrow.Author.Tests.{tests}
use Rattle.std.proofs.lemmas.List.Sums.{prefix_len-le-length}
use Rattle.std.proofs.lemmas.Iterator.{YieldsList-from_slice}
use Rattle.std.proofs.lemmas.Iterator.Search.{position_from_yields_List}
use Rattle.traces.proofs.FamilySteps.{first_or_len}
use Rattle.traces.proofs.family.place_of.Goals as goal

pub returns : goal.returns
returns c =
    let x = c.args.offer.bits in
    let l = c.args.sets.now in
    let found = position_from_yields_List (λ s. nat_lt x s.bits) _ _ c.position.result c.position.ensures.ran (YieldsList-from_slice l cc) (λ x b q k. search (rules, tests)) in
    let place = c.unwrap_or.ensures ∙ first_or_len (λ s. nat_lt x s.bits) l _ _ found refl in
    record { place = place; bound = omega (arith, place, prefix_len-le-length (λ s. not (nat_lt x s.bits)) l) }
