use Rattle.std.proofs.Common.{rules}
use borrow.Author.Tests.{tests}
use Rattle.std.proofs.lemmas.Iterator.{YieldsList-from_slice}
use Rattle.std.proofs.lemmas.Iterator.Search.{any_from_yields_List}
use Rattle.lts.specs.Sets.{within}
use Rattle.traces.proofs.FamilySteps.{covered_any}
use Rattle.traces.proofs.family.is_covered.Goals as goal

pub returns : goal.returns
returns c =
    rw (covered_any _ _)
    (any_from_yields_List (λ s. within s.bits c.args.offer.bits) _ _ _ c.any.ensures.ran (YieldsList-from_slice c.args.sets.now cc) (λ x b q k. search (rules, tests)))
