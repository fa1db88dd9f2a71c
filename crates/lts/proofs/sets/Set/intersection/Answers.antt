use Rattle.std.proofs.Common.{rules}
use Rattle.lts.proofs.SetLaws.{exact_intersection}
use Rattle.lts.proofs.sets.Set.intersection.Goals as goal

pub returns-clause-value : goal.returns-clause-value
returns-clause-value g c = search rules

pub returns-clause-members : goal.returns-clause-members
returns-clause-members g c = exact_intersection _ _ _ (returns-clause-value g c)
