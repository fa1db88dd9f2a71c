use Rattle.std.proofs.Common.{rules}
use Rattle.lts.proofs.SetLaws.{told_within}
use Rattle.lts.proofs.sets.Set.is_within.Goals as goal

pub returns-clause-value : goal.returns-clause-value
returns-clause-value g c = search rules

pub returns-clause-members : goal.returns-clause-members
returns-clause-members g c = told_within _ _ _ (returns-clause-value g c)
