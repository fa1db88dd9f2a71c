use Rattle.std.proofs.Common.{rules}
use Rattle.std.proofs.lemmas.Nat.{or_lt}
use Rattle.lts.proofs.SetLaws.{exact_union}
use Rattle.lts.proofs.sets.Set.union.Goals as goal

pub returns-clause-value : goal.returns-clause-value
returns-clause-value g c = search (rules, or_lt)

pub returns-clause-members : goal.returns-clause-members
returns-clause-members g c = exact_union _ _ _ (returns-clause-value g c)
