use Rattle.std.proofs.Common.{rules}
use Rattle.traces.proofs.FamilySteps.{views_equal, views_covered}
use Rattle.traces.proofs.family.Family.same_as.Goals as goal

pub returns : goal.returns
returns c = record { value = search (rules, views_covered); equal = search (rules, views_equal) }
