-- What `find` gives is the first bare set.
use Rattle.std.proofs.Common.{not, rules}
use borrow.Author.Tests.{tests}
use Rattle.std.proofs.lemmas.Iterator.{YieldsList-from_slice}
use Rattle.std.proofs.lemmas.Iterator.Consumers.{YieldsList-from_copied}
use Rattle.std.proofs.lemmas.Iterator.Search.{find_from_yields_List}
use Rattle.traces.specs.Families.{covered}
use Rattle.traces.specs.Offered.{bits_of}
use Rattle.testing.proofs.SetLists.{found_bare}
use Rattle.testing.proofs.splitting.first_bare.Goals as goal

pub returns : goal.returns
returns c =
    let ys = bits_of c.args.rivals.now in
    let found = find_from_yields_List (λ s. not (covered s.bits ys)) _ _ c.find.result c.find.ensures.ran (YieldsList-from_copied (YieldsList-from_slice c.args.sets.now cc))
    (λ x b q k. search (rules, tests)) in
    found_bare _ ys _ found
