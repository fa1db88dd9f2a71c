use Rattle.cards.specs.declared.lines.Role.TheVariants.{Test}
use Rattle.cards.proofs.Named.{says_read, passing_read}
use Rattle.cards.proofs.RoundTrip.{read_back, read_valid}
use Rattle.cards.proofs.written_test.WrittenTest.read.Goals as goal

pub invariant_of-self-2 : goal.invariant_of-self-2
invariant_of-self-2 c = record { within = (read_valid Test c.args.words.now _ c.in_ok-self.ensures.taken).passing }

pub returns-clause-written : goal.returns-clause-written
returns-clause-written c = read_back Test c.args.words.now _ c.in_ok-self.ensures.taken

pub returns-clause-says : goal.returns-clause-says
returns-clause-says c = says_read Test c.args.words.now _ c.in_ok-self.ensures.taken

pub returns-clause-passing : goal.returns-clause-passing
returns-clause-passing c = passing_read Test c.args.words.now _ c.in_ok-self.ensures.taken
