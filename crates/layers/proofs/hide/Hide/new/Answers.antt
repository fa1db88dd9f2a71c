use Rattle.layers.specs.Silencing.{hide_hides}
use Rattle.layers.proofs.hide.Hide.new.Goals as goal

pub returns-clause-hides : goal.returns-clause-hides
returns-clause-hides g c = hide_hides c.args.actions.bits (g.C.Lts.meaning c.args.inner) (g.met.C.Lts.lawful c.args.inner)
