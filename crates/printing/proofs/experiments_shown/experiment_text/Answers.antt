use Rattle.std.proofs.Common.{string_bytes}
use Rattle.std.proofs.lemmas.Result.{IfOk-weaker}
use Rattle.printing.proofs.Held.{files_tell}
use Rattle.printing.proofs.experiments_shown.experiment_text.Goals as goal

pub returns-clause-law : goal.returns-clause-law
returns-clause-law c = IfOk-weaker _ _ _ (λ s. files_tell c.args.card.now c.args.test.now (string_bytes s) _ _ _ _ c.read_bytes.ensures.after c.read_bytes-2.ensures.after) c.outcome_text.ensures.law
