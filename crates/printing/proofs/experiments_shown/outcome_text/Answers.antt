use Rattle.std.proofs.Common.{rules, string_bytes}
use Rattle.std.proofs.lemmas.Result.{IfOk-weaker}
use Rattle.testing.specs.Experiments.{tester}
use Rattle.printing.specs.Experiments.{outcome_text, Tells}
use Rattle.printing.proofs.Refused.{refused}
use Rattle.printing.proofs.experiments_shown.outcome_text.Goals as goal

pub returns-in-Ok-clause-text : goal.returns-in-Ok-clause-text
unfolding outcome_text
returns-in-Ok-clause-text g c = search rules

pub returns-in-Ok-clause-law : goal.returns-in-Ok-clause-law
returns-in-Ok-clause-law g c =
    let m = g.S.Lts.meaning c.args.system.now in
    let e = tester (g.T.Lts.meaning c.args.test.now) (g.T.Test.passing c.args.test.now) in
    IfOk-weaker c.to_string.result _ (λ s. Tells m e (string_bytes s)) (λ s same few. (c.in-Ok.outcome, same, c.in-Ok.ensures.law)) c.to_string.ensures.ok

pub returns-in-Some-clause-text : goal.returns-in-Some-clause-text
returns-in-Some-clause-text g c =
    let m = g.S.Lts.meaning c.args.system.now in
    let e = tester (g.T.Lts.meaning c.args.test.now) (g.T.Test.passing c.args.test.now) in
    let same = refused m e c.in-Err.refusal c.in-Some.number c.in-Some.ensures c.in-Err.ensures.value in
    search rules
