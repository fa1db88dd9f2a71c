use Rattle.std.proofs.Common.{◌^◌, ◌≤◌, arith, pow_mono}
use Rattle.std.proofs.lemmas.Bool.{true≢false}
use Rattle.cards.specs.declared.lines.Role.TheVariants.{Test}
use Rattle.cards.specs.Tests.{test_contents}
use Rattle.lts.proofs.Lowest.{members_few}
use Rattle.cards.proofs.Written.{written_length}
use Rattle.cards.proofs.Holding.{held_valid}
use Rattle.cards.proofs.RoundTrip.{read_written}
use Rattle.cards.proofs.written_test.WrittenTest.write.Goals as goal

pub returns-clause-again : goal.returns-clause-again
returns-clause-again c =
    let t = c.args.self.now in
    read_written Test (test_contents t) (held_valid Test t.passing.bits t.card t.within (λ e. absurd (true≢false e)))

pub returns-clause-few : goal.returns-clause-few
returns-clause-few c =
    let t = c.args.self.now in
    let wide : 2 ^ t.card.states ≤ 2 ^ 64 = pow_mono t.card.sized.1 in
    omega (arith, written_length (test_contents t), members_few t.passing.bits (omega (arith, t.within)), t.card.few.0, t.card.lines.ok.0)
