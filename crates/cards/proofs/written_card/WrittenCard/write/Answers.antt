use Rattle.std.proofs.Common.{length, refl, ap, arith}
use Rattle.std.proofs.lemmas.Nat.{pow_pos}
use Rattle.cards.specs.declared.lines.Role.TheVariants.{Card}
use Rattle.cards.specs.Cards.{contents}
use Rattle.lts.proofs.Lowest.{members_none}
use Rattle.cards.proofs.Written.{written_length}
use Rattle.cards.proofs.Holding.{held_valid}
use Rattle.cards.proofs.RoundTrip.{read_written}
use Rattle.cards.proofs.written_card.WrittenCard.write.Goals as goal

pub returns-clause-again : goal.returns-clause-again
returns-clause-again c =
    let card = c.args.self.now in
    read_written Card (contents card) (held_valid Card 0 card (pow_pos card.states) (λ _. refl))

pub returns-clause-few : goal.returns-clause-few
returns-clause-few c =
    let card = c.args.self.now in
    omega (arith, written_length (contents card), ap length (members_none 0 64), card.few.0, card.lines.ok.0)
