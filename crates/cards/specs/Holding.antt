-- The system of a written card is lawful. Assumes nothing.
use Rattle.cards.specs.declared.written_card.WrittenCard.{WrittenCard}
use Rattle.cards.specs.Cards.{system}
use Rattle.lts.specs.System.{Lawful}
use Rattle.cards.specs.Meant.{lawful}

pub held_lawful : (c : WrittenCard) → Lawful (system c)
held_lawful c = lawful c.states c.start c.lines.items c.sized.0 c.sized.2 c.sound
