use Rattle.std.proofs.Common.{◌≡◌, ℕ, Ok, sym, refl, ap, ◌∙◌}
use Rattle.cards.specs.declared.lines.Role.TheVariants.{Card}
use Rattle.cards.specs.Cards.{contents, contents_with, after}
use Rattle.cards.specs.Contents.{read_words}
use Rattle.cards.specs.declared.written_card.WrittenCard.{WrittenCard}
use Rattle.cards.proofs.Named.{says_read}
use Rattle.cards.proofs.RoundTrip.{read_back, read_valid}
use Rattle.cards.proofs.written_card.WrittenCard.read.Goals as goal

-- a card has no passing states
held : (ws : _) (p : ℕ) (card : WrittenCard) → read_words Card ws ≡ Ok (contents_with p card) → read_words Card ws ≡ Ok (contents card)
held ws p card e = e ∙ ap (λ (q : ℕ). Ok (contents_with q card)) ((read_valid Card ws _ e).allowed refl)

pub returns-clause-after : goal.returns-clause-after
returns-clause-after c = sym (ap (after (contents c.args.self.now)) (held c.args.words.now _ c.read_as.new.self c.in_ok-read_as.ensures.taken))

pub returns-clause-written : goal.returns-clause-written
returns-clause-written c = read_back Card c.args.words.now _ (held c.args.words.now _ c.read_as.new.self c.in_ok-read_as.ensures.taken)

pub returns-clause-says : goal.returns-clause-says
returns-clause-says c = says_read Card c.args.words.now _ (held c.args.words.now _ c.read_as.new.self c.in_ok-read_as.ensures.taken)
