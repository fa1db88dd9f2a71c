use Rattle.std.proofs.Common.{◌≡◌, ℕ, List, [], ◌∷◌, IfOk, subst, ◌∙◌}
use Rattle.cards.specs.declared.lines.Role.TheVariants.{Card}
use Rattle.cards.specs.Contents.{read_words}
use Rattle.alike_c.specs.CardReplies.{words_read}
use Rattle.alike_c.proofs.CardSteps.{words_ok, words_err}
use Rattle.alike_c.proofs.words.read_words.Goals as goal

pub returns-in-Ok : goal.returns-in-Ok
unfolding words_read
returns-in-Ok c =
    subst (λ (t : List ℕ). IfOk c.card_words.result (λ ws. ws.items ≡ t)) (words_ok (read_words Card c.args.words.now) _ _ c.in-Ok.ensures.told c.in-Ok.ensures.after) c.card_words.ensures

pub returns : goal.returns
unfolding words_read
returns c =
    let number = c.from-number.ensures ∙ c.number.ensures in
    c.in_ok-vec-in-Err.ensures.items ∙ (λ i. 3 ∷ number i ∷ c.word.ensures i ∷ []) ∙ words_err (read_words Card c.args.words.now) c.in-Err.fault c.in-Err.ensures.told
