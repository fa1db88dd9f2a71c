-- Reading a card, as words. Assumes nothing.
use Rattle.std.proofs.Common.{◌≡◌, Ok, Err, Result, ap}
use Rattle.cards.specs.declared.faults.WordFault.{WordFault}
use Rattle.cards.specs.Cards.{told, after}
use Rattle.cards.specs.Contents.{Contents}
use Rattle.alike_c.specs.CardReplies.{card_words}

-- the card was read
pub words_ok : (r : Result Contents WordFault) (old c : Contents) → Ok tt ≡ told r → c ≡ after old r → card_words (Ok c) ≡ card_words r
words_ok (Ok d) old c k p = ap (λ (x : Contents). card_words (Ok x)) p
words_ok (Err e) old c k p = absurd cc

-- it was refused
pub words_err : (r : Result Contents WordFault) (f : WordFault) → Err f ≡ told r → card_words (Err f) ≡ card_words r
words_err (Ok d) f k = absurd cc
words_err (Err e) f k = cc
