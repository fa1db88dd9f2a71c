-- What two cards or tests hold after reading, and the text of them. Assumes nothing.
use Rattle.std.proofs.Common.{◌≡◌, ℕ, List, Ok, Result, ap, ◌∙◌, subst}
use Rattle.cards.specs.declared.faults.CardFault.{CardFault}
use Rattle.cards.specs.declared.lines.Role.TheVariants.{Card, Test}
use Rattle.cards.specs.Bytes.{read_bytes}
use Rattle.cards.specs.Cards.{after}
use Rattle.cards.specs.Contents.{Contents}
use Rattle.printing.specs.Experiments.{Tells, card_of, test_of, FilesTell}

-- what is held after reading a good file
held : (old new c : Contents) (r : Result Contents CardFault) → new ≡ after old r → r ≡ Ok c → new ≡ c
held old new c r a e = a ∙ ap (after old) e

-- a text that tells of what is held tells of the files that were read
pub files_tell : (cs ts t : List ℕ) (oldc newc oldd newd : Contents) → newc ≡ after oldc (read_bytes Card cs) → newd ≡ after oldd (read_bytes Test ts) → Tells (card_of newc) (test_of newd) t → FilesTell cs ts t
files_tell cs ts t oldc newc oldd newd ac ad tells c d ec ed =
    subst (λ (x : Contents). Tells (card_of x) (test_of d) t) (held oldc newc c (read_bytes Card cs) ac ec)
    (subst (λ (y : Contents). Tells (card_of newc) (test_of y) t) (held oldd newd d (read_bytes Test ts) ad ed) tells)
