-- What a written card holds and means, and what reading makes of it. Assumes nothing.
use Rattle.std.specs.Prelude.{ℕ, Ok, Err, vec_items, Result}
use Rattle.lts.specs.System.{System}
use Rattle.cards.specs.declared.written_card.WrittenCard.{WrittenCard}
use Rattle.cards.specs.Contents.{Contents}
use Rattle.cards.specs.Lines.{system_of}

-- what a card holds, with these passing states beside it
abbrev pub contents_with : ℕ → WrittenCard → Contents
contents_with passing c = record { states = c.states; start = c.start; lines = vec_items c.lines; passing = passing }

abbrev pub contents : WrittenCard → Contents
contents c = contents_with 0 c

-- the system that a card means
abbrev pub system : WrittenCard → System
system c = system_of c.states c.start (vec_items c.lines)

-- what reading tells, and what is held afterwards: a refusal leaves all as it stood
abbrev pub told : {A F : Type 0} → Result A F → Result (Unit {0}) F
told (Ok c) = Ok tt
told (Err e) = Err e

abbrev pub after_of : {A B F : Type 0} → (A → B) → B → Result A F → B
after_of f old (Ok c) = f c
after_of f old (Err e) = old

abbrev pub after : {F : Type 0} → Contents → Result Contents F → Contents
after old r = after_of (λ c. c) old r
