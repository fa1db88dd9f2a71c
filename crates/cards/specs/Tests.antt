-- What a written test holds and means. Assumes nothing.
use Rattle.std.specs.Prelude.{ℕ, Bool}
use Rattle.lts.specs.Sets.{has}
use Rattle.lts.specs.System.{System}
use Rattle.cards.specs.declared.written_test.WrittenTest.{WrittenTest}
use Rattle.cards.specs.Cards.{contents_with, system}
use Rattle.cards.specs.Contents.{Contents}

abbrev pub test_contents : WrittenTest → Contents
test_contents t = contents_with t.passing.bits t.card

abbrev pub test_system : WrittenTest → System
test_system t = system t.card

abbrev pub test_passes : WrittenTest → ℕ → Bool
test_passes t q = has q t.passing.bits
