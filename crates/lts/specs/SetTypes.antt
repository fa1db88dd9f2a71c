-- Sets of states and of actions, as the program keeps them: a word is a number. Assumes nothing.
use Rattle.std.specs.Prelude.{ℕ}
use Rattle.lts.specs.declared.sets.Set.{Set}

abbrev pub StateSet : Type 0
StateSet = Set ℕ

abbrev pub ActionSet : Type 0
ActionSet = Set ℕ
