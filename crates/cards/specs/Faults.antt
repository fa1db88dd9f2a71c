-- The numbers of refusals. Assumes nothing.
use Rattle.std.specs.Prelude.{ℕ}
use Rattle.cards.specs.declared.faults.Reason.{Reason}
use Rattle.cards.specs.declared.faults.Reason.TheVariants.{Missing, Kind, Range, Order, Lines, Trailing}

-- the number under which a refusal is told
abbrev pub number : Reason → ℕ
number Missing = 1
number Kind = 2
number Range = 3
number Order = 4
number Lines = 5
number Trailing = 6

-- that of a buffer that is too short
abbrev pub short_buffer : ℕ
short_buffer = 8
