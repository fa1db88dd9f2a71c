-- Two counters in a row beside one of both their capacities. Assumes nothing.
use Rattle.std.specs.Prelude.{◌≡◌, ℕ, ◌+◌, cond, List, ◌++◌, Ok, codes, decimal, nat_le}
use Rattle.lts.specs.System.{System}
use Rattle.layers.specs.declared.counter.Counter.{Counter}
use Rattle.layers.specs.Counter.{counter}
use Rattle.layers.specs.Hiding.{hide}
use Rattle.layers.specs.Parallel.{parallel, fits}
use Rattle.printing.specs.Shown.{newline}
use Rattle.reports.specs.Told.{compared}
use Rattle.reports.specs.Printed.{line}
use Rattle.alike_c.specs.declared.counters.Counters.{Counters}

-- the first counts up by action 0 and down by 1, the second up by 1 and down by 2; the third, of both capacities, up by 0 and down by 2
abbrev pub first_counter : ℕ → System
first_counter m = counter m 0 1

abbrev pub second_counter : ℕ → System
second_counter n = counter n 1 2

abbrev pub both_counter : ℕ → ℕ → System
both_counter m n = counter (m + n) 0 2

-- two in a row: action 1, which hands over, is shared and hidden
abbrev pub in_a_row : System → System → System
in_a_row first second = hide 2 (parallel 2 first second)

abbrev pub refused_text : ℕ → List ℕ
refused_text number = codes "REFUSED " ++ (decimal number ++ newline)

-- The line of both in a row beside the third. Capacities that come to more than 63 are refused with 3, and two counters that do not fit with 7.
unfoldable pub counters_text : ℕ → ℕ → List ℕ
counters_text m n =
    cond (nat_le (m + n) 63)
    (cond (fits (first_counter m) (second_counter n)) (line (Ok (compared 2048 (in_a_row (first_counter m) (second_counter n)) (both_counter m n)))) (refused_text 7))
    (refused_text 3)

abbrev pub meant : Counter → System
meant k = counter k.capacity k.input k.output

pub record Made (m n : ℕ) (c : Counters) : Type 0 where
  pub first : meant c.first ≡ first_counter m
  pub second : meant c.second ≡ second_counter n
  pub both : meant c.both ≡ both_counter m n
