-- Worked examples: what is told of two systems, worked out by hand. Assumes nothing.
use Rattle.std.specs.Prelude.{◌≡◌, ℕ, ◌/◌, ◌%◌, List, [], ◌∷◌, ◌++◌, All, Ok, Err, Result, codes}
use Rattle.std.specs.List.{flat_map}
use Rattle.lts.specs.System.{System, Lawful, blank}
use Rattle.cards.specs.declared.faults.Reason.TheVariants.{Range}
use Rattle.cards.specs.declared.faults.SideFault.{SideFault}
use Rattle.cards.specs.declared.faults.SideFault.TheVariants.{Left as InLeft}
use Rattle.cards.specs.declared.lines.Label.TheVariants.{Action, Silent}
use Rattle.cards.specs.declared.lines.Line.{Line}
use Rattle.cards.specs.Lines.{system_of}
use Rattle.layers.specs.Counter.{counter}
use Rattle.layers.specs.Hiding.{hide}
use Rattle.layers.specs.Parallel.{parallel}
use Rattle.printing.specs.Shown.{newline}
use Rattle.testing.specs.declared.ground.Side.{Side}
use Rattle.testing.specs.declared.ground.Side.TheVariants.{Left, Right}
use Rattle.testing.specs.declared.ground.Ground.{Ground}
use Rattle.testing.specs.declared.ground.Ground.TheVariants.{Reach, Settle, Offer}
use Rattle.testing.specs.declared.ground.Split.{Split}
use Rattle.testing.specs.Rule.{split_by}
use Rattle.comparison.specs.Exploration.{Answer, alike, full, apart}
use Rattle.reports.specs.Told.{Told, Two, files, told_of}
use Rattle.reports.specs.Printed.{line}

-- what is compared, with which limit, what is told of it, and the line that is printed
pub record Example : Type 0 where
  pub given : Result Two SideFault
  pub limit : ℕ
  pub expected : Result Told SideFault
  pub printed : List ℕ

abbrev pub systems : System → System → Result Two SideFault
systems l r = Ok (record { left = l; right = r })

abbrev pub tells : Answer Split → ℕ → List ℕ → Result Told SideFault
tells answer rows trace = Ok (record { answer = answer; rows = rows; trace = trace })

abbrev pub apart_by : Ground → Side → Answer Split
apart_by g p = apart (split_by g p)

-- the lines p-a-q and p-h-q
abbrev pub act : ℕ → ℕ → ℕ → Line
act p a q = record { from = p; label = Action a; to = q }

abbrev pub silent : ℕ → ℕ → Line
silent p q = record { from = p; label = Silent; to = q }

-- n states, the first of them the start
abbrev pub lines : ℕ → List Line → System
lines n ls = system_of n 0 ls

-- the file of some words, the low byte of each first
abbrev pub bytes_of : ℕ → List ℕ
bytes_of w = w % 256 ∷ w / 256 % 256 ∷ w / 65536 % 256 ∷ w / 16777216 % 256 ∷ []

abbrev pub file : List ℕ → List ℕ
file ws = flat_map bytes_of ws

-- The two files of examples: after action 0 the left one offers actions 1 and 2 together, the right one either of them.
abbrev pub morning : List ℕ
morning = 0x10030003 ∷ 0x20000001 ∷ 0x20000842 ∷ 0x20000882 ∷ 0x50000000 ∷ []

abbrev pub evening : List ℕ
evening = 0x10040004 ∷ 0x20000001 ∷ 0x20000002 ∷ 0x20000843 ∷ 0x20001083 ∷ 0x50000000 ∷ []

-- the left one with 2 states, which the third word exceeds
abbrev pub damaged : List ℕ
damaged = 0x10030002 ∷ 0x20000001 ∷ 0x20000842 ∷ 0x20000882 ∷ 0x50000000 ∷ []

abbrev pub blanks : Example
blanks = record {
  given = systems blank blank;
  limit = 2048;
  expected = tells alike 1 [];
  printed = codes "ALIKE rows 1";
}

abbrev pub offers_differ : Example
offers_differ = record {
  given = files (file morning) (file evening);
  limit = 2048;
  expected = tells (apart_by (Offer (record { bits = 0xFFFFFFFD })) Left) 1 (0 ∷ []);
  printed = codes "APART rows 1 ground OFFER passer LEFT offer FFFFFFFD track 0";
}

abbrev pub left_damaged : Example
left_damaged = record {
  given = files (file damaged) (file evening);
  limit = 2048;
  expected = Err (InLeft (record { card = record { word = record { reason = Range; place = 2 } } }));
  printed = codes "FAULT LEFT 3 at 2";
}

-- an endless silent run from the start, and the same with an action
abbrev pub idle : List Line
idle = silent 0 0 ∷ []

abbrev pub idle_able : List Line
idle_able = act 0 0 0 ∷ silent 0 0 ∷ []

abbrev pub one_converges : Example
one_converges = record {
  given = systems blank (lines 1 idle);
  limit = 2048;
  expected = tells (apart_by Settle Left) 0 [];
  printed = codes "APART rows 0 ground SETTLE passer LEFT offer 00000000 track -";
}

-- where neither is convergent, it still counts what can be done
abbrev pub one_can : Example
one_can = record {
  given = systems (lines 1 idle) (lines 1 idle_able);
  limit = 2048;
  expected = tells (apart_by Reach Right) 1 (0 ∷ []);
  printed = codes "APART rows 1 ground REACH passer RIGHT offer 00000000 track 0";
}

-- a silent choice, of action 0 or of actions 0 and 1; and action 1, or a silent step and then action 0
abbrev pub two_ways : List Line
two_ways = silent 0 1 ∷ silent 0 2 ∷ act 1 0 3 ∷ act 2 0 3 ∷ act 2 1 3 ∷ []

abbrev pub one_way : List Line
one_way = silent 0 1 ∷ act 1 0 2 ∷ act 0 1 2 ∷ []

abbrev pub same_offers : Example
same_offers = record {
  given = systems (lines 4 two_ways) (lines 3 one_way);
  limit = 2048;
  expected = tells alike 2 [];
  printed = codes "ALIKE rows 2";
}

-- three states in a ring
abbrev pub ring : List Line
ring = act 0 0 1 ∷ act 1 0 2 ∷ act 2 0 0 ∷ []

abbrev pub ring_alike : Example
ring_alike = record {
  given = systems (lines 3 ring) (lines 3 ring);
  limit = 3;
  expected = tells alike 3 [];
  printed = codes "ALIKE rows 3";
}

abbrev pub ring_full : Example
ring_full = record {
  given = systems (lines 3 ring) (lines 3 ring);
  limit = 2;
  expected = tells full 2 [];
  printed = codes "FULL rows 2";
}

-- Two counters of capacity 1 behind one another, with what passes between them hidden, are like one of capacity 2.
abbrev pub counters : Example
counters = record {
  given = systems (hide 2 (parallel 2 (counter 1 0 1) (counter 1 1 2))) (counter 2 0 2);
  limit = 2048;
  expected = tells alike 3 [];
  printed = codes "ALIKE rows 3";
}

abbrev pub examples : List Example
examples = blanks ∷ offers_differ ∷ left_damaged ∷ one_converges ∷ one_can ∷ same_offers ∷ ring_alike ∷ ring_full ∷ counters ∷ []

-- The systems are lawful, so the main theorem speaks of them;
abbrev pub BothLawful : Result Two SideFault → Type 0
BothLawful (Ok s) = Lawful s.left × Lawful s.right
BothLawful (Err e) = Unit {0}

-- and what is told, and the line printed of it, are what is expected.
pub record AsExpected (e : Example) : Type 0 where
  pub lawful : BothLawful e.given
  pub told : told_of e.limit e.given ≡ e.expected
  pub printed : line (told_of e.limit e.given) ≡ e.printed ++ newline

abbrev pub Worked : Type 0
Worked = All AsExpected examples
