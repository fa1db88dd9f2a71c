-- What the line that is printed of two card files is worth, in the words of traces and tests. Assumes nothing.
use Rattle.std.specs.Prelude.{◌≡◌, ◌≢◌, ℕ, List, [], ◌++◌, Ok}
use Rattle.lts.specs.System.{System}
use Rattle.testing.specs.declared.ground.Split.{Split}
use Rattle.testing.specs.Testing.{Alike}
use Rattle.printing.specs.Shown.{newline}
use Rattle.comparison.specs.Exploration.{open', alike, full, apart}
use Rattle.comparison.specs.Promise.{MoreThan, Exactly, ApartBy}
use Rattle.reports.specs.Told.{Told, Two, files}
use Rattle.reports.specs.Printed.{answer_text, line}

-- What is told of two systems is right. ALIKE: no test tells them apart, and there are as many rows as pairs of macrostates met. APART: the trace told
-- is the first to split, on the ground and with the passer told, and its distinguishing test tells the two apart. FULL: more than 2,048 pairs are met.
-- OPEN is never told.
pub record Right (l r : System) (t : Told) : Type 0 where
  pub at_alike : t.answer ≡ alike → Alike l r × Exactly l r t.rows
  pub at_apart : (v : Split) → t.answer ≡ apart v → ApartBy l r t.trace v × Exactly l r t.rows
  pub at_full : t.answer ≡ full → MoreThan l r 2048 × (t.rows ≡ 2048)
  pub never_open : t.answer ≢ open'

-- The line s of two systems is that of what is right of them.
abbrev pub SystemsRight : System → System → List ℕ → Type 0
SystemsRight l r s = (t : Told) × (s ≡ line (Ok t)) × Right l r t

-- The line s of two files. Of two good ones it is the line of what is right of their cards. One that says ALIKE is of two good files, and no test
-- tells their cards apart.
pub record LineRight (left right s : List ℕ) : Type 0 where
  pub told : (two : Two) → files left right ≡ Ok two → SystemsRight two.left two.right s
  pub alike : (n : ℕ) → s ≡ answer_text alike n [] ++ newline → (two : Two) × (files left right ≡ Ok two) × Alike two.left two.right
