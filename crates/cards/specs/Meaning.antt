-- What the words of a card or a test say, word by word. Assumes nothing.
use Rattle.std.specs.Prelude.{ℕ, ◌<◌, ◌↔◌, List}
use mathlib.Core.List.{Memᴰ}
use Rattle.lts.specs.Sets.{In}
use Rattle.lts.specs.System.{System}
use Rattle.cards.specs.declared.lines.Label.TheVariants.{Action, Silent}
use Rattle.cards.specs.Words.{line_word, passing_word}

-- an action leads from p to q exactly when the word of that line is there, and a silent transition when that of the silent line is
pub record Says (ws : List ℕ) (m : System) : Type 0 where
  pub visible : (p a q : ℕ) → p < 64 → a < 32 → q < 64 → In q (m.visible p a) ↔ Memᴰ (line_word (record { from = p; label = Action a; to = q })) ws
  pub hidden : (p q : ℕ) → p < 64 → q < 64 → In q (m.hidden p) ↔ Memᴰ (line_word (record { from = p; label = Silent; to = q })) ws

-- a state is passing exactly when its word is there
abbrev pub SaysPassing : List ℕ → ℕ → Type 0
SaysPassing ws passing = (q : ℕ) → q < 64 → In q passing ↔ Memᴰ (passing_word q) ws
