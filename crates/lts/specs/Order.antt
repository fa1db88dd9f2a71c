-- Traces, and the order in which they are looked at. Assumes nothing.
use Rattle.std.specs.Prelude.{◌≡◌, ℕ, ◌<◌, ◌⊎◌, List, [], ◌∷◌, length}

-- A trace is a list of actions 0 to 31, the first action first.
abbrev pub Actions : List ℕ → Type 0
Actions [] = Unit {0}
Actions (a ∷ s) = (a < 32) × Actions s

-- Of traces of equal length: the lower action where they first differ.
abbrev pub Lower : List ℕ → List ℕ → Type 0
Lower [] t = ⊥
Lower (a ∷ s) [] = ⊥
Lower (a ∷ s) (b ∷ t) = (a < b) ⊎ ((a ≡ b) × Lower s t)

-- Shorter traces come first, and of equal length the one with the lower action where they first differ.
abbrev pub Before : List ℕ → List ℕ → Type 0
Before s t = (length s < length t) ⊎ ((length s ≡ length t) × Lower s t)

-- s is t or comes before it
abbrev pub UpTo : List ℕ → List ℕ → Type 0
UpTo s t = (s ≡ t) ⊎ Before s t
