-- Finite labelled transition systems, as what they mean. Assumes nothing.
use Rattle.std.specs.Prelude.{◌≡◌, ℕ, ◌^◌, ◌<◌, ◌≤◌, Bool, T}

-- The states are the numbers below count. visible p a is the set of the states that action a leads to from p, hidden p the set of those
-- that a silent transition leads to. Sets are numbers (Sets), so a system may have any finite number of states.
pub record System : Type 0 where
  pub count : ℕ
  pub start : ℕ
  pub visible : ℕ → ℕ → ℕ
  pub hidden : ℕ → ℕ

-- The laws: there is a state, the start is one, no set names a number that is none, and what is no state, or no action from 0 to 31, leads nowhere.
pub record Lawful (m : System) : Type 0 where
  pub nonempty : 1 ≤ m.count
  pub starts : m.start < m.count
  pub visible_below : (p a : ℕ) → m.visible p a < 2 ^ m.count
  pub hidden_below : (p : ℕ) → m.hidden p < 2 ^ m.count
  pub visible_outside : (p a : ℕ) → m.count ≤ p → m.visible p a ≡ 0
  pub hidden_outside : (p : ℕ) → m.count ≤ p → m.hidden p ≡ 0
  pub no_action : (p a : ℕ) → 32 ≤ a → m.visible p a ≡ 0

-- the system with one state and no transition
abbrev pub blank : System
blank = record { count = 1; start = 0; visible = λ p a. 0; hidden = λ p. 0 }

-- a test: a system some of whose states pass
pub record Tester : Type 0 where
  pub system : System
  pub passes : ℕ → Bool

-- a lawful test, of any finite number of states: only states pass
pub record LawfulTester (e : Tester) : Type 0 where
  pub lawful : Lawful e.system
  pub passing : (x : ℕ) → T (e.passes x) → x < e.system.count
