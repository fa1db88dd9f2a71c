-- Bounded counters: what one means, and what making one returns. Assumes nothing.
use Rattle.std.specs.Prelude.{◌≡◌, ℕ, ◌+◌, ◌-◌, ◌^◌, ◌≤◌, Bool, cond, ◌&&◌, ◌⊎◌, ◌↔◌, Ok, Err, Result, ◌==◌, nat_le, nat_lt}
use Rattle.lts.specs.Sets.{In, union}
use Rattle.lts.specs.System.{System}
use Rattle.layers.specs.declared.counter.CounterFault.{CounterFault}
use Rattle.layers.specs.declared.counter.CounterFault.TheVariants.{Capacity, Action}

-- the set of q alone, if b; otherwise the empty set
abbrev pub only : Bool → ℕ → ℕ
only b q = cond b (2 ^ q) 0

-- where action a leads from k by counting up, and by counting down, in a counter of capacity c
abbrev pub raised : ℕ → ℕ → ℕ → ℕ → ℕ
raised c input k a = only (a == input && nat_lt k c) (k + 1)

abbrev pub lowered : ℕ → ℕ → ℕ → ℕ → ℕ
lowered c output k a = only (a == output && (nat_le k c && nat_lt 0 k)) (k - 1)

-- The counter of capacity c: states 0 to c; the input action counts up by one below c, the output action down by one above 0. If they are one action, it does both.
abbrev pub counter : ℕ → ℕ → ℕ → System
counter c input output = record {
  count = c + 1;
  start = 0;
  visible = λ k a. union (raised c input k a) (lowered c output k a);
  hidden = λ k. 0;
}

-- The same by membership.
pub record Counts (c input output : ℕ) (m : System) : Type 0 where
  pub count : m.count ≡ c + 1
  pub start : m.start ≡ 0
  pub visible : (k a q : ℕ) → In q (m.visible k a) ↔ ((a ≡ input) × (q ≡ k + 1) × (q ≤ c)) ⊎ ((a ≡ output) × (k ≡ q + 1) × (k ≤ c))
  pub hidden : (k : ℕ) → m.hidden k ≡ 0

-- The number of a refusal: what cannot be a counter is refused with 3.
abbrev pub number : CounterFault → ℕ
number Capacity = 3
number Action = 3

-- What making a counter returns, with the three numbers that it holds; the capacity is looked at first.
abbrev pub made : ℕ → ℕ → ℕ → Result (ℕ × ℕ × ℕ) CounterFault
made c input output = cond (nat_lt 63 c) (Err Capacity) (cond (nat_le input 31 && nat_le output 31) (Ok (c, input, output)) (Err Action))
