-- The distinguishing test of a ground and a trace. Assumes nothing.
use Rattle.std.specs.Prelude.{ℕ, zero, suc, ◌+◌, ◌^◌, Bool, true, false, cond, ◌&&◌, ◌||◌, ltb, List, [], ◌∷◌, length, ◌==◌, nat_eq, nat_le, nat_lt}
use Rattle.lts.specs.Sets.{has}
use Rattle.lts.specs.System.{System, Tester}
use Rattle.testing.specs.declared.ground.Ground.{Ground}
use Rattle.testing.specs.declared.ground.Ground.TheVariants.{Reach, Settle, Offer}
use Rattle.testing.specs.Testing.{May, Must}

-- a is the action of s at place i
unfoldable pub leads : List ℕ → ℕ → ℕ → Bool
leads [] i a = false
leads (b ∷ s) zero a = b == a
leads (b ∷ s) (suc i) a = leads s i a

-- The ladder of a trace s of n actions: states 0 to n + 1, of which only the last passes. The actions of s lead from each state up to n to
-- the next, those of the set O from n to n + 1, and a silent transition leads to n + 1 from each state up to n at which f is true.
-- What is no action from 0 to 31 leads nowhere, and no transition leaves n + 1.
unfoldable pub ladder : List ℕ → (ℕ → Bool) → ℕ → Tester
ladder s f O = record {
  system = record {
    count = length s + 2;
    start = 0;
    visible = λ i a. cond (nat_lt a 32 && (leads s i a || (i == length s && has a O))) (2 ^ suc i) 0;
    hidden = λ i. cond (nat_le i (length s) && f i) (2 ^ suc (length s)) 0;
  };
  passes = λ i. (i == suc (length s));
}

-- it passes with what can do s: the last silent transition is there only after s
abbrev pub reach_test : List ℕ → Tester
reach_test s = ladder s (λ i. nat_eq i (length s)) 0

-- it passes with what is convergent along s: it can always pass in silence, so only an endless silent run keeps it from that
abbrev pub settle_test : List ℕ → Tester
settle_test s = ladder s (λ i. true) 0

-- after s, and only there, it needs an action of O to pass
abbrev pub offer_test : List ℕ → ℕ → Tester
offer_test s O = ladder s (λ i. ltb i (length s)) O

-- the distinguishing test of a ground and a trace
abbrev pub test_of : Ground → List ℕ → Tester
test_of Reach s = reach_test s
test_of Settle s = settle_test s
test_of (Offer O) s = offer_test s O.bits

-- a test is passed by must on the grounds Settle and Offer, by may on Reach
abbrev pub by_must : Ground → Bool
by_must Reach = false
by_must Settle = true
by_must (Offer O) = true

abbrev pub PassesBy : Bool → System → Tester → Type 0
PassesBy true m e = Must m e
PassesBy false m e = May m e

-- the system passes the distinguishing test of the ground
abbrev pub Passes : Ground → System → Tester → Type 0
Passes g m e = PassesBy (by_must g) m e
