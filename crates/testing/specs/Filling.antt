-- What a distinguishing test holds and means, and what filling it does. Assumes nothing.
use Rattle.std.specs.Prelude.{ℕ, Bool, cond, ◌&&◌, ◌||◌, List, length, Ok, Err, Result, ◌==◌, nat_le, nat_lt}
use Rattle.lts.specs.Sets.{has}
use Rattle.lts.specs.System.{Tester}
use Rattle.testing.specs.declared.distinguishing.DistinguishingTest.{DistinguishingTest}
use Rattle.testing.specs.declared.distinguishing.TraceFault.{TraceFault}
use Rattle.testing.specs.declared.distinguishing.TraceFault.TheVariants.{TooLong}
use Rattle.testing.specs.declared.ground.Ground.{Ground}
use Rattle.testing.specs.declared.ground.Ground.TheVariants.{Reach, Settle, Offer}
use Rattle.testing.specs.Distinguish.{leads, test_of}

-- the ground and the trace that it holds
abbrev pub held : DistinguishingTest → Ground × List ℕ
held t = (t.ground, t.trace.items)

-- the test that it means
abbrev pub test_meant : DistinguishingTest → Tester
test_meant t = test_of t.ground t.trace.items

-- The number of a refusal: a trace that does not fit is refused with 12.
abbrev pub number : TraceFault → ℕ
number TooLong = 12

-- What filling returns: a trace of at most 62 actions fits, whatever its actions are.
abbrev pub filled : List ℕ → Result (Unit {0}) TraceFault
filled s = cond (nat_le (length s) 62) (Ok tt) (Err TooLong)

-- What a test that held old holds afterwards: a refusal leaves it as it stood.
abbrev pub after : Ground × List ℕ → Ground → List ℕ → Ground × List ℕ
after old g s = cond (nat_le (length s) 62) (g, s) old

-- the actions that lead from the last state but one to the last
abbrev pub offer_of : Ground → ℕ
offer_of Reach = 0
offer_of Settle = 0
offer_of (Offer O) = O.bits

-- the action a leads from state i of the test to the next
abbrev pub leads_on : Ground → List ℕ → ℕ → ℕ → Bool
leads_on g s i a = nat_lt a 32 && (leads s i a || (i == length s && has a (offer_of g)))

-- a silent transition leads from state i of the test of a trace of n actions to the last
abbrev pub silent : Ground → ℕ → ℕ → Bool
silent Reach n i = i == n
silent Settle n i = nat_le i n
silent (Offer O) n i = nat_lt i n
