-- What a distinguishing test answers. Assumes nothing.
use Rattle.std.proofs.Common.{◌≡◌, ◌≢◌, ℕ, zero, suc, ◌^◌, ◌<◌, ◌≤◌, true, false, cond, eqb, List, [], ◌∷◌, length, get_or, refl, arith}
use Rattle.std.proofs.lemmas.Bool.Decides.{nat_tests}
use Rattle.lts.specs.Sets.{has}
use Rattle.testing.specs.declared.ground.Ground.{Ground}
use Rattle.testing.specs.declared.ground.Ground.TheVariants.{Reach, Settle, Offer}
use Rattle.testing.specs.Distinguish.{leads, ladder, test_of}
use Rattle.testing.specs.TestsLawful.{leads_below}
use Rattle.testing.specs.Filling.{offer_of, leads_on, silent}

-- the action at a place, if there is one
leads_at : (s : List ℕ) (i a : ℕ) → i < length s → leads s i a ≡ eqb (get_or s i 0) a
unfolding leads
leads_at [] i a b = absurd (omega arith)
leads_at (x ∷ s) zero a b = refl
leads_at (x ∷ s) (suc i) a b = leads_at s i a (omega arith)

-- Before the end of the trace the action at the place of the state leads on, at its end the last actions do, and beyond it none.
pub leads_some : (g : Ground) (s : List ℕ) (i a x : ℕ) → i < length s → x ≡ get_or s i 0 → a < 32 → leads_on g s i a ≡ eqb x a
leads_some g s i a x b e c = let l = leads_at s i a b in rw e (grind (arith, nat_tests))

pub leads_end : (g : Ground) (s : List ℕ) (i a O : ℕ) → i ≡ length s → O ≡ offer_of g → a < 32 → leads_on g s i a ≡ has a O
leads_end g s i a O e o b = let l = leads_below s i a in rw o (grind (arith, nat_tests))

pub leads_beyond : (g : Ground) (s : List ℕ) (i a : ℕ) → length s ≤ i → i ≢ length s → leads_on g s i a ≡ false
leads_beyond g s i a b d = let l = leads_below s i a in grind (arith, nat_tests)

pub leads_within : (g : Ground) (s : List ℕ) (i a : ℕ) → leads_on g s i a ≡ true → i ≤ length s
leads_within g s i a e = let l = leads_below s i a in grind (arith, nat_tests)

pub start_is : (g : Ground) (s : List ℕ) → (test_of g s).system.start ≡ 0
unfolding ladder
start_is Reach s = refl
start_is Settle s = refl
start_is (Offer O) s = refl

pub visible_is : (g : Ground) (s : List ℕ) (i a : ℕ) → (test_of g s).system.visible i a ≡ cond (leads_on g s i a) (2 ^ suc i) 0
unfolding ladder
visible_is Reach s i a = refl
visible_is Settle s i a = refl
visible_is (Offer O) s i a = refl

pub hidden_is : (g : Ground) (s : List ℕ) (i : ℕ) → (test_of g s).system.hidden i ≡ cond (silent g (length s) i) (2 ^ suc (length s)) 0
unfolding ladder
hidden_is Reach s i = grind (arith, nat_tests)
hidden_is Settle s i = grind (arith, nat_tests)
hidden_is (Offer O) s i = grind (arith, nat_tests)

pub passes_is : (g : Ground) (s : List ℕ) (i : ℕ) → (test_of g s).passes i ≡ eqb i (suc (length s))
unfolding ladder
passes_is Reach s i = refl
passes_is Settle s i = refl
passes_is (Offer O) s i = refl
