-- Every distinguishing test is a lawful test. Assumes nothing.
use Rattle.std.specs.Prelude.{◌≡◌, ℕ, zero, suc, ◌+◌, ◌^◌, ◌<◌, ◌≤◌, Bool, true, false, cond, ◌&&◌, ◌||◌, List, [], ◌∷◌, length, ◌==◌, nat_le, nat_lt, refl}
use Rattle.std.proofs.Common.{◌⊎◌, inl, inr, arith, suc-le-suc, leb-true, ltb-true}
use Rattle.std.proofs.lemmas.Bool.{and_parts, false≢true, eqb-true}
use Rattle.std.proofs.lemmas.Nat.{pow_pos, pow_below}
use Rattle.lts.specs.Sets.{has}
use Rattle.lts.specs.System.{LawfulTester}
use Rattle.lts.proofs.Membership.{true_T}
use Rattle.testing.specs.declared.ground.Ground.{Ground}
use Rattle.testing.specs.declared.ground.Ground.TheVariants.{Reach, Settle, Offer}
use Rattle.testing.specs.Distinguish.{leads, ladder, test_of}

either : (a b : Bool) → (a || b) ≡ true → (a ≡ true) ⊎ (b ≡ true)
either true b e = inl refl
either false b e = inr e

-- the set of one number, if b
only_below : (b : Bool) (k n : ℕ) → (b ≡ true → k < n) → cond b (2 ^ k) 0 < 2 ^ n
only_below true k n f = pow_below k n (f refl)
only_below false k n f = pow_pos n

only_none : (b : Bool) (k : ℕ) → ¬ (b ≡ true) → cond b (2 ^ k) 0 ≡ 0
only_none true k f = absurd (f refl)
only_none false k f = refl

pub leads_below : (s : List ℕ) (i a : ℕ) → leads s i a ≡ true → i < length s
unfolding leads
leads_below [] i a e = absurd (false≢true e)
leads_below (b ∷ s) zero a e = omega arith
leads_below (b ∷ s) (suc i) a e = suc-le-suc (leads_below s i a e)

module _ (s : List ℕ) (f : ℕ → Bool) (O : ℕ) where
  -- where an action leads on, and where a silent transition does
  abbrev seen : ℕ → ℕ → Bool
  seen i a = nat_lt a 32 && (leads s i a || (i == length s && has a O))

  abbrev unseen : ℕ → Bool
  unseen i = nat_le i (length s) && f i

  seen_within : (i a : ℕ) → seen i a ≡ true → (a < 32) × (i ≤ length s)
  seen_within i a e =
      let b = and_parts _ _ e in (
        ltb-true a 32 b.0,
        elim (either (leads s i a) _ b.1) [
          | inl l ↦ (let c = leads_below s i a l in omega arith)
          | inr o ↦ (let c = eqb-true i (length s) (and_parts _ _ o).0 in omega arith)
        ],
      )

  unseen_within : (i : ℕ) → unseen i ≡ true → i ≤ length s
  unseen_within i e = leb-true i (length s) (and_parts _ _ e).0

  ladder_lawful : LawfulTester (ladder s f O)
  unfolding ladder
  ladder_lawful = record {
    lawful = record {
      nonempty = omega arith;
      starts = omega arith;
      visible_below = λ i a. only_below (seen i a) (suc i) (length s + 2) (λ e. let b = seen_within i a e in omega arith);
      hidden_below = λ i. only_below (unseen i) (suc (length s)) (length s + 2) (λ e. omega arith);
      visible_outside = λ i a o. only_none (seen i a) (suc i) (λ e. let b = seen_within i a e in omega arith);
      hidden_outside = λ i o. only_none (unseen i) (suc (length s)) (λ e. let b = unseen_within i e in omega arith);
      no_action = λ i a o. only_none (seen i a) (suc i) (λ e. let b = seen_within i a e in omega arith);
    };
    passing = λ x t. let e = eqb-true x (suc (length s)) (true_T (x == suc (length s)) t) in omega arith;
  }

pub test_lawful : (g : Ground) (s : List ℕ) → LawfulTester (test_of g s)
test_lawful Reach s = ladder_lawful s _ 0
test_lawful Settle s = ladder_lawful s _ 0
test_lawful (Offer O) s = ladder_lawful s _ O.bits

-- that of a trace of at most 62 actions has at most 64 states
pub test_count : (g : Ground) (s : List ℕ) → (test_of g s).system.count ≡ length s + 2
unfolding ladder
test_count Reach s = refl
test_count Settle s = refl
test_count (Offer O) s = refl

pub test_small : (g : Ground) (s : List ℕ) → length s ≤ 62 → (test_of g s).system.count ≤ 64
test_small g s b = let e = test_count g s in omega arith
