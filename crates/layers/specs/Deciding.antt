-- Sets that are given by tests: their members through what the tests decide. Assumes nothing.
use Rattle.std.specs.Prelude.{◌≡◌, ℕ, ◌^◌, ◌<◌, ◌≤◌, Bool, true, false, cond, ◌↔◌, Decides, nat_le, refl}
use Rattle.std.proofs.Common.{sym, subst, le-leb, leb-true}
use Rattle.std.proofs.lemmas.Bool.{false≢true}
use Rattle.lts.specs.Sets.{In, has, set_of}
use Rattle.lts.proofs.Membership.{true_T, T_true, in_set, set_in, alone_in, in_alone, not_empty, has_in, in_has}

pub decides_has : (q s : ℕ) → Decides (has q s) (In q s)
decides_has q s = (has_in q s, in_has q s)

pub decides_leb : (m n : ℕ) → Decides (nat_le m n) (m ≤ n)
decides_leb m n = (leb-true m n, le-leb m n)

-- the set of k alone, if a test passes
pub only_members : {P : Type 0} (b : Bool) (q k : ℕ) → Decides b P → In q (cond b (2 ^ k) 0) ↔ P × (q ≡ k)
only_members b q k d = (
  λ h. (let a = alone_in b q k h in (d.0 (true_T b a.0), a.1)),
  λ h. subst (λ x. In x (cond b (2 ^ k) 0)) (sym h.1) (in_alone b k (T_true b (d.1 h.0))),
)

-- the set of the numbers below n at which a test passes
pub set_members : {P : Type 0} (f : ℕ → Bool) (n q : ℕ) → Decides (f q) P → In q (set_of f n) ↔ (q < n) × P
set_members f n q d = (
  λ h. (let a = in_set f n q h in (a.0, d.0 (true_T (f q) a.1))),
  λ h. set_in f n q h.0 (T_true (f q) (d.1 h.1)),
)

-- a set if a test passes, and a set unless it does
pub if_members : {P : Type 0} (b : Bool) (q s : ℕ) → Decides b P → In q (cond b s 0) ↔ P × In q s
if_members true q s d = (λ i. (d.0 refl, i), λ i. i.1)
if_members false q s d = (λ i. absurd (not_empty q 0 i refl), λ i. absurd (false≢true (d.1 i.0)))

pub unless_members : {P : Type 0} (b : Bool) (q s : ℕ) → Decides b P → In q (cond b 0 s) ↔ (¬ P) × In q s
unless_members true q s d = (λ i. absurd (not_empty q 0 i refl), λ i. absurd (i.0 (d.0 refl)))
unless_members false q s d = (λ i. (λ p. false≢true (d.1 p), i), λ i. i.1)
