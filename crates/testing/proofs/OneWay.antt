-- If r may stand in for l, what may pass with r may pass with l, and what must pass with l must pass with r. Assumes nothing.
use Rattle.std.proofs.Common.{◌≡◌, ℕ, zero, suc, ◌+◌, ◌*◌, ◌<◌, ◌≤◌, T, ◌⊎◌, List, [], ◌∷◌, refl, subst, inl, inr, append-nil, suc-le-suc, zero-le, le_trans, le_refl, suc-mul, arith}
use native.Mathlib.Decide.{ℕ_discrete}
use Rattle.lts.specs.Sets.{In, Subset}
use Rattle.lts.specs.System.{System, Lawful, Tester}
use Rattle.lts.specs.Traces.{Hidden, Visible, Path, done, action, HiddenRun, stay, Divergent, Stable, offer}
use Rattle.lts.proofs.Membership.{some_member, not_empty}
use Rattle.traces.proofs.Cycles.{diverges}
use Rattle.traces.proofs.Walking.{walk_more}
use Rattle.traces.proofs.TraceStates.{run_path}
use Rattle.testing.specs.Testing.{Step, by_system, by_test, by_both, Run, stop, step, Visits, Stuck, Must, May}
use Rattle.testing.specs.Theorems.{Refines, OneWay}
use Rattle.testing.proofs.Laws.{hidden_in, visible_in, offered, offers}
use Rattle.testing.proofs.Runs.{Moves, rest, alone, joint, Within, halt, go, front, whole, apart, combine, Fails, visits_dec, avoiding, not_long, not_ended, convergent_along}

-- a run goes on for n moves of the test, or comes to a divergent state of the system
abbrev pub Many : (m : System) (e : Tester) (P : ℕ → Type 0) → ℕ → ℕ → ℕ → Type 0
Many m e P n p x = (s : List ℕ) × (q : ℕ) × Path m p s q × ((k y : ℕ) × (n ≤ k) × Moves e.system P k x s y)

abbrev pub Loose : (m : System) (e : Tester) (P : ℕ → Type 0) → ℕ → ℕ → Type 0
Loose m e P p x = (s : List ℕ) × (q : ℕ) × Path m p s q × Divergent m q × ((k y : ℕ) × Moves e.system P k x s y)

module _ (m : System) (e : Tester) (P : ℕ → Type 0) (lawful : Lawful m) where
  behind : {n d p q x : ℕ} → HiddenRun m d p q → Many m e P n q x ⊎ Loose m e P q x → Many m e P n p x ⊎ Loose m e P p x
  behind r (inl t) = inl (t.0, t.1, run_path m r t.2, t.3)
  behind r (inr t) = inr (t.0, t.1, run_path m r t.2, t.3, t.4)

  after_alone : {n p x y : ℕ} → P x → Hidden e.system x y → Many m e P n p y ⊎ Loose m e P p y → Many m e P (suc n) p x ⊎ Loose m e P p x
  after_alone h j (inl t) = inl (t.0, t.1, t.2, (suc t.3.0, t.3.1, suc-le-suc t.3.2, alone h j t.3.3))
  after_alone h j (inr t) = inr (t.0, t.1, t.2, t.3, (suc t.4.0, t.4.1, alone h j t.4.2))

  after_joint : {n p q x y : ℕ} (a : ℕ) → P x → Visible m p a q → Visible e.system x a y
      → Many m e P n q y ⊎ Loose m e P q y → Many m e P (suc n) p x ⊎ Loose m e P p x
  after_joint a h i j (inl t) = inl (a ∷ t.0, t.1, action i t.2, (suc t.3.0, t.3.1, suc-le-suc t.3.2, joint h j t.3.3))
  after_joint a h i j (inr t) = inr (a ∷ t.0, t.1, action i t.2, t.3, (suc t.4.0, t.4.1, joint h j t.4.2))

  -- d silent steps of the system from o lie behind, and it takes t more at most before the test moves or it diverges
  pub sorted : {k p x q y : ℕ} → Within m e P k p x q y → (n t d o : ℕ) → HiddenRun m d o p → o < m.count → p < m.count
      → d + t ≡ m.count → t + n * suc m.count ≤ k → Many m e P n o x ⊎ Loose m e P o x
  sorted {p = p} {x = x} w zero t d o r bo bp e b = inl ([], p, run_path m r done, (0, x, zero-le, rest (front m _ P w)))
  sorted {x = x} w (suc n) zero d o r bo bp e b =
      inr ([], o, done, diverges m.hidden m.count (hidden_in m lawful) r bo (omega arith), (0, x, rest (front m _ P w)))
  sorted (halt h) (suc n) (suc t) d o r bo bp e b = absurd (omega arith)
  sorted (go {p = p} {p' = q} h (by_system j) w) (suc n) (suc t) d o r bo bp e b =
      sorted w (suc n) t (suc d) o (walk_more m.hidden r j) bo (hidden_in m lawful p q j) (omega arith) (omega arith)
  sorted (go {p = p} h (by_test j) w) (suc n) (suc t) d o r bo bp e b =
      let s = suc-mul n (suc m.count) in
      behind r (after_alone h j (sorted w n m.count 0 p stay bp bp (omega arith) (omega arith)))
  sorted (go {p = p} {p' = q} h (by_both a i j) w) (suc n) (suc t) d o r bo bp e b =
      let s = suc-mul n (suc m.count) in
      let bq = visible_in m lawful p a q i in
      behind r (after_joint a h i j (sorted w n m.count 0 q stay bq bq (omega arith) (omega arith)))

-- what is stuck beside a test is stable
pub stuck_stable : (m : System) (e : Tester) (p x : ℕ) → Stuck m e p x → Stable m p
stuck_stable m e p x stuck = elim (ℕ_discrete (m.hidden p) 0) [
  | yes h ↦ h
  | no d ↦ (let b = some_member (m.hidden p) d in absurd (stuck b.0 x (by_system b.1)))
]

-- a stable state that offers no more is stuck beside the test where the other is
stuck_too : (l r : System) (e : Tester) → Lawful l → (p q x : ℕ) → Stable l p → Subset (offer l p) (offer r q)
    → Stuck r e q x → {p' x' : ℕ} → Step l e p x p' x' → ⊥
stuck_too l r e ll p q x stable sub stuck (by_system {q = p'} h) = not_empty p' (l.hidden p) h stable
stuck_too l r e ll p q x stable sub stuck (by_test {y = y} h) = stuck q y (by_test h)
stuck_too l r e ll p q x stable sub stuck (by_both {q = p'} {y = y} a i j) =
    let b = some_member (r.visible q a) (offered r q a (sub a (offers l ll p a p' i))) in
    stuck b.0 y (by_both a b.1 j)

module _ (l r : System) (e : Tester) (ll : Lawful l) (lr : Lawful r) (refines : Refines l r) (h : Must l e) where
  -- a run of r that never passes, so long that it has as many moves of the test as l allows, or comes to a divergent state
  long_case : {q y : ℕ} → Within r e (Fails r e) (r.count + h.bound * suc r.count) r.start e.system.start q y → ⊥
  long_case w = elim (sorted r e (Fails r e) lr w h.bound r.count 0 r.start stay lr.starts lr.starts (omega arith) (le_refl _)) [
    | inl t ↦
        (let can = (refines t.0).does (t.1, t.2) in
        let c = combine l e (Fails l e) can.1 t.3.0 e.system.start t.3.1 t.3.3 in
        not_long l e h c.2 (le_trans t.3.2 c.1))
    | inr t ↦
        (let there = convergent_along l e h t.4.2 in
        (refines t.0).converges (t.1, t.2) there t.0 [] (append-nil t.0) t.1 t.2 t.3)
  ]

  -- a run of r that never passes and is stuck
  ended_case : {n q y : ℕ} → Within r e (Fails r e) n r.start e.system.start q y → Stuck r e q y → ⊥
  ended_case {q = q} {y = y} w stuck =
      let a = apart r e (Fails r e) w in
      let there = convergent_along l e h a.2.1 in
      let d = (refines a.0).accepts there (offer r q) (record { state = q; after = a.1; stable = stuck_stable r e q y stuck; offers = refl }) in
      let t = d.1 in
      let c = combine l e (Fails l e) t.after a.2.0 e.system.start y a.2.1 in
      not_ended l e h c.2 (λ q' y' j. stuck_too l r e ll t.state q y t.stable (λ k i. d.2 k (subst (λ (S : ℕ). In k S) t.offers i)) stuck j)

  must_move : Must r e
  must_move = record {
    bound = r.count + h.bound * suc r.count;
    long = λ q y w. elim (visits_dec r e w) [ yes v ↦ v | no f ↦ absurd (long_case (avoiding r e w f)) ];
    ended = λ n q y w stuck. elim (visits_dec r e w) [ yes v ↦ v | no f ↦ absurd (ended_case (avoiding r e w f) stuck) ];
  }

-- no condition on the states of the test
abbrev pub Any : ℕ → Type 0
Any x = Unit {0}

-- a run that visits a passing state, up to there, and back
pub passing_end : (m : System) (e : Tester) {n p x q y : ℕ} (w : Run m e n p x q y) → Visits m e w
    → (k q' y' : ℕ) × Within m e Any k p x q' y' × T (e.passes y')
passing_end m e (stop {p = p} {x = x}) v = (0, p, x, halt tt, v)
passing_end m e (step {p = p} {x = x} j w) (inl t) = (0, p, x, halt tt, t)
passing_end m e (step j w) (inr v) = let a = passing_end m e w v in (suc a.0, a.1, a.2, go tt j a.3, a.4)

pub end_visits : (m : System) (e : Tester) {n p x q y : ℕ} (w : Within m e Any n p x q y) → T (e.passes y) → Visits m e (whole m e Any w)
unfolding whole
end_visits m e (halt h) t = t
end_visits m e (go h j w) t = inr (end_visits m e w t)

may_move : (l r : System) (e : Tester) → Refines l r → May r e → May l e
may_move l r e refines h =
    let t = passing_end r e h.run h.visits in
    let a = apart r e Any t.3 in
    let can = (refines a.0).does (t.1, a.1) in
    let c = combine l e Any can.1 a.2.0 e.system.start t.2 a.2.1 in
    record { steps = c.0; state = can.0; at = t.2; run = whole l e Any c.2; visits = end_visits l e c.2 t.4 }

pub one_way : OneWay
one_way l r ll lr h e = (may_move l r e h, must_move l r e ll lr h)
