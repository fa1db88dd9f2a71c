-- What the distinguishing tests say. Assumes nothing.
use Rattle.std.proofs.Common.{◌≡◌, ℕ, zero, suc, ◌+◌, ◌*◌, ◌<◌, ◌≤◌, Bool, true, ◌&&◌, ◌||◌, T, eqb, ltb, leb, ◌⊎◌, List, [], ◌∷◌, ◌++◌, length, drop, sym, refl, ap, ◌∙◌, subst, inl, inr, append-nil, suc-le-suc, zero-le, le_refl, le_of_suc-le-suc, not-suc-le-zero, arith, le→leb, eqb→eq, ltb→lt, lt→ltb, leb→le}
use native.Mathlib.Decide.{ℕ_discrete}
use lib.Dec.{eqb_refl}
use lib.Seq.{drop-length}
use Rattle.lts.specs.Sets.{In, has}
use Rattle.lts.specs.System.{System, Lawful}
use Rattle.lts.specs.Traces.{Hidden, Visible, After, stay, Convergent, Stable, Acceptance, offer}
use Rattle.lts.specs.Order.{Actions}
use Rattle.lts.proofs.Membership.{some_member, not_empty, alone_in, in_alone}
use Rattle.testing.specs.Testing.{Step, by_system, by_test, by_both, Stuck, Must}
use Rattle.testing.specs.Distinguish.{leads, ladder, reach_test, offer_test}
use Rattle.testing.specs.Theorems.{ReachTest, SettleTest, OfferTest, Answers}
use Rattle.testing.proofs.Truth.{eq_T, or_T, T-left, T-right, and_T, T_and}
use Rattle.testing.proofs.Search.{look}
use Rattle.testing.proofs.Laws.{path_actions, offer_below, offered, offers}
use Rattle.testing.proofs.Runs.{Moves, rest, alone, joint, Within, whole, apart, combine, Fails, visits_dec, avoiding, not_ended, convergent_along}
use Rattle.testing.proofs.OneWay.{sorted, Any, passing_end, end_visits, stuck_stable}

-- the trace by places
leads_drop : (s : List ℕ) (i a : ℕ) → T (leads s i a) → drop i s ≡ a ∷ drop (suc i) s
unfolding leads
leads_drop [] i a t = absurd t
leads_drop (b ∷ s) zero a t = ap (λ (x : ℕ). x ∷ s) (eqb→eq b a t)
leads_drop (b ∷ s) (suc i) a t = leads_drop s i a t

drop_leads : (s : List ℕ) (i a : ℕ) (v : List ℕ) → drop i s ≡ a ∷ v → T (leads s i a) × (drop (suc i) s ≡ v)
unfolding leads
drop_leads [] zero a v e = let z : ◌≡◌ {A = ℕ} 0 1 = cc in absurd (omega arith)
drop_leads [] (suc i) a v e = let z : ◌≡◌ {A = ℕ} 0 1 = cc in absurd (omega arith)
drop_leads (b ∷ s) zero a v e = (eq_T b a (cc), cc)
drop_leads (b ∷ s) (suc i) a v e = drop_leads s i a v e

leads_below : (s : List ℕ) (i a : ℕ) → T (leads s i a) → i < length s
unfolding leads
leads_below [] i a t = absurd t
leads_below (b ∷ s) zero a t = suc-le-suc zero-le
leads_below (b ∷ s) (suc i) a t = suc-le-suc (leads_below s i a t)

drop_end : (s : List ℕ) (i : ℕ) → drop i s ≡ [] → i ≤ length s → i ≡ length s
drop_end [] zero e b = refl
drop_end [] (suc i) e b = absurd (not-suc-le-zero b)
drop_end (a ∷ s) zero e b = let z : ◌≡◌ {A = ℕ} 0 1 = cc in absurd (omega arith)
drop_end (a ∷ s) (suc i) e b = ap suc (drop_end s i e (le_of_suc-le-suc b))

module _ (s : List ℕ) (f : ℕ → Bool) (O : ℕ) where
  abbrev seen : ℕ → ℕ → Bool
  seen i a = ltb a 32 && (leads s i a || (eqb i (length s) && has a O))

  abbrev unseen : ℕ → Bool
  unseen i = leb i (length s) && f i

  -- where an action leads on, and where a silent transition does
  seen_is : (i a : ℕ) → T (seen i a) → (a < 32) × (i ≤ length s) × (T (leads s i a) ⊎ ((i ≡ length s) × In a O))
  seen_is i a t =
      let b = and_T (ltb a 32) (leads s i a || (eqb i (length s) && has a O)) t in
      elim (or_T (leads s i a) (eqb i (length s) && has a O) b.1) [
        | inl l ↦ (let c = leads_below s i a l in (ltb→lt a 32 b.0, omega arith, inl l))
        | inr o ↦
            (let d = and_T (eqb i (length s)) (has a O) o in
            let e = eqb→eq i (length s) d.0 in
            (ltb→lt a 32 b.0, omega arith, inr (e, eqb→eq _ 1 d.1)))
      ]

  unseen_is : (i : ℕ) → T (unseen i) → (i ≤ length s) × T (f i)
  unseen_is i t = let b = and_T (leb i (length s)) (f i) t in (leb→le i (length s) b.0, b.1)

  hidden_of : (i y : ℕ) → Hidden (ladder s f O).system i y → (i ≤ length s) × T (f i) × (y ≡ suc (length s))
  unfolding ladder
  hidden_of i y h = let c = alone_in (unseen i) y (suc (length s)) h in let b = unseen_is i c.0 in (b.0, b.1, c.1)

  of_hidden : (i : ℕ) → i ≤ length s → T (f i) → Hidden (ladder s f O).system i (suc (length s))
  unfolding ladder
  of_hidden i b t = in_alone (unseen i) (suc (length s)) (T_and (leb i (length s)) (f i) (le→leb i (length s) b) t)

  visible_of : (i a y : ℕ) → Visible (ladder s f O).system i a y → (y ≡ suc i) × (T (leads s i a) ⊎ ((i ≡ length s) × In a O))
  unfolding ladder
  visible_of i a y h = let c = alone_in (seen i a) y (suc i) h in (c.1, (seen_is i a c.0).2)

  of_leads : (i a : ℕ) → a < 32 → T (leads s i a) → Visible (ladder s f O).system i a (suc i)
  unfolding ladder
  of_leads i a b t =
      in_alone (seen i a) (suc i) (T_and (ltb a 32) _ (lt→ltb a 32 b) (T-left (leads s i a) (eqb i (length s) && has a O) t))

  of_offer : (a : ℕ) → a < 32 → In a O → Visible (ladder s f O).system (length s) a (suc (length s))
  unfolding ladder
  of_offer a b h =
      let n = length s in
      in_alone (seen n a) (suc n) (T_and (ltb a 32) _ (lt→ltb a 32 b) (T-right (leads s n a) _ (T_and (eqb n n) (has a O) (eqb_refl n) (eq_T _ 1 h))))

  last_passes : (x : ℕ) → x ≡ suc (length s) → T ((ladder s f O).passes x)
  unfolding ladder
  last_passes x e = eq_T x (suc (length s)) e

  pub passing_last : (x : ℕ) → T ((ladder s f O).passes x) → x ≡ suc (length s)
  unfolding ladder
  passing_last x t = eqb→eq x (suc (length s)) t

  abbrev Fail : ℕ → Type 0
  Fail x = ¬ T ((ladder s f O).passes x)

  low_fails : (i : ℕ) → i ≤ length s → Fail i
  low_fails i b t = let p = passing_last i t in omega arith

  -- the test goes by the trace to the last state but one, without passing
  climb : (v : List ℕ) (i : ℕ) → Actions v → drop i s ≡ v → i ≤ length s → Moves (ladder s f O).system Fail (length v) i v (length s)
  climb [] i actions e b = subst (λ (y : ℕ). Moves (ladder s f O).system Fail 0 i [] y) (drop_end s i e b) (rest (low_fails i b))
  climb (a ∷ v) i actions e b =
      let d = drop_leads s i a v e in
      joint (low_fails i b) (of_leads i a actions.0 d.0) (climb v (suc i) actions.1 d.1 (leads_below s i a d.0))

  here : {P : ℕ → Type 0} {k x y : ℕ} {t : List ℕ} → Moves (ladder s f O).system P k x t y → P x
  here (rest h) = h
  here (alone h j r) = h
  here (joint h j r) = h

  -- and goes without passing in no other way
  climbed : {k i y : ℕ} {t : List ℕ} → Moves (ladder s f O).system Fail k i t y → i ≤ length s → (t ++ drop y s ≡ drop i s) × (y ≤ length s) × (k + i ≡ y)
  climbed (rest h) b = (refl, b, omega arith)
  climbed (alone {x = i} {y = y} h j r) b = absurd (here r (last_passes y (hidden_of i y j).2))
  climbed (joint {k = k} {x = i} {a = a} {y = y} {z = z} {s = t} h j r) b =
      let v = visible_of i a y j in
      elim v.1 [
        | inl l ↦
            (let lower = leads_below s i a l in
            let c = climbed r (omega arith) in
            (ap (λ (u : List ℕ). a ∷ u) (c.0 ∙ ap (λ (x : ℕ). drop x s) v.0) ∙ sym (leads_drop s i a l), c.1, omega arith))
        | inr o ↦ absurd (here r (last_passes y (v.0 ∙ ap suc o.0)))
      ]

  -- a system that is convergent along the trace must pass if no run that has not passed is stuck
  must_by : (m : System) → Lawful m → Convergent m s
      → ((k q y : ℕ) (t : List ℕ) → After m t q → Moves (ladder s f O).system Fail k 0 t y → Stuck m (ladder s f O) q y → ⊥)
      → Must m (ladder s f O)
  unfolding ladder
  must_by m lawful convergent live = record {
    bound = m.count + suc (length s) * suc m.count;
    long = λ q y w. elim (visits_dec m (ladder s f O) w) [ yes v ↦ v | no n ↦ absurd (long (avoiding m (ladder s f O) w n)) ];
    ended = λ n q y w stuck. elim (visits_dec m (ladder s f O) w) [
      | yes v ↦ v
      | no g ↦ (let a = apart m (ladder s f O) Fail (avoiding m (ladder s f O) w g) in absurd (live a.2.0 q y a.0 a.1 a.2.1 stuck))
    ];
  }
    where
      long : {q y : ℕ} → Within m (ladder s f O) Fail (m.count + suc (length s) * suc m.count) m.start 0 q y → ⊥
      long w =
          elim (sorted m (ladder s f O) Fail lawful w (suc (length s)) m.count 0 m.start stay lawful.starts lawful.starts (omega arith) (le_refl _)) [
            | inl t ↦ (let c = climbed t.3.3 zero-le in let b = t.3.2 in omega arith)
            | inr t ↦ (let c = climbed t.4.2 zero-le in convergent t.0 (drop t.4.1 s) c.0 t.1 t.2 t.3)
          ]

  -- a system that must pass is convergent along the trace
  must_converge : (m : System) → Actions s → Must m (ladder s f O) → Convergent m s
  unfolding ladder
  must_converge m actions h = convergent_along m (ladder s f O) h (climb s 0 actions refl zero-le)

-- the test of Reach
module _ (s : List ℕ) where
  abbrev at_end : ℕ → Bool
  at_end i = eqb i (length s)

  -- its last state has no step
  over : {k x y : ℕ} {t : List ℕ} → Moves (reach_test s).system Any k x t y → x ≡ suc (length s) → t ≡ []
  over (rest h) e = refl
  over (alone {x = x} {y = y} h j r) e = let b = (hidden_of s at_end 0 x y j).0 in absurd (omega arith)
  over (joint {x = x} {a = a} {y = y} h j r) e = elim (visible_of s at_end 0 x a y j).1 [
    | inl l ↦ (let b = leads_below s x a l in absurd (omega arith))
    | inr o ↦ absurd (omega arith)
  ]

  reached : {k i y : ℕ} {t : List ℕ} → Moves (reach_test s).system Any k i t y → y ≡ suc (length s) → i ≤ length s → t ≡ drop i s
  reached (rest h) e b = absurd (omega arith)
  reached (alone {x = i} {y = y} h j r) e b =
      let c = hidden_of s at_end 0 i y j in
      over r c.2 ∙ sym (drop-length s) ∙ ap (λ (x : ℕ). drop x s) (sym (eqb→eq i (length s) c.1))
  reached (joint {x = i} {a = a} {y = y} {s = t} h j r) e b =
      let v = visible_of s at_end 0 i a y j in
      elim v.1 [
        | inl l ↦
            (let lower = leads_below s i a l in
            ap (λ (u : List ℕ). a ∷ u) (reached r e (omega arith) ∙ ap (λ (x : ℕ). drop x s) v.0) ∙ sym (leads_drop s i a l))
        | inr o ↦ absurd (not_empty a 0 o.1 refl)
      ]

  -- moves of a test, whatever holds of its states, and then one silent move more
  then_alone : {P : ℕ → Type 0} {e : System} {k x y z : ℕ} {t : List ℕ} → Moves e P k x t y → Hidden e y z → (j : ℕ) × Moves e Any j x t z
  then_alone (rest h) g = (1, alone tt g (rest tt))
  then_alone (alone h j r) g = let a = then_alone r g in (suc a.0, alone tt j a.1)
  then_alone (joint h j r) g = let a = then_alone r g in (suc a.0, joint tt j a.1)

pub reach_test_lem : ReachTest
unfolding ladder
reach_test_lem m lawful s = (
  λ h.
      let t = passing_end m (reach_test s) h.run h.visits in
      let a = apart m (reach_test s) Any t.3 in
      let e = reached s a.2.1 (passing_last s (at_end s) 0 t.2 t.4) zero-le in
      (t.1, subst (λ (u : List ℕ). After m u t.1) e a.1),
  λ h.
      let up = climb s (at_end s) 0 s 0 (path_actions m lawful h.1) refl zero-le in
      let all = then_alone s up (of_hidden s (at_end s) 0 (length s) (le_refl _) (eqb_refl (length s))) in
      let c = combine m (reach_test s) Any h.1 all.0 0 (suc (length s)) all.1 in
      record {
        steps = c.0;
        state = h.0;
        at = suc (length s);
        run = whole m (reach_test s) Any c.2;
        visits = end_visits m (reach_test s) c.2 (last_passes s (at_end s) 0 (suc (length s)) refl);
      },
)

-- the test of Settle
pub settle_test_lem : SettleTest
unfolding ladder
settle_test_lem m lawful s actions =
    let f : ℕ → Bool = λ i. true in (
      must_converge s f 0 m actions,
      λ convergent. must_by s f 0 m lawful convergent (λ k q y u w t stuck.
          stuck q (suc (length s)) (by_test (of_hidden s f 0 y (climbed s f 0 t zero-le).1 tt))),
    )

-- the test of Offer
module _ (m : System) (lawful : Lawful m) (s : List ℕ) (O : ℕ) where
  abbrev below : ℕ → Bool
  below i = ltb i (length s)

  -- its last state but one is stuck beside a stable state that has no action of the set
  dead : (p x : ℕ) → Stable m p → ((a : ℕ) → In a (offer m p) → ¬ In a O) → x ≡ length s → {q y : ℕ} → Step m (offer_test s O) p x q y → ⊥
  dead p x stable none e (by_system {q = q} h) = not_empty q (m.hidden p) h stable
  dead p x stable none e (by_test {y = y} h) = let b = ltb→lt x (length s) (hidden_of s below O x y h).1 in omega arith
  dead p x stable none e (by_both {q = q} {y = y} a i j) = elim (visible_of s below O x a y j).1 [
    | inl l ↦ (let b = leads_below s x a l in omega arith)
    | inr o ↦ none a (offers m lawful p a q i) o.1
  ]

  live : Answers m s O → (k q y : ℕ) (t : List ℕ) → After m t q → Moves (offer_test s O).system (Fail s below O) k 0 t y → Stuck m (offer_test s O) q y → ⊥
  live answers k q y t w moves stuck =
      let c = climbed s below O moves zero-le in
      elim (ℕ_discrete y (length s)) [
        | yes e ↦
            (let all : t ≡ s = sym (append-nil t) ∙ ap (λ (u : List ℕ). t ++ u) (sym (drop-length s) ∙ ap (λ (i : ℕ). drop i s) (sym e)) ∙ c.0 in
            let a =
            answers (offer m q)
            (record { state = q; after = subst (λ (u : List ℕ). After m u q) all w; stable = stuck_stable m (offer_test s O) q y stuck; offers = refl })
            in
            let b = some_member (m.visible q a.0) (offered m q a.0 a.1) in
            let up = of_offer s below O a.0 (offer_below m q a.0 a.1) a.2 in
            stuck b.0 (suc (length s)) (by_both a.0 b.1 (subst (λ (x : ℕ). Visible (offer_test s O).system x a.0 (suc (length s))) (sym e) up)))
        | no d ↦ (let b = c.1 in stuck q (suc (length s)) (by_test (of_hidden s below O y b (lt→ltb y (length s) (omega arith)))))
      ]

  -- a stable state after s without an action of O keeps the test from passing
  unanswered : Actions s → (A : ℕ) → Acceptance m s A → ((a : ℕ) → In a A → ¬ In a O) → ¬ Must m (offer_test s O)
  unfolding ladder
  unanswered actions A acc none h =
      let e = offer_test s O in
      let c = combine m e (Fails m e) acc.after (length s) 0 (length s) (climb s below O s 0 actions refl zero-le) in
      not_ended m e h c.2 (λ q y j. dead acc.state (length s) acc.stable (λ a i. none a (subst (λ (B : ℕ). In a B) acc.offers i)) refl j)

  answered : Actions s → Must m (offer_test s O) → Answers m s O
  answered actions h A acc = elim (look (λ a. In a A × In a O) (λ a. both_dec a) 32) [
    | inl r ↦ (r.0, r.2.0, r.2.1)
    | inr k ↦ absurd (unanswered actions A acc (λ a i j. k a (offer_below m acc.state a (subst (λ (B : ℕ). In a B) (sym acc.offers) i)) (i, j)) h)
  ]
    where
      both_dec : (a : ℕ) → Dec (In a A × In a O)
      both_dec a = elim (ℕ_discrete _ 1) [
        | no f ↦ no (λ h. f h.0)
        | yes i ↦ elim (ℕ_discrete _ 1) [ no f ↦ no (λ h. f h.1) | yes j ↦ yes (i, j) ]
      ]

pub offer_test_lem : OfferTest
offer_test_lem m lawful s actions O = (
  λ h. (must_converge s (below m lawful s O) O m actions h, answered m lawful s O actions h),
  λ h. must_by s (below m lawful s O) O m lawful h.0 (live m lawful s O h.1),
)
