-- Ascending families in which no set contains another, and the minimal acceptance sets. Assumes nothing.
use Rattle.std.proofs.Common.{◌≡◌, ℕ, zero, suc, ◌<◌, true, false, not, ◌&&◌, eqb, ltb, ◌≢◌, ◌⊎◌, ◌↔◌, List, [], ◌∷◌, length, ◌≤◌, sym, refl, ap, ◌∙◌, subst, ap₂, inl, inr, not-suc-le-zero, arith}
use native.Mathlib.Decide.{ℕ_discrete}
use lib.Bits.{bit_and, and_self}
use Rattle.std.proofs.lemmas.Bool.{and_parts, and_from, or_cases, or_parts, or_left, or_right, both_ways, not-true, not_from_false, cond_both, ltb-true, ltb-false, lt-ltb, eqb-true, eq-eqb, cases_Bool}
use Rattle.lts.specs.Sets.{In, has, Subset, within, Above, Ascending}
use Rattle.lts.specs.System.{System, Lawful}
use Rattle.lts.specs.Traces.{Acceptance, Minimal, offer}
use Rattle.traces.specs.Macrostates.{macrostate}
use Rattle.traces.specs.Families.{Member, covered, all_covered, follows, followed, antichain, without, placed, offered, minimal_below, minimal}
use Rattle.traces.specs.Offered.{Incomparable, IsFamily}
use Rattle.lts.proofs.Membership.{within_subset, subset_within, same_members, has_in, in_has}
use Rattle.traces.proofs.TraceStates.{states_after, after_below}

pub within_self : (a : ℕ) → within a a ≡ true
within_self a = eq-eqb (bit_and a a) a (and_self a)

-- neither contains the other
abbrev Apart : ℕ → ℕ → Type 0
Apart x y = (within x y ≡ false) × (within y x ≡ false)

follows_parts : (x y : ℕ) → follows x y ≡ true → (x < y) × Apart x y
follows_parts x y e =
    let a = and_parts (ltb x y) (not (within x y) && not (within y x)) e in
    let b = and_parts (not (within x y)) (not (within y x)) a.1 in
    (ltb-true x y a.0, (not-true (within x y) b.0, not-true (within y x) b.1))

follows_from : (x y : ℕ) → x < y → Apart x y → follows x y ≡ true
follows_from x y l a =
    and_from (ltb x y) (not (within x y) && not (within y x)) (lt-ltb x y l)
    (and_from (not (within x y)) (not (within y x)) (not_from_false (within x y) a.0) (not_from_false (within y x) a.1))

followed_member : (x z : ℕ) (l : List ℕ) → followed x l ≡ true → Member z l → follows x z ≡ true
unfolding followed
followed_member x z [] e h = absurd h
followed_member x z (y ∷ ys) e (inl q) = subst (λ (w : ℕ). follows x w ≡ true) (sym q) (and_parts (follows x y) (followed x ys) e).0
followed_member x z (y ∷ ys) e (inr h) = followed_member x z ys (and_parts (follows x y) (followed x ys) e).1 h

member_followed : (x : ℕ) (l : List ℕ) → ((z : ℕ) → Member z l → follows x z ≡ true) → followed x l ≡ true
unfolding followed
member_followed x [] f = refl
member_followed x (y ∷ ys) f = and_from (follows x y) (followed x ys) (f y (inl refl)) (member_followed x ys (λ z h. f z (inr h)))

antichain_parts : (x : ℕ) (l : List ℕ) → antichain (x ∷ l) ≡ true → (followed x l ≡ true) × (antichain l ≡ true)
unfolding antichain
antichain_parts x l e = and_parts (followed x l) (antichain l) e

antichain_more : (x : ℕ) (l : List ℕ) → followed x l ≡ true → antichain l ≡ true → antichain (x ∷ l) ≡ true
unfolding antichain
antichain_more x l e a = and_from (followed x l) (antichain l) e a

pub antichain_none : antichain [] ≡ true
unfolding antichain
antichain_none = refl

-- of two members of an antichain, one is part of the other only if they are one
pub alike : (x y : ℕ) (l : List ℕ) → antichain l ≡ true → Member x l → Member y l → within x y ≡ true → x ≡ y
alike x y [] a h i w = absurd h
alike x y (z ∷ zs) a (inl p) (inl q) w = p ∙ sym q
alike x y (z ∷ zs) a (inl p) (inr i) w =
    let f = follows_parts z y (followed_member z y zs (antichain_parts z zs a).0 i) in
    absurd (both_ways (within x y) (subst (λ (u : ℕ). within u y ≡ false) (sym p) f.1.0) w)
alike x y (z ∷ zs) a (inr h) (inl q) w =
    let f = follows_parts z x (followed_member z x zs (antichain_parts z zs a).0 h) in
    absurd (both_ways (within x y) (subst (λ (u : ℕ). within x u ≡ false) (sym q) f.1.1) w)
alike x y (z ∷ zs) a (inr h) (inr i) w = alike x y zs (antichain_parts z zs a).1 h i w

followed_above : (x : ℕ) (l : List ℕ) → followed x l ≡ true → Above x l
unfolding followed
followed_above x [] e = tt
followed_above x (y ∷ ys) e =
    let a = and_parts (follows x y) (followed x ys) e in
    ((follows_parts x y a.0).0, followed_above x ys a.1)

pub antichain_ascending : (l : List ℕ) → antichain l ≡ true → Ascending l
antichain_ascending [] a = tt
antichain_ascending (x ∷ l) a = let p = antichain_parts x l a in (followed_above x l p.0, antichain_ascending l p.1)

pub antichain_incomparable : (l : List ℕ) → antichain l ≡ true → Incomparable l
antichain_incomparable l a x y h i f = alike x y l a h i (subset_within x y f)

pub family_of : (l : List ℕ) → antichain l ≡ true → length l ≤ 64 → IsFamily l
family_of l a few = record { few = few; rising = antichain_ascending l a; apart = antichain_incomparable l a }

-- a set that contains one of the list
pub covered_member : (x : ℕ) (l : List ℕ) → covered x l ≡ true → (y : ℕ) × Member y l × (within y x ≡ true)
unfolding covered
covered_member x [] e = absurd (both_ways false refl e)
covered_member x (y ∷ ys) e = elim (or_cases (within y x) (covered x ys) e) [
  | inl w ↦ (y, inl refl, w)
  | inr c ↦ (let r = covered_member x ys c in (r.0, inr r.1, r.2))
]

pub member_covered : (x y : ℕ) (l : List ℕ) → Member y l → within y x ≡ true → covered x l ≡ true
unfolding covered
member_covered x y [] h w = absurd h
member_covered x y (z ∷ zs) (inl q) w = or_left (within z x) (covered x zs) (subst (λ (u : ℕ). within u x ≡ true) q w)
member_covered x y (z ∷ zs) (inr h) w = or_right (within z x) (covered x zs) (member_covered x y zs h w)

bare_member : (x y : ℕ) (l : List ℕ) → covered x l ≡ false → Member y l → within y x ≡ false
unfolding covered
bare_member x y [] e h = absurd h
bare_member x y (z ∷ zs) e (inl q) = subst (λ (u : ℕ). within u x ≡ false) (sym q) (or_parts (within z x) (covered x zs) e).0
bare_member x y (z ∷ zs) e (inr h) = bare_member x y zs (or_parts (within z x) (covered x zs) e).1 h

-- the sets that do not contain x
without_member : (x z : ℕ) (l : List ℕ) → Member z (without x l) → Member z l × (within x z ≡ false)
unfolding without
without_member x z [] = λ h. absurd h
without_member x z (y ∷ ys) = cond_both (within x y) (without x ys) (y ∷ without x ys) (λ (k : List ℕ). Member z k → Member z (y ∷ ys) × (within x z ≡ false))
    (λ e h. let r = without_member x z ys h in (inr r.0, r.1))
    (λ e. elim [
      | inl q ↦ (inl q, subst (λ (u : ℕ). within x u ≡ false) (sym q) e)
      | inr h ↦ (let r = without_member x z ys h in (inr r.0, r.1))
    ])

member_without : (x z : ℕ) (l : List ℕ) → Member z l → within x z ≡ false → Member z (without x l)
unfolding without
member_without x z [] h n = absurd h
member_without x z (y ∷ ys) h n = cond_both (within x y) (without x ys) (y ∷ without x ys) (λ (k : List ℕ). Member z k)
    (λ e. elim h [
      | inl q ↦ absurd (both_ways (within x z) n (subst (λ (u : ℕ). within x u ≡ true) (sym q) e))
      | inr i ↦ member_without x z ys i n
    ])
    (λ e. elim h [ inl q ↦ inl q | inr i ↦ inr (member_without x z ys i n) ])

pub without_antichain : (x : ℕ) (l : List ℕ) → antichain l ≡ true → antichain (without x l) ≡ true
unfolding without
without_antichain x [] a = antichain_none
without_antichain x (y ∷ ys) a =
    let p = antichain_parts y ys a in
    cond_both (within x y) (without x ys) (y ∷ without x ys) (λ (k : List ℕ). antichain k ≡ true)
    (λ e. without_antichain x ys p.1)
    (λ e. antichain_more y (without x ys)
    (member_followed y (without x ys) (λ z h. followed_member y z ys p.0 (without_member x z ys h).0))
    (without_antichain x ys p.1))

-- x in its place
placed_member : (x z : ℕ) (l : List ℕ) → Member z (placed x l) → (z ≡ x) ⊎ Member z l
unfolding placed
placed_member x z [] = λ h. h
placed_member x z (y ∷ ys) = cond_both (ltb x y) (x ∷ y ∷ ys) (y ∷ placed x ys) (λ (k : List ℕ). Member z k → (z ≡ x) ⊎ Member z (y ∷ ys))
    (λ e h. h)
    (λ e. elim [ inl q ↦ inr (inl q) | inr h ↦ elim (placed_member x z ys h) [ inl q ↦ inl q | inr i ↦ inr (inr i) ] ])

member_placed : (x z : ℕ) (l : List ℕ) → (z ≡ x) ⊎ Member z l → Member z (placed x l)
unfolding placed
member_placed x z [] h = h
member_placed x z (y ∷ ys) h = cond_both (ltb x y) (x ∷ y ∷ ys) (y ∷ placed x ys) (λ (k : List ℕ). Member z k)
    (λ e. h)
    (λ e. elim h [
      | inl q ↦ inr (member_placed x z ys (inl q))
      | inr i ↦ elim i [ inl q ↦ inl q | inr j ↦ inr (member_placed x z ys (inr j)) ]
    ])

placed_antichain : (x : ℕ) (l : List ℕ) → antichain l ≡ true → ((z : ℕ) → Member z l → Apart x z) → antichain (placed x l) ≡ true
unfolding placed
placed_antichain x [] a f = antichain_more x [] (member_followed x [] (λ z h. absurd h)) antichain_none
placed_antichain x (y ∷ ys) a f =
    let p = antichain_parts y ys a in
    cond_both (ltb x y) (x ∷ y ∷ ys) (y ∷ placed x ys) (λ (k : List ℕ). antichain k ≡ true)
    (λ e.
    let lower = ltb-true x y e in
    antichain_more x (y ∷ ys) (member_followed x (y ∷ ys) (λ z h. follows_from x z (below lower p.0 z h) (f z h))) a)
    (λ e.
    let apart = f y (inl refl) in
    let differs : x ≢ y = λ q. both_ways (within x y) apart.0 (subst (λ (u : ℕ). within x u ≡ true) q (within_self x)) in
    let above : y < x = omega (arith, ltb-false x y e) in
    antichain_more y (placed x ys)
    (member_followed y (placed x ys) (λ z h. elim (placed_member x z ys h) [
      | inl q ↦ subst (λ (u : ℕ). follows y u ≡ true) (sym q) (follows_from y x above (apart.1, apart.0))
      | inr i ↦ followed_member y z ys p.0 i
    ]))
    (placed_antichain x ys p.1 (λ z h. f z (inr h))))
  where
    below : x < y → followed y ys ≡ true → (z : ℕ) → Member z (y ∷ ys) → x < z
    below b g z (inl q) = omega arith
    below b g z (inr h) = omega (arith, (follows_parts y z (followed_member y z ys g h)).0)

-- one more offer
pub offered_antichain : (x : ℕ) (l : List ℕ) → antichain l ≡ true → antichain (offered x l) ≡ true
unfolding offered
offered_antichain x l a = cond_both (covered x l) l (placed x (without x l)) (λ (k : List ℕ). antichain k ≡ true)
    (λ e. a)
    (λ e. placed_antichain x (without x l) (without_antichain x l a) (λ z h.
    let w = without_member x z l h in
    (w.1, bare_member x z l e w.0)))

pub offered_member : (x z : ℕ) (l : List ℕ) → Member z (offered x l) → (z ≡ x) ⊎ Member z l
unfolding offered
offered_member x z l = cond_both (covered x l) l (placed x (without x l)) (λ (k : List ℕ). Member z k → (z ≡ x) ⊎ Member z l)
    (λ e h. inr h)
    (λ e h. elim (placed_member x z (without x l) h) [ inl q ↦ inl q | inr i ↦ inr (without_member x z l i).0 ])

-- what contained a member still contains one, and so does x
pub offered_covers : (x z : ℕ) (l : List ℕ) → (z ≡ x) ⊎ Member z l → covered z (offered x l) ≡ true
unfolding offered
offered_covers x z l h = cond_both (covered x l) l (placed x (without x l)) (λ (k : List ℕ). covered z k ≡ true)
    (λ e. elim h [
      | inl q ↦ subst (λ (u : ℕ). covered u l ≡ true) (sym q) e
      | inr i ↦ member_covered z z l i (within_self z)
    ])
    (λ e. elim (cases_Bool (within x z)) [
      | inl w ↦ member_covered z x (placed x (without x l)) (member_placed x x (without x l) (inl refl)) w
      | inr n ↦ elim h [
        | inl q ↦ absurd (both_ways (within x z) n (subst (λ (u : ℕ). within x u ≡ true) (sym q) (within_self x)))
        | inr i ↦ member_covered z z (placed x (without x l)) (member_placed x z (without x l) (inr (member_without x z l i n))) (within_self z)
      ]
    ])

-- a set that contains one that contains a member contains a member
pub covered_wider : (x y : ℕ) (l : List ℕ) → within x y ≡ true → covered x l ≡ true → covered y l ≡ true
covered_wider x y l w c =
    let r = covered_member x l c in
    member_covered y r.0 l r.1
    (subset_within r.0 y (λ k i. within_subset x y w k (within_subset r.0 x r.2 k i)))

-- the minimal offers among those of the stable states of a set
module _ (m : System) (S : ℕ) where
  abbrev Stably : ℕ → ℕ → Type 0
  Stably n A = (p : ℕ) × (p < n) × In p S × (m.hidden p ≡ 0) × (offer m p ≡ A)

  wider : (n A : ℕ) → Stably n A → Stably (suc n) A
  wider n A r = (r.0, omega (arith, r.1), r.2, r.3, r.4)

  pub minimal_antichain : (n : ℕ) → antichain (minimal_below m S n) ≡ true
  unfolding minimal_below
  minimal_antichain zero = antichain_none
  minimal_antichain (suc n) = cond_both (has n S && eqb (m.hidden n) 0) (offered (offer m n) (minimal_below m S n)) (minimal_below m S n)
      (λ (k : List ℕ). antichain k ≡ true)
      (λ e. offered_antichain (offer m n) (minimal_below m S n) (minimal_antichain n))
      (λ e. minimal_antichain n)

  minimal_stably : (n A : ℕ) → Member A (minimal_below m S n) → Stably n A
  unfolding minimal_below
  minimal_stably zero A = λ h. absurd h
  minimal_stably (suc n) A = cond_both (has n S && eqb (m.hidden n) 0) (offered (offer m n) (minimal_below m S n)) (minimal_below m S n)
      (λ (k : List ℕ). Member A k → Stably (suc n) A)
      (λ e h. elim (offered_member (offer m n) A (minimal_below m S n) h) [
        | inl q ↦ (let b = and_parts (has n S) (eqb (m.hidden n) 0) e in (n, omega arith, has_in n S b.0, eqb-true (m.hidden n) 0 b.1, sym q))
        | inr i ↦ wider n A (minimal_stably n A i)
      ])
      (λ e h. wider n A (minimal_stably n A h))

  stably_covered : (n A : ℕ) → Stably n A → covered A (minimal_below m S n) ≡ true
  unfolding minimal_below
  stably_covered zero A r = absurd (not-suc-le-zero r.1)
  stably_covered (suc n) A r = cond_both (has n S && eqb (m.hidden n) 0) (offered (offer m n) (minimal_below m S n)) (minimal_below m S n)
      (λ (k : List ℕ). covered A k ≡ true)
      (λ e. elim (ℕ_discrete r.0 n) [
        | yes q ↦ offered_covers (offer m n) A (minimal_below m S n) (inl (sym r.4 ∙ ap (offer m) q))
        | no d ↦
            (let c = covered_member A (minimal_below m S n) (stably_covered n A (earlier d)) in
            covered_wider c.0 A (offered (offer m n) (minimal_below m S n)) c.2 (offered_covers (offer m n) c.0 (minimal_below m S n) (inr c.1)))
      ])
      (λ e. elim (ℕ_discrete r.0 n) [
        | yes q ↦ absurd (both_ways (has n S && eqb (m.hidden n) 0) e (and_from (has n S) (eqb (m.hidden n) 0)
            (in_has n S (subst (λ (j : ℕ). In j S) q r.2)) (eq-eqb (m.hidden n) 0 (subst (λ (j : ℕ). m.hidden j ≡ 0) q r.3))))
        | no d ↦ stably_covered n A (earlier d)
      ])
    where
      earlier : r.0 ≢ n → Stably n A
      earlier d = (r.0, omega (arith, r.1, d), r.2, r.3, r.4)

-- the list holds the minimal acceptance sets and nothing else
module _ (m : System) (lawful : Lawful m) (s : List ℕ) where
  abbrev family : List ℕ
  family = minimal m (macrostate m s).states

  accepted : (A : ℕ) → Stably m (macrostate m s).states m.count A → Acceptance m s A
  accepted A r = record { state = r.0; after = (states_after m lawful s r.0).0 r.2; stable = r.3; offers = r.4 }

  stably : (A : ℕ) → Acceptance m s A → Stably m (macrostate m s).states m.count A
  stably A k = (k.state, after_below m lawful k.after, (states_after m lawful s k.state).1 k.after, k.stable, k.offers)

  pub member_minimal : (A : ℕ) → Member A family → Minimal m s A
  member_minimal A h = record {
    member = accepted A (minimal_stably m (macrostate m s).states m.count A h);
    least = λ B k sub.
        let c = covered_member B family (stably_covered m (macrostate m s).states m.count B (stably B k)) in
        let inner = within_subset c.0 B c.2 in
        let same = alike c.0 A family (minimal_antichain m (macrostate m s).states m.count) c.1 h (subset_within c.0 A (λ k i. sub k (inner k i))) in
        same_members B A sub (subst (λ (x : ℕ). Subset x B) same inner);
  }

  pub minimal_member : (A : ℕ) → Minimal m s A → Member A family
  minimal_member A k =
      let c = covered_member A family (stably_covered m (macrostate m s).states m.count A (stably A k.member)) in
      let same = k.least c.0 (accepted c.0 (minimal_stably m (macrostate m s).states m.count c.0 c.1)) (within_subset c.0 A c.2) in
      subst (λ (x : ℕ). Member x family) same c.1

-- ascending lists with the same members are the same
above_member : (w z : ℕ) (l : List ℕ) → Above w l → Member z l → w < z
above_member w z [] a h = absurd h
above_member w z (y ∷ ys) a (inl e) = omega (arith, a.0)
above_member w z (y ∷ ys) a (inr h) = above_member w z ys a.1 h

pub ascending_same : (xs ys : List ℕ) → Ascending xs → Ascending ys → ((z : ℕ) → Member z xs → Member z ys) → ((z : ℕ) → Member z ys → Member z xs) → xs ≡ ys
ascending_same [] [] a b f g = refl
ascending_same [] (y ∷ ys) a b f g = absurd (g y (inl refl))
ascending_same (x ∷ xs) [] a b f g = absurd (f x (inl refl))
ascending_same (x ∷ xs) (y ∷ ys) a b f g = let e = heads in
    ap₂ {B = List ℕ} {C = List ℕ} (λ u v. u ∷ v) e
    (ascending_same xs ys a.1 b.1
    (λ z h. elim (f z (inr h)) [ inl p ↦ (let c = above_member x z xs a.0 h in absurd (omega arith)) | inr m ↦ m ])
    (λ z h. elim (g z (inr h)) [ inl p ↦ (let c = above_member y z ys b.0 h in absurd (omega arith)) | inr m ↦ m ]))
  where
    heads : x ≡ y
    heads = elim (f x (inl refl)) [
      | inl p ↦ p
      | inr m ↦ elim (g y (inl refl)) [
        | inl q ↦ sym q
        | inr k ↦ (let c = above_member y x ys b.0 m in let d = above_member x y xs a.0 k in absurd (omega arith))
      ]
    ]

all_covered_lem : (xs ys : List ℕ) → all_covered xs ys ≡ true → (x : ℕ) → Member x xs → covered x ys ≡ true
unfolding all_covered
all_covered_lem [] ys e x h = absurd h
all_covered_lem (z ∷ zs) ys e x (inl q) = subst (λ (u : ℕ). covered u ys ≡ true) (sym q) (and_parts (covered z ys) (all_covered zs ys) e).0
all_covered_lem (z ∷ zs) ys e x (inr h) = all_covered_lem zs ys (and_parts (covered z ys) (all_covered zs ys) e).1 x h

covered_all : (xs ys : List ℕ) → ((x : ℕ) → Member x xs → covered x ys ≡ true) → all_covered xs ys ≡ true
unfolding all_covered
covered_all [] ys f = refl
covered_all (z ∷ zs) ys f = and_from (covered z ys) (all_covered zs ys) (f z (inl refl)) (covered_all zs ys (λ x h. f x (inr h)))

-- a member that contains one of the other family, which contains one of this, is in both
carried : (xs ys : List ℕ) → antichain xs ≡ true → all_covered xs ys ≡ true → all_covered ys xs ≡ true → (z : ℕ) → Member z xs → Member z ys
carried xs ys a e f z h =
    let c = covered_member z ys (all_covered_lem xs ys e z h) in
    let d = covered_member c.0 xs (all_covered_lem ys xs f c.0 c.1) in
    let low = within_subset c.0 z c.2 in
    let lower = within_subset d.0 c.0 d.2 in
    let same = alike d.0 z xs a d.1 h (subset_within d.0 z (λ k i. low k (lower k i))) in
    subst (λ (x : ℕ). Member x ys) (same_members c.0 z low (subst (λ (x : ℕ). Subset x c.0) same lower)) c.1

-- two families are one exactly when each member of either contains a member of the other
pub families_same : (xs ys : List ℕ) → antichain xs ≡ true → antichain ys ≡ true → (all_covered xs ys && all_covered ys xs) ≡ true → xs ≡ ys
families_same xs ys a b e =
    let p = and_parts (all_covered xs ys) (all_covered ys xs) e in
    ascending_same xs ys (antichain_ascending xs a) (antichain_ascending ys b) (carried xs ys a p.0 p.1) (carried ys xs b p.1 p.0)

self_covered : (xs : List ℕ) → all_covered xs xs ≡ true
self_covered xs = covered_all xs xs (λ x h. member_covered x x xs h (within_self x))

pub same_families : (xs ys : List ℕ) → xs ≡ ys → (all_covered xs ys && all_covered ys xs) ≡ true
same_families xs ys e = subst (λ (l : List ℕ). (all_covered xs l && all_covered l xs) ≡ true) e (and_from (all_covered xs xs) (all_covered xs xs) (self_covered xs) (self_covered xs))

-- two antichains each of which covers the other are one
pub families_equal : (xs ys : List ℕ) → antichain xs ≡ true → antichain ys ≡ true → (all_covered xs ys && all_covered ys xs) ≡ true ↔ xs ≡ ys
families_equal xs ys a b = (families_same xs ys a b, same_families xs ys)
