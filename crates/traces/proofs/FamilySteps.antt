-- Loops over the sets of a family, step by step. Assumes nothing.
use Rattle.std.proofs.Common.{◌≡◌, ◌<◌, ◌≤◌, zero, All, get_or, ◌-◌, le_refl, not-suc-le-zero, ℕ, suc, ◌+◌, Bool, true, false, cond, not, ◌&&◌, ◌||◌, nat_lt, eqb, ◌↔◌, Option, Some, None, unwrap_or, List, [], ◌∷◌, ◌++◌, length, take, drop, filter, sym, refl, ap, ◌∙◌, arith}
use Rattle.std.specs.List.{list_any, position_or_len}
use Rattle.std.proofs.lemmas.List.{drop-map, length-map, get_or-map, map-append, take-map}
use Rattle.std.proofs.lemmas.List.Sums.{prefix_len-le-length}
use Rattle.std.specs.Cmp.Lexicographic.{pointwise}
use Rattle.std.specs.Str.{bytes_eq}
use Rattle.std.proofs.lemmas.Slice.Eq.{bytes_eq-Decides}
use Rattle.std.proofs.lemmas.List.Recursion.{same_from_clauses}
use Rattle.std.proofs.lemmas.Bool.{cond-true, cond-false, cond_both, both_ways, ltb-true, ltb-false}
use Rattle.lts.specs.Sets.{within, Above, Ascending}
use Rattle.std.specs.List.Sorted.{IsNonDecreasingBy}
use Rattle.traces.specs.Families.{antichain, covered, all_covered, without, placed, offered}
use Rattle.traces.specs.Offered.{bits_of, free, IsFamily}
use Rattle.lts.specs.SetTypes.{ActionSet}
use Rattle.traces.proofs.Antichains.{antichain_none, antichain_ascending, families_equal, family_of}
use Rattle.lts.proofs.Membership.{subset_le, within_subset}
use Rattle.traces.proofs.Marks.{same_test}

-- the words of a family as those of the list of its sets
pub covered_any : (x : ℕ) (l : List ActionSet) → covered x (bits_of l) ≡ list_any (λ s. within s.bits x) l
unfolding covered
covered_any x l =
    same_from_clauses (λ (l : List ActionSet). covered x (bits_of l)) (list_any (λ s. within s.bits x)) (λ s b. within s.bits x || b) refl (λ _ _. refl) (λ _ _. refl) l

abbrev pub Placed : ℕ → List ActionSet → ℕ → Type 0
Placed x l i = placed x (bits_of l) ≡ take i (bits_of l) ++ x ∷ drop i (bits_of l)

pub placed_first : (x : ℕ) (l : List ActionSet) → Placed x l (position_or_len (λ s. nat_lt x s.bits) l)
unfolding placed
placed_first x [] = refl
placed_first x (s ∷ l) = pick (nat_lt x s.bits) refl (placed_first x l)
  where
    pick : (b : Bool) → nat_lt x s.bits ≡ b → Placed x l (position_or_len (λ s. nat_lt x s.bits) l) → Placed x (s ∷ l) (position_or_len (λ s. nat_lt x s.bits) (s ∷ l))
    pick true e p = rw e refl
    pick false e p =
        let n = position_or_len (λ s. nat_lt x s.bits) l in
        let next : 1 + n ≡ suc n = omega arith in
        rw (e, next) (ap (λ (xs : List ℕ). s.bits ∷ xs) p)

-- where `position` and then `unwrap_or` of the length come
pub first_or_len : {X : Type 0} (p : X → Bool) (l : List X) (o : Option ℕ) (n : ℕ) → o ≡ cond (nat_lt (position_or_len p l) (length l)) (Some (position_or_len p l)) None
    → n ≡ length l → unwrap_or o n ≡ position_or_len p l
first_or_len p l o n e q =
    let i = position_or_len p l in
    rw (e, q) (cond_both (nat_lt i (length l)) (Some i) None (λ (o : Option ℕ). unwrap_or o (length l) ≡ i)
    (λ t. refl)
    (λ f. omega (arith, ltb-false i (length l) f, prefix_len-le-length (λ x. not (p x)) l)))

-- where no set contains x, none leaves
pub none_contains : (x : ℕ) (l : List ActionSet) → list_any (λ s. within x s.bits) l ≡ false → l ≡ filter (free x) l
unfolding free
none_contains x [] e = refl
none_contains x (s ∷ l) e = pick (within x s.bits) (list_any (λ s. within x s.bits) l) e (none_contains x l)
  where
    pick : (b r : Bool) → (b || r) ≡ false → (r ≡ false → l ≡ filter (free x) l) → (s ∷ l) ≡ cond (not b) (s ∷ filter (free x) l) (filter (free x) l)
    pick false false e f = ap (λ (k : List ActionSet). s ∷ k) (f refl)
    pick false true e f = absurd (both_ways true e refl)
    pick true r e f = absurd (both_ways true e refl)

-- the sets that do not contain x
pub without_kept : (x : ℕ) (l : List ActionSet) → bits_of (filter (free x) l) ≡ without x (bits_of l)
unfolding without free
without_kept x [] = refl
without_kept x (s ∷ l) = pick (within x s.bits) (filter (free x) l) (without_kept x l)
  where
    pick : (b : Bool) (k : List ActionSet) {w : List ℕ} → bits_of k ≡ w → bits_of (cond (not b) (s ∷ k) k) ≡ cond b w (s.bits ∷ w)
    pick true k e = e
    pick false k e = ap (λ (xs : List ℕ). s.bits ∷ xs) e

-- what `==` says of the sets of two families
pub same_equal : (xs ys : List ActionSet) (r : Bool) → r ≡ pointwise (λ a b. eqb a.bits b.bits) xs ys → r ≡ true ↔ bits_of xs ≡ bits_of ys
same_equal xs ys r e = rw (e ∙ same xs ys) (bytes_eq-Decides (bits_of xs) (bits_of ys))
  where
    same : (xs ys : List ActionSet) → pointwise (λ a b. eqb a.bits b.bits) xs ys ≡ bytes_eq (bits_of xs) (bits_of ys)
    same [] [] = refl
    same [] (y ∷ ys) = refl
    same (x ∷ xs) [] = refl
    same (x ∷ xs) (y ∷ ys) = ap (λ b. eqb x.bits y.bits && b) (same xs ys)

pub same_covered : (xs ys : List ActionSet) (r : Bool) → antichain (bits_of xs) ≡ true → antichain (bits_of ys) ≡ true → r ≡ pointwise (λ a b. eqb a.bits b.bits) xs ys
    → r ≡ (all_covered (bits_of xs) (bits_of ys) && all_covered (bits_of ys) (bits_of xs))
same_covered xs ys r a b e =
    let equal = same_equal xs ys r e in
    let covers = families_equal (bits_of xs) (bits_of ys) a b in
    same_test _ _ (λ t. covers.1 (equal.0 t)) (λ t. equal.1 (covers.0 t))

-- the same of what the families are seen as
pub views_equal : (xs ys : List ActionSet) (a b : List ℕ) (r : Bool) → r ≡ pointwise (λ a b. eqb a.bits b.bits) xs ys → bits_of xs ≡ a → bits_of ys ≡ b → r ≡ true ↔ a ≡ b
views_equal xs ys a b r e v w = rw (sym v, sym w) (same_equal xs ys r e)

pub views_covered : (xs ys : List ActionSet) (a b : List ℕ) (r : Bool) → r ≡ pointwise (λ a b. eqb a.bits b.bits) xs ys → bits_of xs ≡ a → bits_of ys ≡ b
    → antichain (bits_of xs) ≡ true → antichain (bits_of ys) ≡ true → r ≡ (all_covered a b && all_covered b a)
views_covered xs ys a b r e v w k l = rw (sym v, sym w) (same_covered xs ys r k l e)

-- one set more at a place
bits_inserted : (l : List ActionSet) (i : ℕ) (s : ActionSet) → bits_of (take i l ++ s ∷ drop i l) ≡ take i (bits_of l) ++ s.bits ∷ drop i (bits_of l)
bits_inserted l i s =
    map-append (λ s. s.bits) (take i l) (s ∷ drop i l)
    ∙ (ap (λ (xs : List ℕ). xs ++ s.bits ∷ bits_of (drop i l)) (sym (take-map (λ s. s.bits) i l)) ∙ ap (λ (xs : List ℕ). take i (bits_of l) ++ s.bits ∷ xs) (sym (drop-map (λ s. s.bits) i l)))

pub offered_known : (x : ℕ) (l : List ActionSet) → covered x (bits_of l) ≡ true → bits_of l ≡ offered x (bits_of l)
unfolding offered
offered_known x l e = sym (cond-true (covered x (bits_of l)) (bits_of l) _ e)

-- the sets that contain s have been taken out of l, and s put in its place
pub offered_new : (s : ActionSet) (l left after : List ActionSet) (i : ℕ) → covered s.bits (bits_of l) ≡ false → left ≡ filter (free s.bits) l
    → i ≡ position_or_len (λ t. nat_lt s.bits t.bits) left → after ≡ take i left ++ s ∷ drop i left → bits_of after ≡ offered s.bits (bits_of l)
unfolding offered
offered_new s l left after i e w p q =
    let first : Placed s.bits left i = rw p (placed_first s.bits left) in
    let kept = ap bits_of w ∙ without_kept s.bits l in
    ap bits_of q ∙ (bits_inserted left i s ∙ (sym first ∙ (ap (placed s.bits) kept ∙ sym (cond-false (covered s.bits (bits_of l)) (bits_of l) _ e))))

pub antichain_empty : (l : List ActionSet) → l ≡ [] → antichain (bits_of l) ≡ true
antichain_empty l e = rw e antichain_none

-- what the family is seen as, by what it keeps
pub family_kept : (l : List ActionSet) (v : List ℕ) → bits_of l ≡ v → antichain (bits_of l) ≡ true → length l ≤ 64 → IsFamily v
family_kept l v e a few = rw (sym e) (family_of (bits_of l) a (omega (arith, length-map l (λ s. s.bits))))

above_at : (x : ℕ) (l : List ActionSet) (j : ℕ) (d : ActionSet) → Above x (bits_of l) → j < length l → x < (get_or l j d).bits
above_at x [] j d a b = absurd (not-suc-le-zero b)
above_at x (s ∷ l) zero d a b = a.0
above_at x (s ∷ l) (suc j) d a b = above_at x l j d a.1 (omega (arith, b))

-- the sets of a family rise
rises : (l : List ActionSet) → Ascending (bits_of l) → IsNonDecreasingBy (λ s. s.bits) l
rises [] a i j d le b = absurd (not-suc-le-zero b)
rises (s ∷ l) a zero zero d le b = le_refl _
rises (s ∷ l) a zero (suc j) d le b = omega (arith, above_at s.bits l j d a.0 (omega (arith, b)))
rises (s ∷ l) a (suc i) zero d le b = absurd (not-suc-le-zero le)
rises (s ∷ l) a (suc i) (suc j) d le b = rises l a.1 i j d (omega (arith, le)) (omega (arith, b))

-- what is above the last set is above all
pub last_below : (x : ℕ) (l : List ActionSet) → antichain (bits_of l) ≡ true → (z : ActionSet) → ((d : ActionSet) → get_or l (length l - 1) d ≡ z) → z.bits < x
    → All (λ y. y < x) (bits_of l)
last_below x l a z h b k d few =
    let long : length (bits_of l) ≡ length l = length-map l (λ s. s.bits) in
    let here : get_or (bits_of l) k d ≡ (get_or l k z).bits = get_or-map (λ s. s.bits) l k z d (omega arith) in
    let up = rises l (antichain_ascending (bits_of l) a) k (length l - 1) z (omega arith) (omega arith) in
    let top : (get_or l (length l - 1) z).bits ≡ z.bits = ap {A = ActionSet} (λ s. s.bits) (h z) in
    omega (arith, up, top, here, b)

-- no set contains x where all are below it, and its place is the end
placed_last : (x : ℕ) (l : List ℕ) → All (λ y. y < x) l → placed x (without x l) ≡ l ++ x ∷ []
unfolding placed without
placed_last x [] b = refl
placed_last x (y ∷ l) b = pick (within x y) refl (nat_lt x y) refl (placed_last x l (λ k d h. b (suc k) d (omega (arith, h))))
  where
    pick : (w : Bool) → within x y ≡ w → (c : Bool) → nat_lt x y ≡ c → placed x (without x l) ≡ l ++ x ∷ [] → placed x (cond w (without x l) (y ∷ without x l)) ≡ y ∷ (l ++ x ∷ [])
    pick true e c f r = absurd (let le = subset_le x y (within_subset x y e) in omega (arith, b 0 y (omega arith)))
    pick false e true f r = absurd (let lt = ltb-true x y f in omega (arith, b 0 y (omega arith)))
    pick false e false f r = rw f (ap (λ (xs : List ℕ). y ∷ xs) r)

pub offered_last : (s : ActionSet) (l after : List ActionSet) → covered s.bits (bits_of l) ≡ false → All (λ y. y < s.bits) (bits_of l) → after ≡ l ++ s ∷ []
    → bits_of after ≡ offered s.bits (bits_of l)
unfolding offered
offered_last s l after e b q =
    ap bits_of q ∙ (map-append (λ s. s.bits) l (s ∷ []) ∙ (sym (placed_last s.bits (bits_of l) b) ∙ sym (cond-false (covered s.bits (bits_of l)) (bits_of l) _ e)))
