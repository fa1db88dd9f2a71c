-- The rule of the ground Offer over lists does what it says, and is the rule over minimal acceptance sets. Assumes nothing.
use Rattle.std.proofs.Common.{◌≡◌, ℕ, ◌<◌, ◌≤◌, true, ◌↔◌, List, [], ◌∷◌, Some, None, Option, sym, refl, subst, inl, inr, arith}
use Rattle.std.proofs.lemmas.Bool.{both_ways, cond_both}
use Rattle.lts.specs.Sets.{Subset, Above, Ascending}
use Rattle.lts.specs.System.{System}
use Rattle.traces.specs.Families.{Member, covered}
use Rattle.traces.specs.Offered.{Incomparable}
use Rattle.traces.specs.Shown.{Accepts}
use Rattle.traces.proofs.Antichains.{covered_member, member_covered, ascending_same}
use Rattle.lts.proofs.Membership.{within_subset, subset_within, same_members}
use Rattle.testing.specs.declared.ground.Side.{Side}
use Rattle.testing.specs.declared.ground.Side.TheVariants.{Left, Right}
use Rattle.testing.specs.declared.ground.Ground.{Ground}
use Rattle.testing.specs.declared.ground.Ground.TheVariants.{Reach, Settle, Offer}
use Rattle.testing.specs.declared.ground.Split.{Split}
use Rattle.testing.specs.Splits.{Bare, Lowest, BothConvergent, Splits}
use Rattle.testing.specs.Rule.{first_bare, by_offer, offer_rule, BareIn, RuleSays, RuleLaw, RuleDiffers, RuleSplits}
use Rattle.testing.proofs.OneGround.{one_ground}

above_member : (w z : ℕ) (xs : List ℕ) → Above w xs → Member z xs → w < z
above_member w z [] a h = absurd h
above_member w z (y ∷ ys) a (inl e) = omega (arith, a.0)
above_member w z (y ∷ ys) a (inr h) = above_member w z ys a.1 h

-- each set of xs contains one of ys, or the one found is the lowest that does not
abbrev Found : List ℕ → List ℕ → Option ℕ → Type 0
Found xs ys None = (x : ℕ) → Member x xs → (y : ℕ) × Member y ys × Subset y x
Found xs ys (Some S) = Lowest (BareIn xs ys) S

one_inside : (x : ℕ) (ys : List ℕ) → covered x ys ≡ true → (y : ℕ) × Member y ys × Subset y x
one_inside x ys e = let c = covered_member x ys e in (c.0, c.1, within_subset c.0 x c.2)

first_bare_lem : (xs ys : List ℕ) → Ascending xs → Found xs ys (first_bare xs ys)
unfolding first_bare
first_bare_lem [] ys a = λ x h. absurd h
first_bare_lem (x ∷ xs) ys a = cond_both (covered x ys) _ _ (Found (x ∷ xs) ys)
    (λ e. later (one_inside x ys e) (first_bare xs ys) (first_bare_lem xs ys a.1))
    (λ e. record {
      holds = record { member = inl refl; free = λ y h f. both_ways (covered x ys) e (member_covered x y ys h (subset_within y x f)) };
      lowest = λ R b. lowest R b.member;
    })
  where
    later : (y : ℕ) × Member y ys × Subset y x → (o : Option ℕ) → Found xs ys o → Found (x ∷ xs) ys o
    later c None f = λ z. elim [
      | inl e ↦ subst (λ (w : ℕ). (y : ℕ) × Member y ys × Subset y w) (sym e) c
      | inr h ↦ f z h
    ]
    later c (Some S) f = record {
      holds = record { member = inr f.holds.member; free = f.holds.free };
      lowest = λ R b. elim b.member [
        | inl e ↦ absurd (b.free c.0 c.1 (subst (λ (v : ℕ). Subset c.0 v) (sym e) c.2))
        | inr h ↦ f.lowest R (record { member = h; free = b.free })
      ];
    }

    lowest : (R : ℕ) → Member R (x ∷ xs) → x ≤ R
    lowest R (inl e) = omega arith
    lowest R (inr h) = omega (arith, above_member x R xs a.0 h)

none_bare : (xs ys : List ℕ) → Found xs ys None → (S : ℕ) → ¬ BareIn xs ys S
none_bare xs ys f S b = let c = f S b.member in b.free c.0 c.1 c.2

pub rule_law : RuleLaw
rule_law xs ys a b = by (first_bare xs ys) (first_bare ys xs) (first_bare_lem xs ys a) (first_bare_lem ys xs b)
  where
    by : (o p : Option ℕ) → Found xs ys o → Found ys xs p → RuleSays xs ys (by_offer o p)
    by (Some S) p f g = inl (S, f, refl)
    by None (Some S) f g = inr (none_bare xs ys f, (S, g, refl))
    by None None f g = (none_bare xs ys f, none_bare ys xs g)

-- of lists that cover each other, each has the other's members
moved : (xs ys : List ℕ) → Incomparable xs → Found xs ys None → Found ys xs None → (z : ℕ) → Member z xs → Member z ys
moved xs ys apart f g z h =
    let c = f z h in
    let d = g c.0 c.1 in
    let e : d.0 ≡ z = apart d.0 z d.1 h (λ k i. c.2 k (d.2 k i)) in
    subst (λ (w : ℕ). Member w ys) (same_members c.0 z c.2 (subst (λ (w : ℕ). Subset w c.0) e d.2)) c.1

pub some≢none : {A : Type 0} {x : A} → ◌≡◌ {A = Option A} (Some x) None → ⊥
some≢none e = let z : ◌≡◌ {A = ℕ} 0 1 = cc in omega arith

pub rule_differs : RuleDiffers
rule_differs xs ys a b c d = by (first_bare xs ys) (first_bare ys xs) (first_bare_lem xs ys a) (first_bare_lem ys xs b)
  where
    found_same : {S : ℕ} → Lowest (BareIn xs ys) S → ¬ (xs ≡ ys)
    found_same {S} f e = f.holds.free S (subst (λ (l : List ℕ). Member S l) e f.holds.member) (λ k i. i)

    found_back : {S : ℕ} → Lowest (BareIn ys xs) S → ¬ (xs ≡ ys)
    found_back {S} f e = f.holds.free S (subst (λ (l : List ℕ). Member S l) (sym e) f.holds.member) (λ k i. i)

    by : (o p : Option ℕ) → Found xs ys o → Found ys xs p → by_offer o p ≡ None ↔ xs ≡ ys
    by (Some S) p f g = (λ e. absurd (some≢none e), λ e. absurd (found_same f e))
    by None (Some S) f g = (λ e. absurd (some≢none e), λ e. absurd (found_back g e))
    by None None f g = (λ e. ascending_same xs ys a b (moved xs ys c f g) (moved ys xs d g f), λ e. refl)

-- sets of the lists are minimal acceptance sets
module _ (l r : System) (s xs ys : List ℕ) (lx : Accepts l s xs) (ly : Accepts r s ys) where
  to_bare : (S : ℕ) → BareIn xs ys S → Bare l r s S
  to_bare S b = record { minimal = (lx.sets S).0 b.member; free = λ B h. b.free B ((ly.sets B).1 h) }

  of_bare : (S : ℕ) → Bare l r s S → BareIn xs ys S
  of_bare S b = record { member = (lx.sets S).1 b.minimal; free = λ y h. b.free y ((ly.sets y).0 h) }

  to_lowest : (S : ℕ) → Lowest (BareIn xs ys) S → Lowest (Bare l r s) S
  to_lowest S f = record { holds = to_bare S f.holds; lowest = λ R b. f.lowest R (of_bare R b) }

module _ (l r : System) (s xs ys : List ℕ) (both : BothConvergent l r s) (lx : Accepts l s xs) (ly : Accepts r s ys) where
  abbrev SplitsBy : Split → Type 0
  SplitsBy v = Splits l r s v.ground v.passer

  says_split : (v : Split) → RuleSays xs ys (Some v) → SplitsBy v
  says_split v (inl f) = subst SplitsBy (sym f.2) (both, (f.0, to_lowest l r s xs ys lx ly f.0 f.1, refl))
  says_split v (inr f) =
      subst SplitsBy (sym f.1.2)
      (both, (λ S b. f.0 S (of_bare l r s xs ys lx ly S b)), (f.1.0, to_lowest r l s ys xs ly lx f.1.0 f.1.1, refl))

  says_none : RuleSays xs ys None → (g : Ground) (p : Side) → ¬ Splits l r s g p
  says_none f Reach Left b = b.1 both.right
  says_none f Reach Right b = b.1 both.left
  says_none f Settle Left b = b.3 both.right_convergent
  says_none f Settle Right b = b.3 both.left_convergent
  says_none f (Offer O) Right b = f.0 b.1.0 (of_bare l r s xs ys lx ly b.1.0 b.1.1.holds)
  says_none f (Offer O) Left b = f.1 b.2.0 (of_bare r l s ys xs ly lx b.2.0 b.2.1.holds)

  split_says : (v : Split) → SplitsBy v → (o : Option Split) → RuleSays xs ys o → o ≡ Some v
  split_says v b None f = absurd (says_none f v.ground v.passer b)
  split_says v b (Some w) f =
      let e = one_ground l r s w.ground v.ground w.passer v.passer (says_split w f) b in
      λ i. Some (record { ground = e.0 i; passer = e.1 i })

pub rule_splits : RuleSplits
rule_splits l r s xs ys both lx ly v =
    let says = rule_law xs ys lx.rising ly.rising in (
      λ e. says_split l r s xs ys both lx ly v (subst (RuleSays xs ys) e says),
      λ b. split_says l r s xs ys both lx ly v b (offer_rule xs ys) says,
    )
