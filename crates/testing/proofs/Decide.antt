-- What a trace shows of a lawful system can be decided: its states are finitely many. Assumes nothing.
use Rattle.std.proofs.Common.{◌≡◌, ℕ, suc, List, sym, subst, inl, inr, le_refl, arith}
use native.Mathlib.Decide.{ℕ_discrete, dec_lt, map_dec}
use lib.Bits.{bit_and}
use Rattle.lts.specs.Sets.{In, Subset}
use Rattle.lts.specs.System.{System, Lawful}
use Rattle.lts.specs.Traces.{After, CanDo, Stable, offer, Acceptance, Minimal}
use Rattle.lts.proofs.Membership.{same_members, subset_le, in_and, and_in}
use Rattle.traces.proofs.TraceStates.{states_after, after_below}
use Rattle.testing.proofs.Search.{look, dec_below}

-- two facts, the second of which may lean on the first
pub and_dec : {A B : Type 0} → Dec A → (A → Dec B) → Dec (A × B)
and_dec (no f) d = no (λ h. f h.0)
and_dec (yes a) d = elim (d a) [ yes b ↦ yes (a, b) | no g ↦ no (λ h. g h.1) ]

pub subset_dec : (a b : ℕ) → Dec (Subset a b)
subset_dec a b =
    map_dec
    (λ (e : bit_and a b ≡ a). λ k i. (in_and k a b (subst (λ (x : ℕ). In k x) (sym e) i)).1)
    (λ f. same_members (bit_and a b) a (λ k i. (in_and k a b i).0) (λ k i. and_in k a b i (f k i)))
    (ℕ_discrete (bit_and a b) a)

module _ (m : System) (lawful : Lawful m) where
  after_dec : (s : List ℕ) (q : ℕ) → Dec (After m s q)
  after_dec s q = let e = states_after m lawful s q in map_dec e.0 e.1 (ℕ_discrete _ 1)

  pub can_dec : (s : List ℕ) → Dec (CanDo m s)
  can_dec s = dec_below (λ q. After m s q) (after_dec s) m.count (λ q w. after_below m lawful w)

module _ (m : System) (lawful : Lawful m) (s : List ℕ) where
  acceptance_dec : (A : ℕ) → Dec (Acceptance m s A)
  acceptance_dec A =
      map_dec
      (λ h. record { state = h.0; after = h.1.0; stable = h.1.1.0; offers = h.1.1.1 })
      (λ a. (a.state, (a.after, (a.stable, a.offers))))
      (dec_below (λ q. After m s q × (Stable m q × (offer m q ≡ A)))
      (λ q. and_dec (after_dec m lawful s q) (λ w. and_dec (ℕ_discrete _ 0) (λ t. ℕ_discrete _ A)))
      m.count (λ q h. after_below m lawful h.0))

  -- each acceptance set contains a minimal one: the lowest number among those in it
  pub minimal_within : (A : ℕ) → Acceptance m s A → (B : ℕ) × Minimal m s B × Subset B A
  minimal_within A acc = elim (look (λ B. Acceptance m s B × Subset B A) (λ B. and_dec (acceptance_dec B) (λ a. subset_dec B A)) (suc A)) [
    | inr k ↦ absurd (k A (le_refl _) (acc, λ a i. i))
    | inl r ↦ (
      r.0,
      record {
        member = r.2.0;
        least = λ C c sub. elim (dec_lt C r.0) [
          | yes lower ↦ absurd (r.3 C lower (c, λ a i. r.2.1 a (sub a i)))
          | no b ↦ (let n = subset_le C r.0 sub in omega arith)
        ];
      },
      r.2.1,
    )
  ]

  pub minimal_dec : (A : ℕ) → Dec (Minimal m s A)
  minimal_dec A = elim (acceptance_dec A) [
    | no f ↦ no (λ h. f h.member)
    | yes acc ↦
        (let b = minimal_within A acc in
        elim (ℕ_discrete b.0 A) [
          | yes e ↦ yes (subst (λ (B : ℕ). Minimal m s B) e b.1)
          | no d ↦ no (λ h. d (h.least b.0 b.1.member b.2))
        ])
  ]

  -- whether a minimal acceptance set is part of S
  pub covers_dec : (S : ℕ) → Dec ((B : ℕ) × (Minimal m s B × Subset B S))
  covers_dec S =
      dec_below (λ B. Minimal m s B × Subset B S) (λ B. and_dec (minimal_dec B) (λ h. subset_dec B S)) (suc S) (λ B h. let n = subset_le B S h.1 in omega arith)
