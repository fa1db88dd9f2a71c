-- A counter by membership, and that it is a lawful system. Assumes nothing.
use Rattle.std.specs.Prelude.{◌≡◌, ℕ, ◌+◌, ◌-◌, ◌<◌, ◌≤◌, ◌↔◌, refl}
use Rattle.std.proofs.Common.{inl, inr, arith}
use Rattle.std.proofs.lemmas.Bool.Decides.{Decides-and, Decides-eqb, Decides-ltb}
use Rattle.lts.specs.Sets.{In}
use Rattle.lts.specs.System.{Lawful}
use Rattle.lts.proofs.Membership.{in_or, or_left, or_right, not_empty}
use Rattle.layers.specs.Transitions.{lawful_within}
use Rattle.layers.specs.Deciding.{only_members, decides_leb}
use Rattle.layers.specs.Counter.{raised, lowered, counter, Counts}

raised_members : (c input k a q : ℕ) → In q (raised c input k a) ↔ ((a ≡ input) × (k < c)) × (q ≡ k + 1)
raised_members c input k a q = only_members _ q (k + 1) (Decides-and _ _ (Decides-eqb a input) (Decides-ltb k c))

lowered_members : (c output k a q : ℕ) → In q (lowered c output k a) ↔ ((a ≡ output) × ((k ≤ c) × (0 < k))) × (q ≡ k - 1)
lowered_members c output k a q = only_members _ q (k - 1) (Decides-and _ _ (Decides-eqb a output) (Decides-and _ _ (decides_leb k c) (Decides-ltb 0 k)))

pub counter_counts : (c input output : ℕ) → Counts c input output (counter c input output)
counter_counts c input output = record {
  count = refl;
  start = refl;
  visible = λ k a q. (
    λ h. elim (in_or q (raised c input k a) (lowered c output k a) h) [
      | inl u ↦ (let m = (raised_members c input k a q).0 u in inl (m.0.0, m.1, omega arith))
      | inr d ↦ (let m = (lowered_members c output k a q).0 d in inr (m.0.0, omega arith, m.0.1.0))
    ],
    λ h. elim h [
      | inl u ↦ or_left q _ _ ((raised_members c input k a q).1 ((u.0, omega arith), u.1))
      | inr d ↦ or_right q _ _ ((lowered_members c output k a q).1 ((d.0, (d.2, omega arith)), omega arith))
    ],
  );
  hidden = λ k. refl;
}

pub counter_lawful : (c input output : ℕ) → input ≤ 31 → output ≤ 31 → Lawful (counter c input output)
counter_lawful c input output i o =
    lawful_within (counter c input output) (omega arith)
    (λ k a q h. elim (((counter_counts c input output).visible k a q).0 h) [
      | inl u ↦ (omega arith, omega arith, omega arith)
      | inr d ↦ (omega arith, omega arith, omega arith)
    ])
    (λ k q h. absurd (not_empty q 0 h refl))
