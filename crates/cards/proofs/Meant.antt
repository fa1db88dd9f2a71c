-- What the lines of a written card mean. Assumes nothing.
use Rattle.std.specs.Prelude.{◌≡◌, ℕ, ◌^◌, Bool, true, false, cond, ◌&&◌, List, [], ◌∷◌, ◌==◌, refl}
use Rattle.std.proofs.Common.{sym, subst, inl, inr, eq-eqb, eqb-true}
use mathlib.Core.List.Memᴰ
use mathlib.Core.List.{Memᴰ}
use Rattle.lts.specs.Sets.{In}
use Rattle.lts.proofs.Membership.{in_or, or_left, or_right, in_power, power_in, not_empty}
use Rattle.cards.specs.declared.lines.Line.{Line}
use Rattle.cards.specs.Lines.{column, hit, targets}

hit_is : (b c : Bool) (q t : ℕ) → In q (cond (b && c) (2 ^ t) 0) → (b ≡ true) × (c ≡ true) × (q ≡ t)
hit_is true true q t h = (refl, refl, power_in q t h)
hit_is true false q t h = absurd (not_empty q 0 h refl)
hit_is false c q t h = absurd (not_empty q 0 h refl)

-- a line that leads from p to q and stands in column k
pub record Leads (ls : List Line) (p k q : ℕ) : Type 0 where
  pub line : Line
  pub listed : Memᴰ line ls
  pub from : line.from ≡ p
  pub label : column line.label ≡ k
  pub to : line.to ≡ q

pub in_targets : (ls : List Line) (p k q : ℕ) → In q (targets ls p k) → Leads ls p k q
unfolding targets
in_targets [] p k q h = absurd (not_empty q 0 h refl)
in_targets (l ∷ ls) p k q h =
    elim (in_or q (hit l p k) (targets ls p k) h) [
      | inl y ↦
          let i = hit_is (l.from == p) (column l.label == k) q l.to y in
          record { line = l; listed = Memᴰ.head refl; from = eqb-true l.from p i.0; label = eqb-true (column l.label) k i.1; to = sym i.2 }
      | inr y ↦
          let i = in_targets ls p k q y in
          record { line = i.line; listed = Memᴰ.tail i.listed; from = i.from; label = i.label; to = i.to }
    ]

hit_own : (l : Line) → In l.to (hit l l.from (column l.label))
hit_own l = rw (eq-eqb l.from l.from refl, eq-eqb (column l.label) (column l.label) refl) (in_power l.to)

pub targets_in : (ls : List Line) (l : Line) → Memᴰ l ls → In l.to (targets ls l.from (column l.label))
unfolding targets
targets_in [] l m = absurd (Memᴰ.not-nil m)
targets_in (x ∷ xs) l m =
    let p = l.from in
    let k = column l.label in
    elim (Memᴰ.cases_cons m) [
      | inl e ↦ or_left l.to (hit x p k) (targets xs p k) (subst (λ (y : Line). In l.to (hit y p k)) e (hit_own l))
      | inr m' ↦ or_right l.to (hit x p k) (targets xs p k) (targets_in xs l m')
    ]
