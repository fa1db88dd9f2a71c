use Rattle.std.proofs.Common.{◌≡◌, ◌<◌, All, List, ℕ, subst, false, nat_lt, vec_items, vec_len, vec_capacity, sym, refl, ap, ◌∙◌, arith}
use Rattle.std.proofs.lemmas.Bool.{cond-true}
use Rattle.std.specs.List.{position_or_len}
use Rattle.traces.specs.Families.{antichain, covered, offered}
use Rattle.traces.specs.Offered.{bits_of}
use Rattle.traces.proofs.Antichains.{offered_antichain}
use Rattle.traces.proofs.FamilySteps.{offered_known, offered_new, offered_last, family_kept}
use Rattle.traces.proofs.family.Family.insert.Goals.{After-insert, After-push_reserved}
use Rattle.traces.proofs.family.Family.insert.Goals as goal

-- at the end, where it is above all members
pushed : (c : After-push_reserved) → bits_of (vec_items c.push_reserved.new.self) ≡ offered c.args.offer.bits (bits_of (vec_items c.self.inside.sets))
pushed c =
    let x = c.args.offer.bits in
    let l = vec_items c.self.inside.sets in
    let new : covered x (bits_of l) ≡ false = sym (c.if-not-is_covered.ensures ∙ ap (covered x) (c.members.ensures.value ∙ sym c.self.view_is)) in
    let below = subst (λ (k : List ℕ). All (λ y. y < x) k) (sym c.self.view_is) (c.ends_below.ensures c.if-ends_below.true) in
    offered_last c.args.offer l _ new below c.push_reserved.ensures.items

-- in its place, where those that contain it are taken out
entered : (c : After-insert) → bits_of (vec_items c.insert.new.self) ≡ offered c.args.offer.bits (bits_of (vec_items c.self.inside.sets))
entered c =
    let x = c.args.offer.bits in
    let l = vec_items c.self.inside.sets in
    let new : covered x (bits_of l) ≡ false = sym (c.if-not-is_covered.ensures ∙ ap (covered x) (c.members.ensures.value ∙ sym c.self.view_is)) in
    let first = c.place_of-place.ensures.place ∙ ap (position_or_len (λ s. nat_lt x s.bits)) c.as_slice.ensures.value in
    let free : vec_len c.leave_out.new.sets < vec_capacity c.leave_out.new.sets = omega arith in
    offered_new c.args.offer l (vec_items c.leave_out.new.sets) _ _ new c.leave_out.ensures.items first (c.insert.ensures.items ∙ cond-true _ _ _ (c.insert.ensures.succeeds free))

pub invariant_of-self : goal.invariant_of-self
invariant_of-self c =
    let l = vec_items c.self.inside.sets in
    record {
      room = omega arith;
      few = omega arith;
      apart = ap antichain (pushed c) ∙ offered_antichain c.args.offer.bits (bits_of l) c.self.invariant.apart;
    }

pub invariant_of-self-else-ends_below : goal.invariant_of-self-else-ends_below
invariant_of-self-else-ends_below c =
    let l = vec_items c.self.inside.sets in
    let free : vec_len c.leave_out.new.sets < vec_capacity c.leave_out.new.sets = omega arith in
    record {
      room = omega arith;
      few = omega (arith, c.insert.ensures.len ∙ cond-true _ _ _ (c.insert.ensures.succeeds free));
      apart = ap antichain (entered c) ∙ offered_antichain c.args.offer.bits (bits_of l) c.self.invariant.apart;
    }

pub returns-then-ends_below-clause-after : goal.returns-then-ends_below-clause-after
returns-then-ends_below-clause-after c = pushed c ∙ ap (offered c.args.offer.bits) c.self.view_is

pub returns-else-ends_below-clause-after : goal.returns-else-ends_below-clause-after
returns-else-ends_below-clause-after c = entered c ∙ ap (offered c.args.offer.bits) c.self.view_is

pub returns-else-not-is_covered-clause-after : goal.returns-else-not-is_covered-clause-after
returns-else-not-is_covered-clause-after c =
    let x = c.args.offer.bits in
    let l = vec_items c.self.inside.sets in
    sym c.self.view_is ∙ (offered_known x l (sym (c.if-not-is_covered.ensures ∙ ap (covered x) (c.members.ensures.value ∙ sym c.self.view_is))) ∙ ap (offered x) c.self.view_is)

pub returns-then-len-ge64-clause-family : goal.returns-then-len-ge64-clause-family
returns-then-len-ge64-clause-family c =
    family_kept (vec_items c.self.inside.sets) _ c.self.view_is c.self.invariant.apart (omega (arith, c.self.invariant.few, c.self.inside.sets.ok.0))

pub returns-then-ends_below-clause-family : goal.returns-then-ends_below-clause-family
returns-then-ends_below-clause-family c =
    let kept = invariant_of-self c in
    family_kept (vec_items c.push_reserved.new.self) _ refl kept.apart (omega (arith, kept.few, c.push_reserved.new.self.ok.0))

pub returns-else-ends_below-clause-family : goal.returns-else-ends_below-clause-family
returns-else-ends_below-clause-family c =
    let kept = invariant_of-self-else-ends_below c in
    family_kept (vec_items c.insert.new.self) _ refl kept.apart (omega (arith, kept.few, c.insert.new.self.ok.0))
