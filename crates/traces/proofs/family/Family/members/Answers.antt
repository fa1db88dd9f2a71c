use Rattle.std.proofs.Common.{ℕ, List, length, vec_items, sym, ap, ◌∙◌, subst, arith}
use Rattle.std.proofs.lemmas.List.{length-map}
use Rattle.lts.specs.Sets.{Ascending}
use Rattle.traces.specs.Offered.{bits_of, Incomparable}
use Rattle.traces.proofs.Antichains.{antichain_ascending, antichain_incomparable}
use Rattle.traces.proofs.family.Family.members.Goals as goal

pub returns : goal.returns
returns c =
    let items = vec_items c.self.inside.sets in
    let e = ap bits_of (sym c.deref.ensures.value) in
    record {
      value = ap bits_of c.deref.ensures.value ∙ c.self.view_is;
      rising = subst (λ (k : List ℕ). Ascending k) e (antichain_ascending (bits_of items) c.self.invariant.apart);
      apart = subst (λ (k : List ℕ). Incomparable k) e (antichain_incomparable (bits_of items) c.self.invariant.apart);
      few = omega (arith, c.self.invariant.few, ap length c.self.view_is, length-map items (λ s. s.bits), c.self.inside.sets.ok.0);
    }
