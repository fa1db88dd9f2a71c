use Rattle.std.proofs.Common.{◌≡◌, ◌<◌, ◌-◌, All, List, ℕ, length, get_or, vec_items, rules, subst, arith}
use Rattle.std.proofs.lemmas.Bool.{ltb-true}
use Rattle.lts.specs.SetTypes.{ActionSet}
use Rattle.traces.proofs.FamilySteps.{last_below}
use Rattle.traces.proofs.family.Family.ends_below.Goals as goal

pub returns-in-Some : goal.returns-in-Some
returns-in-Some c t =
    let l = vec_items c.self.inside.sets in
    let z = c.in-Some.last.now in
    let low = ltb-true c.bits.result c.bits-in-Some.result t in
    let end : ((d : ActionSet) → get_or l (length l - 1) d ≡ z) = λ d. search rules in
    subst (λ (k : List ℕ). All (λ y. y < c.args.offer.bits) k) c.self.view_is
    (last_below c.args.offer.bits l c.self.invariant.apart z end (omega (arith, low, c.bits.ensures, c.bits-in-Some.ensures)))
