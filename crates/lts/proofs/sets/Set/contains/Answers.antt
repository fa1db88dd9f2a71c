use Rattle.std.proofs.Common.{◌<◌, ◌≤◌, ◌^◌, sym, ◌∙◌, arith, le-ltb, ne_eqb}
use Rattle.lts.proofs.Membership.{outside}
use Rattle.lts.proofs.sets.Set.contains.Goals as goal

pub returns-else-number-WIDTH : goal.returns-else-number-WIDTH
returns-else-number-WIDTH g c =
    let b : g.W.Word.number c.args.self.bits < 2 ^ g.W.Word.WIDTH = omega (arith, c.widened-bits.ensures) in
    let h : g.W.Word.WIDTH ≤ c.args.number = omega (arith, c.WIDTH.ensures, c.if-number-WIDTH.false) in
    let z = outside g.W.Word.WIDTH (g.W.Word.number c.args.self.bits) c.args.number b h in
    le-ltb _ _ (omega (arith, c.WIDTH.ensures, h)) ∙ sym (ne_eqb _ 1 (omega (arith, z)))
