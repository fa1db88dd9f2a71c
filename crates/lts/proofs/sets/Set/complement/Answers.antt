-- The complement of a word is the set of the numbers outside it.
use Rattle.std.proofs.Common.{◌-◌, ◌<◌, ◌^◌, arith}
use Rattle.std.proofs.Math.Nat.{mod-eq_of_lt}
use Rattle.lts.proofs.Membership.{complement_sum}
use Rattle.lts.proofs.SetLaws.{exact_complement}
use Rattle.lts.proofs.sets.Set.complement.Goals as goal

pub returns-clause-value : goal.returns-clause-value
returns-clause-value g c =
    let h = complement_sum g.W.Word.WIDTH (g.W.Word.number c.args.self.bits) (omega (arith, c.widened.ensures)) in
    let r : c.ALL.result - c.widened.result < 2 ^ g.W.Word.WIDTH = omega (arith, g.met.W.Word.whole, c.ALL.ensures) in
    omega (arith, mod-eq_of_lt r, g.met.W.Word.whole, c.ALL.ensures, c.widened.ensures, c.truncated.ensures, h)

pub returns-clause-members : goal.returns-clause-members
returns-clause-members g c = exact_complement _ _ _ (returns-clause-value g c)
