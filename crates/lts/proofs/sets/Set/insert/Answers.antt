use Rattle.std.proofs.Common.{ℕ, suc, ◌≡◌, ◌*◌, ◌%◌, ◌<◌, ◌≤◌, ◌^◌, bit_or, arith, pow-suc, pow_pos, pow_mono}
use Rattle.std.proofs.Math.Nat.{mod-eq_of_lt}
use Rattle.std.proofs.lemmas.Nat.{or_lt, one_shl}
use Rattle.std.proofs.lemmas.Bool.{lt-ltb}
use Rattle.lts.proofs.SetLaws.{exact_inserted}
use Rattle.lts.proofs.sets.Set.insert.Goals as goal

-- a word of w bits with bit q beside its own is one of w bits
one_more : (w q s : ℕ) → w ≤ 64 → q < w → s < 2 ^ w → bit_or s (1 * 2 ^ q % 2 ^ 64) % 2 ^ w ≡ bit_or s (1 * 2 ^ q % 2 ^ 64)
one_more w q s h b l =
    let p = pow-suc 2 q in
    let z = pow_pos q in
    let m : 2 ^ suc q ≤ 2 ^ w = pow_mono b in
    let o = one_shl q 64 (omega arith) in
    mod-eq_of_lt (or_lt w s (1 * 2 ^ q % 2 ^ 64) l (omega arith))

pub returns-clause-after : goal.returns-clause-after
returns-clause-after g c =
    let q = c.args.number in
    let b : q < g.W.Word.WIDTH = omega (arith, c.WIDTH.ensures, c.if-number-WIDTH.false) in
    let o = one_shl q 64 (omega (arith, b, g.met.W.Word.fits)) in
    let r = one_more g.W.Word.WIDTH q c.widened-before.result g.met.W.Word.fits b c.widened-before.ensures.below in
    let w = c.widened-before.ensures.value in
    let t = c.truncated-self.ensures in
    rw (lt-ltb q g.W.Word.WIDTH b) cc

pub returns-clause-members : goal.returns-clause-members
returns-clause-members g c = exact_inserted g.W.Word.WIDTH c.args.number (g.W.Word.number c.args.self.now.bits) _ (returns-clause-after g c)

pub returns-clause-grown : goal.returns-clause-grown
returns-clause-grown g c =
    let b : c.args.number < g.W.Word.WIDTH = omega (arith, c.WIDTH.ensures, c.if-number-WIDTH.false) in
    let r = one_more g.W.Word.WIDTH c.args.number c.widened-before.result g.met.W.Word.fits b c.widened-before.ensures.below in
    let w = c.widened-before.ensures.value in
    let t = c.truncated-self.ensures in
    cc
