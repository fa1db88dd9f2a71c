use Rattle.std.proofs.Common.{◌/◌, ◌^◌, ◌<◌, arith}
use lib.Bits.{and_mask}
use Rattle.std.proofs.lemmas.Nat.{one_shl}
use Rattle.cards.proofs.words.bits.Goals as goal

pub returns : goal.returns
returns c =
    let h : c.args.width < 32 = omega arith in
    rw (one_shl c.args.width 32 h, and_mask (c.args.word / 2 ^ c.args.low) c.args.width)
