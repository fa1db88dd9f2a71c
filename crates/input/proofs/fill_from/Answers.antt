use Rattle.std.proofs.Common.{◌≡◌, ℕ, ◌+◌, ◌-◌, ◌≤◌, List, ◌++◌, rules, length, take, sym, ap, ◌∙◌, subst}
use Rattle.std.specs.Io.KnownBytes.{Consumes}
use Rattle.std.proofs.KnownBytes.{Consumes-trans}
use Rattle.std.proofs.Math.Seq.{take-append-add}
use Rattle.std.proofs.lemmas.List.{take-append-le, length-take-le}
use borrow.Rule.Slice.PartMut.{put_mid, post_of}
use Rattle.input.proofs.fill_from.Goals as goal

-- what is there and what is read beyond it
joined : (a k n : ℕ) (xs ys : List ℕ) → a ≤ length xs → n ≤ length ys → take a xs ++ take n ys ≡ take (a + n) (put_mid a k xs ys)
joined a k n xs ys within fits =
    let rest = post_of a k xs in
    ap (λ l. take a xs ++ l) (sym (take-append-le n ys rest fits)) ∙ sym (take-append-add (take a xs) (ys ++ rest) n)
    ∙ ap (λ m. take (m + n) (put_mid a k xs ys)) (length-take-le a xs within)

pub loop-count-preserved : goal.loop-count-preserved
loop-count-preserved g c =
    let a = c.loop-count.count in
    let k = length c.loop-count.buffer - a in
    let i = c.loop-count.invariant in
    let more = c.in_ok-more.ensures in
    record {
      bound = search rules;
      bytes = subst (Consumes _ _) (joined a k c.in_ok-more.more c.loop-count.buffer c.read.new.buf i.bound more.bound.0) (Consumes-trans _ _ _ _ _ i.bytes more.bytes.0);
    }
