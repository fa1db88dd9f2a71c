use Rattle.std.proofs.Common.{rules, [], ◌∷◌, ◌++◌, codes, decimal, refl, subst}
use Rattle.std.specs.Fmt.{HasWritten}
use Rattle.std.specs.Iterator.{Yields}
use Rattle.std.proofs.Output.{has_written_append}
use Rattle.printing.proofs.numbers.write_numbers.Goals as goal

pub returns-in_default : goal.returns-in_default
returns-in_default g c k = ([], (_, (_, refl, c.in_default.ensures.steps)), λ p. search rules)

pub returns : goal.returns
returns g c k =
    let ys = c.loop-number.yielded in
    let rest =
    subst (λ (s : g.row.I.Denot). Yields g.I.Iterator.next_gives s ys c.loop-number.number-iterator) c.into_iter-number-iterator.ensures.into_iter_gives c.loop-number.yielded_by in (
      c.in-Some.first ∷ ys,
      (_, (_, (_, c.in-Some.ensures.steps, rest), c.in-None.ensures.steps)),
      λ p.
          let first : HasWritten g.W.Write.write_str_gives c.args.f.now (codes " " ++ decimal c.in-Some.first) c.write-2.new.self = search rules in
          has_written_append _ _ _ _ _ _ first (c.loop-number.invariant.2 first.plain),
    )
