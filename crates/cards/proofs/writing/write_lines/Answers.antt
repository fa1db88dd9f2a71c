use Rattle.std.proofs.Common.{◌≡◌, ℕ, ◌+◌, ◌<◌, List, [], ◌∷◌, ◌++◌, map, length, get_or, take, sym, ap, ◌∙◌, arith}
use Rattle.std.proofs.lemmas.List.{take_more, take_all, map-append, length-map, length-take-le}
use Rattle.cards.specs.declared.lines.Line.{Line}
use Rattle.cards.specs.Contents.{laid}
use Rattle.cards.specs.Words.{line_word}
use Rattle.cards.proofs.Laid.{laid_none, laid_step}
use Rattle.cards.proofs.Tabled.{no_line}
use Rattle.cards.proofs.writing.write_lines.Goals as goal

pub loop-line-init : goal.loop-line-init
loop-line-init c = (omega arith, sym (laid_none c.args.at c.args.out.now))

pub loop-line-preserved : goal.loop-line-preserved
loop-line-preserved c =
    let ls = c.args.lines.now in
    let i = c.loop-line.line-index in
    let h : i < length ls = omega arith in
    let n : length (map line_word (take i ls)) ≡ i = length-map (take i ls) line_word ∙ length-take-le i ls (omega arith) in
    let m : map line_word (take (i + 1) ls) ≡ map line_word (take i ls) ++ (c.from.result ∷ []) =
    ap (map line_word) (take_more ls i no_line h) ∙ map-append line_word (take i ls) (get_or ls i no_line ∷ []) ∙ ap (λ (w : ℕ). map line_word (take i ls) ++ (w ∷ [])) (sym c.from.ensures) in (
      omega (arith, c.loop-line.invariant.0),
      laid_step c.args.at c.loop-line.place (map line_word (take i ls)) (map line_word (take (i + 1) ls)) c.args.out.now c.loop-line.out c.from.result c.loop-line.invariant.1
          (omega (arith, c.loop-line.invariant.0)) (omega (arith, c.requires, c.loop-line.invariant.0)) m,
    )

pub returns : goal.returns
returns c = c.loop-line.invariant.1 ∙ ap (λ (ls : List Line). laid c.args.at (map line_word ls) c.args.out.now) (take_all c.loop-line.line-index c.args.lines.now (omega arith))
