use Rattle.std.proofs.Common.{◌≡◌, ℕ, Ok, Err, sym, ap, ◌∙◌, arith}
use Rattle.std.proofs.lemmas.Result.{err_from_is_err_and}
use Rattle.cards.specs.Reading.{ended, at_place}
use Rattle.cards.proofs.Checking.{check_more, check_fault, check_all}
use Rattle.cards.proofs.reading.check.Goals as goal

pub returns-in_err-progress : goal.returns-in_err-progress
returns-in_err-progress c =
    let i = c.loop-word.word-index in
    let e : Err c.in_err-progress.field-0.0 ≡ at_place c.loop-word.place c.step.result = grind (arith, err_from_is_err_and) in
    let f = check_fault c.args.role c.args.words.now i c.loop-word.progress _ (omega arith) (rw c.loop-word.invariant.0 at (e ∙ ap (at_place c.loop-word.place) c.step.ensures)) in
    let p = err_from_is_err_and c.from_residual.result c.from_residual.ensures.1 in
    rw (p.1, p.2) (sym (c.loop-word.invariant.1 ∙ f))

pub loop-word-preserved : goal.loop-word-preserved
loop-word-preserved c =
    let i = c.loop-word.word-index in
    let e : Ok c.in_ok-progress.progress ≡ at_place c.loop-word.place c.step.result = grind (arith, err_from_is_err_and) in (
      omega arith,
      c.loop-word.invariant.1 ∙ check_more c.args.role c.args.words.now i c.loop-word.progress _ (omega arith) (rw c.loop-word.invariant.0 at (e ∙ ap (at_place c.loop-word.place) c.step.ensures)),
    )

pub returns : goal.returns
returns c =
    let i = c.loop-word.word-index in
    let e : c.map_err-2.result ≡ at_place c.loop-word.place c.ended.result = grind (arith, err_from_is_err_and) in
    e ∙ ap (at_place c.loop-word.place) c.ended.ensures ∙ ap (λ (k : ℕ). at_place k (ended c.loop-word.progress)) c.loop-word.invariant.0
    ∙ sym (c.loop-word.invariant.1 ∙ check_all c.args.role c.args.words.now i c.loop-word.progress (omega arith))
