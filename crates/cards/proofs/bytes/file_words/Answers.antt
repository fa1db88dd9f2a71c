use Rattle.std.proofs.Common.{length, sym, ap, ◌∙◌, arith, eqb-true, length-take}
use Rattle.std.proofs.lemmas.Bool.{eqb-false}
use Rattle.std.proofs.lemmas.Result.{err_from_is_err_and}
use Rattle.cards.proofs.Files.{chunked, file_words_length, faulty, left_over, none_left}
use Rattle.cards.proofs.bytes.file_words.Goals as goal

pub returns-then-is_empty : goal.returns-then-is_empty
returns-then-is_empty c = (
  chunked c.min.result c.args.bytes.now _ _ c.min.ensures c.as_chunks.ensures.front c.put_words.ensures,
  none_left c.args.role c.args.bytes.now
      (omega (arith, eqb-true _ 0 (sym c.is_empty.ensures ∙ c.if-is_empty.true), c.min.ensures, c.as_chunks.ensures.back_len, length-take c.min.result c.args.bytes.now)),
)

pub returns-in_err-check : goal.returns-in_err-check
returns-in_err-check c =
    let e = c.as_slice.ensures.value ∙ chunked c.min.result c.args.bytes.now _ _ c.min.ensures c.as_chunks.ensures.front c.put_words.ensures in
    let p = err_from_is_err_and c.from_residual.result c.from_residual.ensures.1 in
    rw (p.1, p.2) (faulty c.args.role c.args.bytes.now _ e _ c.in_err-check.ensures)

pub returns : goal.returns
returns c =
    let e = chunked c.min.result c.args.bytes.now _ _ c.min.ensures c.as_chunks.ensures.front c.put_words.ensures in
    left_over c.args.role c.args.bytes.now _ (c.as_slice.ensures.value ∙ e) c.in_ok-check.field-0 c.len.result c.in_ok-check.ensures
    (omega (arith, eqb-false _ 0 (sym c.is_empty.ensures ∙ c.if-is_empty.false), c.min.ensures, c.as_chunks.ensures.back_len, length-take c.min.result c.args.bytes.now))
    (omega (arith, c.len.ensures.value, ap length e, file_words_length c.args.bytes.now))
