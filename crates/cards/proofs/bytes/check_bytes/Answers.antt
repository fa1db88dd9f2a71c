use Rattle.std.proofs.Common.{◌∙◌}
use Rattle.std.proofs.lemmas.Result.{err_from_is_err_and}
use Rattle.cards.proofs.Files.{checked_good, checked_bad}
use Rattle.cards.proofs.bytes.check_bytes.Goals as goal

pub returns-in_err-check : goal.returns-in_err-check
returns-in_err-check c =
    let t = c.in_ok-file_words.ensures in
    let p = err_from_is_err_and c.from_residual-in_err-check.result c.from_residual-in_err-check.ensures.1 in
    rw (p.1, p.2) (checked_bad c.args.role c.args.bytes.now _ (c.as_slice.ensures.value ∙ t.0) t.1 _ c.in_err-check.ensures)

pub returns : goal.returns
returns c =
    let t = c.in_ok-file_words.ensures in
    checked_good c.args.role c.args.bytes.now _ (c.as_slice.ensures.value ∙ t.0) t.1 _ c.in_ok-check.ensures
