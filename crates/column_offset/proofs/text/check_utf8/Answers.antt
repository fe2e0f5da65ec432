use Rattle.std.proofs.lemmas.Result.{err_from_is_err_and}
use Rattle.column_offset.proofs.TextLemmas.{text_bounds}
use Rattle.column_offset.proofs.text.check_utf8.Goals as goal

pub returns-in_err-check_offsets_bounds : goal.returns-in_err-check_offsets_bounds
returns-in_err-check_offsets_bounds g c =
    let p = err_from_is_err_and c.from_residual.result c.from_residual.ensures.1 in
    rw (p.1, p.2) (text_bounds _ _ _ c.in_err-check_offsets_bounds.ensures)
