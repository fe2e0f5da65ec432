-- No row is refused, since all fit together.
use Rattle.std.proofs.Common.{◌≡◌, ◌∙◌, [], map, ap, refl, arith, Err, None}
use Rattle.std.proofs.lemmas.Result.{err_from_is_err_and}
use Rattle.column_base.specs.Pushes.{growth_fault, grown}
use Rattle.column_base.proofs.AnswersLemmas.{answers_err}
use Rattle.column_binary.specs.Rows.{row_growth}
use Rattle.column_primitive.proofs.RowsLemmas.{map_same}
use Rattle.column_relayout.specs.Written.{HoldSlots}
use Rattle.column_relayout.proofs.WrittenLemmas.{bytes_in-given, hold_none, hold_rows, rows_fit}
use Rattle.column_relayout.proofs.write_rows.rows_builder.Goals as goal

pub returns-in_err-push_rows : goal.returns-in_err-push_rows
returns-in_err-push_rows g c =
    let greatest = g.P.Offset.GREATEST in
    let rows = g.R.RowList.rows c.args.rows.now in
    let is = err_from_is_err_and c.from_residual-in_err-push_rows.result c.from_residual-in_err-push_rows.ensures.1 in
    let given = bytes_in-given rows in
    let hold : HoldSlots c.in_ok-builder.builder.lists [] = rw c.in_ok-builder.ensures.1.0 hold_none in
    let none : growth_fault (row_growth greatest) c.in_ok-builder.builder.lists (map (λ row. row) rows) ≡ None =
    ap (growth_fault (row_growth greatest) c.in_ok-builder.builder.lists) (map_same rows) ∙ rows_fit greatest c.in_ok-builder.builder.lists [] rows hold (omega (arith, given, c.requires)) in
    rw (is.1 ∙ ap Err is.2) (answers_err _ None _ _ c.in_err-push_rows.field-0.0 c.in_err-push_rows.ensures (λ cause fault. absurd (let n = none in cc)))

pub returns : goal.returns
returns g c =
    let greatest = g.P.Offset.GREATEST in
    let rows = g.R.RowList.rows c.args.rows.now in
    let hold : HoldSlots c.in_ok-builder.builder.lists [] = rw c.in_ok-builder.ensures.1.0 hold_none in
    (refl, hold_rows greatest c.in_ok-builder.builder.lists c.push_rows.new.builder.lists [] rows hold (c.in_ok-push_rows.ensures.1 ∙ ap (grown (row_growth greatest) c.in_ok-builder.builder.lists) (map_same rows)))
