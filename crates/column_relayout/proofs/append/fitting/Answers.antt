-- No row is refused, since all fit together.
use Rattle.std.proofs.Common.{◌≡◌, ◌∙◌, map, ap, refl, Err, None}
use Rattle.std.proofs.lemmas.Result.{err_from_is_err_and}
use Rattle.column_base.specs.Pushes.{growth_fault, grown}
use Rattle.column_base.proofs.AnswersLemmas.{answers_err}
use Rattle.column_base.proofs.PushesLemmas.{answers_weaker}
use Rattle.column_binary.specs.Slots.{offset_slots}
use Rattle.column_binary.specs.Rows.{row_growth}
use Rattle.column_primitive.proofs.RowsLemmas.{map_same}
use Rattle.column_relayout.proofs.WrittenLemmas.{rows_fit, hold_rows, hold_written}
use Rattle.column_relayout.proofs.append.fitting.Goals as goal

pub returns-in_err-push_rows : goal.returns-in_err-push_rows
returns-in_err-push_rows g c =
    let greatest = g.O.Offset.GREATEST in
    let old = c.in_ok-builder.builder.lists in
    let rows = c.args.rows.now in
    let is = err_from_is_err_and c.from_residual-in_err-push_rows.result c.from_residual-in_err-push_rows.ensures.1 in
    let none : growth_fault (row_growth greatest) old (map (λ row. row) rows) ≡ None =
    ap (growth_fault (row_growth greatest) old) (map_same rows) ∙ rows_fit greatest old (offset_slots c.args.array) rows c.in_ok-builder.ensures.1 c.requires in
    rw (is.1 ∙ ap Err is.2) (answers_err _ None _ _ c.in_err-push_rows.field-0.0 c.in_err-push_rows.ensures (λ cause fault. absurd (let n = none in cc)))

pub returns : goal.returns
returns g c =
    let greatest = g.O.Offset.GREATEST in
    let old = c.in_ok-builder.builder.lists in
    let new = c.push_rows.new.builder.lists in
    let rows = c.args.rows.now in
    let held = hold_rows greatest old new (offset_slots c.args.array) rows c.in_ok-builder.ensures.1 (c.in_ok-push_rows.ensures.1 ∙ ap (grown (row_growth greatest) old) (map_same rows)) in
    answers_weaker c.freeze.result None None _ _ refl (λ array frozen. frozen ∙ hold_written new _ held) c.freeze.ensures
