-- The bytes of numbers are their rows.
use Rattle.std.proofs.Common.{◌∙◌, ap, sym, false, Err}
use Rattle.std.specs.Int.{w64}
use Rattle.std.proofs.lemmas.Result.{err_from_is_err_and}
use Rattle.column_base.specs.Native.{signed_bytes}
use Rattle.column_base.specs.Slots.{rows_of}
use Rattle.column_primitive.specs.Numbers.{number_slots}
use Rattle.column_relayout.specs.Kinds.{kind_of}
use Rattle.column_relayout.specs.Columns.{number_column}
use Rattle.column_relayout.proofs.RebuildLemmas.{rows_answer, overflows_answer, cause_rows, memory_rows}
use Rattle.column_relayout.proofs.rebuild.rebuild_numbers.Goals as goal

pub returns-in-Some : goal.returns-in-Some
returns-in-Some c =
    let rows = rows_of (number_slots (signed_bytes w64) c.args.array.now.lists) in
    rows_answer (number_column c.args.array.now) c.args.kind (Err c.into.result)
    (cause_rows false rows (kind_of c.args.kind) c.in-Some.cause c.into.result c.into.ensures (sym c.write_cause.ensures ∙ c.in-Some.is))

pub returns-in_err-bytes-in-None : goal.returns-in_err-bytes-in-None
returns-in_err-bytes-in-None c =
    let rows = rows_of (number_slots (signed_bytes w64) c.args.array.now.lists) in
    let is = err_from_is_err_and c.from_residual.result c.from_residual.ensures.1 in
    rw (is.1 ∙ ap Err is.2) (rows_answer (number_column c.args.array.now) c.args.kind (Err c.in_err-bytes-in-None.field-0.0)
    (memory_rows false rows (kind_of c.args.kind) _ c.in_err-bytes-in-None.field-0.0 (sym c.write_cause.ensures ∙ c.in-None.is) c.in_err-bytes-in-None.ensures))

pub returns-in_ok-bytes-in-None : goal.returns-in_ok-bytes-in-None
returns-in_ok-bytes-in-None c =
    let rows = rows_of (number_slots (signed_bytes w64) c.args.array.now.lists) in
    rows_answer (number_column c.args.array.now) c.args.kind c.written.result
    (overflows_answer false rows (kind_of c.args.kind) c.written.result (sym c.write_cause.ensures ∙ c.in-None.is) (rw c.in_ok-bytes-in-None.ensures.1.1 at c.written.ensures))
