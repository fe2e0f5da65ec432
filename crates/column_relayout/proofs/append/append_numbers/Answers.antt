-- Numbers have 8 bytes.
use Rattle.std.proofs.Common.{◌≡◌, ◌∙◌, sym, ap, inl, refl, true, false, Err}
use Rattle.std.specs.Int.{w64}
use Rattle.std.specs.List.{list_all}
use Rattle.std.proofs.lemmas.Result.{err_from_is_err_and}
use Rattle.column_base.specs.Native.{signed_bytes}
use Rattle.column_fixed.specs.Rows.{is_of_width}
use Rattle.column_primitive.specs.Numbers.{number_slots}
use Rattle.column_relayout.specs.declared.steps.Step.TheVariants.{Append}
use Rattle.column_relayout.specs.Columns.{number_column}
use Rattle.column_relayout.proofs.StepsLemmas.{refused_never}
use Rattle.column_relayout.proofs.AppendLemmas.{number_rows_fault, number_rows_wrong, number_rows_steps}
use Rattle.column_relayout.proofs.append.append_numbers.Goals as goal

pub returns-then-not-are_of_width : goal.returns-then-not-are_of_width
returns-then-not-are_of_width c =
    let no : list_all (is_of_width 8) c.args.rows.now ≡ false = sym c.are_of_width.ensures ∙ c.if-not-are_of_width.true in
    rw c.into.ensures (inl (number_rows_wrong (number_slots (signed_bytes w64) c.args.array.lists) c.args.rows.now no), refl)

pub returns-in_err-new : goal.returns-in_err-new
returns-in_err-new c =
    let all : list_all (is_of_width 8) c.args.rows.now ≡ true = sym c.are_of_width.ensures ∙ c.if-not-are_of_width.false in
    let is = err_from_is_err_and c.from_residual.result c.from_residual.ensures.1 in
    rw (is.1 ∙ ap Err is.2) (refused_never (λ new. number_column new) (number_column c.args.array) (Append c.args.rows.now) _ c.in_err-new.field-0.0 c.in_err-new.ensures (number_rows_fault (number_slots (signed_bytes w64) c.args.array.lists) c.args.rows.now all))

pub returns : goal.returns
returns c =
    let all : list_all (is_of_width 8) c.args.rows.now ≡ true = sym c.are_of_width.ensures ∙ c.if-not-are_of_width.false in (
      number_rows_fault (number_slots (signed_bytes w64) c.args.array.lists) c.args.rows.now all,
      number_rows_steps c.args.array c.in_ok-new.new c.args.rows.now c.in_ok-new.ensures.1.1 c.known.ensures,
    )
