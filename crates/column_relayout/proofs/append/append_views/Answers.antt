-- Only the number of buffers refuses rows that views can tell.
use Rattle.std.proofs.Common.{◌≡◌, ◌∙◌, sym, ap, inl, refl, true, false, Err}
use Rattle.std.specs.List.{list_all}
use Rattle.std.proofs.lemmas.Result.{err_from_is_err_and}
use Rattle.column_binview.specs.Slots.{view_slots}
use Rattle.column_rows.specs.Rows.{is_of_view}
use Rattle.column_relayout.specs.Columns.{view_column}
use Rattle.column_relayout.proofs.AppendLemmas.{view_rows_fault, viewed, not_viewed, view_rows_steps, view_rows_refused}
use Rattle.column_relayout.proofs.append.append_views.Goals as goal

pub returns-then-not-are_of_view : goal.returns-then-not-are_of_view
returns-then-not-are_of_view c =
    let no : list_all is_of_view c.args.rows.now ≡ false = sym c.are_of_view.ensures ∙ c.if-not-are_of_view.true in
    rw c.into.ensures (inl (view_rows_fault (view_slots c.args.array) c.args.rows.now ∙ not_viewed c.args.rows.now no), refl)

pub returns-in_err-new : goal.returns-in_err-new
returns-in_err-new c =
    let all : list_all is_of_view c.args.rows.now ≡ true = sym c.are_of_view.ensures ∙ c.if-not-are_of_view.false in
    let is = err_from_is_err_and c.from_residual.result c.from_residual.ensures.1 in
    let none = view_rows_fault (view_slots c.args.array) c.args.rows.now ∙ viewed c.args.rows.now all in
    rw (is.1 ∙ ap Err is.2) (view_rows_refused (λ new. view_column false new) false c.args.array c.args.rows.now c.in_err-new.field-0.0 _ none c.known.ensures.sound.few c.in_err-new.ensures)

pub returns : goal.returns
returns c =
    let all : list_all is_of_view c.args.rows.now ≡ true = sym c.are_of_view.ensures ∙ c.if-not-are_of_view.false in (
      view_rows_fault (view_slots c.args.array) c.args.rows.now ∙ viewed c.args.rows.now all,
      view_rows_steps false c.args.array c.in_ok-new.new c.args.rows.now c.in_ok-new.ensures.0 c.in_ok-new.ensures.1 c.known-2.ensures,
    )
