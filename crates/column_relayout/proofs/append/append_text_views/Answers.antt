-- Texts after texts are texts; only the number of buffers refuses rows that views can tell.
use Rattle.std.proofs.Common.{◌≡◌, ◌∙◌, sym, ap, inl, refl, true, false, Err}
use Rattle.std.specs.List.{list_all}
use Rattle.std.proofs.lemmas.Result.{err_from_is_err_and}
use Rattle.column_offset.specs.Text.{are_well_formed_utf8}
use Rattle.column_binview.specs.Slots.{view_slots}
use Rattle.column_rows.specs.Rows.{given_rows, is_of_view}
use Rattle.column_relayout.specs.Columns.{view_column}
use Rattle.column_relayout.specs.declared.steps.Step.TheVariants.{Append}
use Rattle.column_relayout.proofs.StepsLemmas.{refused_never}
use Rattle.column_relayout.proofs.AppendLemmas.{text_rows_fault, other_rows_fault, viewed, not_viewed, view_rows_steps, view_rows_refused, contents_fine, texts_after}
use Rattle.column_relayout.proofs.append.append_text_views.Goals as goal

pub returns-then-not-are_texts : goal.returns-then-not-are_texts
returns-then-not-are_texts c =
    let no : are_well_formed_utf8 (given_rows c.args.rows.now) ≡ false = sym c.are_texts.ensures ∙ c.if-not-are_texts.true in
    rw c.into.ensures (inl (other_rows_fault (view_slots c.args.array) c.args.rows.now no), refl)

pub returns-then-not-are_of_view : goal.returns-then-not-are_of_view
returns-then-not-are_of_view c =
    let texts : are_well_formed_utf8 (given_rows c.args.rows.now) ≡ true = sym c.are_texts.ensures ∙ c.if-not-are_texts.false in
    let no : list_all is_of_view c.args.rows.now ≡ false = sym c.are_of_view.ensures ∙ c.if-not-are_of_view.true in
    rw c.into-then-not-are_of_view.ensures (inl (text_rows_fault (view_slots c.args.array) c.args.rows.now texts ∙ not_viewed c.args.rows.now no), refl)

pub returns-in_err-bytes : goal.returns-in_err-bytes
returns-in_err-bytes c =
    let texts : are_well_formed_utf8 (given_rows c.args.rows.now) ≡ true = sym c.are_texts.ensures ∙ c.if-not-are_texts.false in
    let all : list_all is_of_view c.args.rows.now ≡ true = sym c.are_of_view.ensures ∙ c.if-not-are_of_view.false in
    let none = text_rows_fault (view_slots c.args.array) c.args.rows.now texts ∙ viewed c.args.rows.now all in
    let is = err_from_is_err_and c.from_residual.result c.from_residual.ensures.1 in
    rw (is.1 ∙ ap Err is.2) (view_rows_refused (λ new. view_column true new) true c.args.array c.args.rows.now c.in_err-bytes.field-0.0 _ none c.known.ensures.sound.few (rw c.into_binview.ensures at c.in_err-bytes.ensures))

pub to_utf8view_unchecked-requires : goal.to_utf8view_unchecked-requires
to_utf8view_unchecked-requires c =
    let texts : are_well_formed_utf8 (given_rows c.args.rows.now) ≡ true = sym c.are_texts.ensures ∙ c.if-not-are_texts.false in
    let told = rw c.into_binview.ensures at c.in_ok-bytes.ensures in
    contents_fine c.in_ok-bytes.bytes c.known-2.ensures.sound.flagged (texts_after c.args.array c.in_ok-bytes.bytes c.args.rows.now told.0 (c.known.ensures.texts refl) texts)

pub returns-in_err-texts : goal.returns-in_err-texts
returns-in_err-texts c =
    let texts : are_well_formed_utf8 (given_rows c.args.rows.now) ≡ true = sym c.are_texts.ensures ∙ c.if-not-are_texts.false in
    let all : list_all is_of_view c.args.rows.now ≡ true = sym c.are_of_view.ensures ∙ c.if-not-are_of_view.false in
    let none = text_rows_fault (view_slots c.args.array) c.args.rows.now texts ∙ viewed c.args.rows.now all in
    let is = err_from_is_err_and c.from_residual-in_err-texts.result c.from_residual-in_err-texts.ensures.1 in
    rw (is.1 ∙ ap Err is.2) (refused_never (λ new. view_column true new) (view_column true c.args.array) (Append c.args.rows.now) _ c.in_err-texts.field-0.0 c.in_err-texts.ensures none)

pub returns : goal.returns
returns c =
    let texts : are_well_formed_utf8 (given_rows c.args.rows.now) ≡ true = sym c.are_texts.ensures ∙ c.if-not-are_texts.false in
    let all : list_all is_of_view c.args.rows.now ≡ true = sym c.are_of_view.ensures ∙ c.if-not-are_of_view.false in
    let told = rw c.into_binview.ensures at c.in_ok-bytes.ensures in
    let steps = view_rows_steps true c.args.array c.in_ok-texts.texts c.args.rows.now (rw c.in_ok-texts.ensures.1 told.0) (rw c.in_ok-texts.ensures.1 told.1) c.known-3.ensures in
    (text_rows_fault (view_slots c.args.array) c.args.rows.now texts ∙ viewed c.args.rows.now all, steps)
