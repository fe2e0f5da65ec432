-- The fault is that of the rows, or of the slots together; texts after texts are texts.
use Rattle.std.proofs.Common.{◌≡◌, ◌∙◌, ◌++◌, map, sym, ap, inl, refl, true, false, Err}
use Rattle.std.proofs.lemmas.Result.{err_from_is_err_and}
use Rattle.column_offset.specs.Text.{are_well_formed_utf8}
use Rattle.column_binary.specs.Slots.{offset_slots}
use Rattle.column_binary.specs.Rows.{slot_of}
use Rattle.column_rows.specs.Rows.{given_rows}
use Rattle.column_relayout.specs.declared.steps.Step.TheVariants.{Append}
use Rattle.column_relayout.specs.Columns.{offset_column}
use Rattle.column_relayout.proofs.StepsLemmas.{append_no_texts, append_texts_fault, append_steps, refused_first}
use Rattle.column_relayout.proofs.WrittenLemmas.{parts_are, texts_sound, row_texts}
use Rattle.column_relayout.proofs.append.append_texts.Goals as goal

pub returns-then-not-are_texts : goal.returns-then-not-are_texts
returns-then-not-are_texts g c =
    let no : are_well_formed_utf8 (given_rows c.args.rows.now) ≡ false = sym c.are_texts.ensures ∙ c.if-not-are_texts.true in
    rw c.into.ensures (inl (append_no_texts g.O.Offset.IS_LARGE (offset_slots c.args.array) c.args.rows.now no), refl)

pub returns-in_err-appended : goal.returns-in_err-appended
returns-in_err-appended g c =
    let texts : are_well_formed_utf8 (given_rows c.args.rows.now) ≡ true = sym c.are_texts.ensures ∙ c.if-not-are_texts.false in
    let is = err_from_is_err_and c.from_residual.result c.from_residual.ensures.1 in
    let fault = append_texts_fault g.O.Offset.IS_LARGE (offset_slots c.args.array) c.args.rows.now g.O.Offset.GREATEST g.met.O.Offset.greatest texts in
    rw (is.1 ∙ ap Err is.2) (refused_first (λ new. offset_column g.O.Offset.IS_LARGE true new) (offset_column g.O.Offset.IS_LARGE true c.args.array) (Append c.args.rows.now) _ _ c.in_err-appended.field-0.0 (rw c.into_binary.ensures.same at c.in_err-appended.ensures) (sym fault))

pub new_unchecked-texts-requires-clause-sound : goal.new_unchecked-texts-requires-clause-sound
new_unchecked-texts-requires-clause-sound g c =
    let texts : are_well_formed_utf8 (given_rows c.args.rows.now) ≡ true = sym c.are_texts.ensures ∙ c.if-not-are_texts.false in
    let told = rw c.into_binary.ensures.same at c.in_ok-appended.ensures in
    let inner = c.into_inner-offsets.ensures in
    texts_sound c.in_ok-appended.field-0 _ (offset_slots c.args.array ++ map slot_of c.args.rows.now) (parts_are c.in_ok-appended.field-0 _ _ _ inner.offsets inner.values inner.flags) inner.sound told.1
    (row_texts (offset_slots c.args.array) c.args.rows.now c.known.ensures.sound.texts texts)

pub returns : goal.returns
returns g c =
    let texts : are_well_formed_utf8 (given_rows c.args.rows.now) ≡ true = sym c.are_texts.ensures ∙ c.if-not-are_texts.false in
    let fault = append_texts_fault g.O.Offset.IS_LARGE (offset_slots c.args.array) c.args.rows.now g.O.Offset.GREATEST g.met.O.Offset.greatest texts in
    let told = rw c.into_binary.ensures.same at c.in_ok-appended.ensures in
    let inner = c.into_inner-offsets.ensures in
    let is = c.new_unchecked-texts.ensures ∙ parts_are c.in_ok-appended.field-0 _ _ _ inner.offsets inner.values inner.flags ∙ told.1 in
    (fault ∙ told.0, append_steps g.O.Offset.IS_LARGE true c.args.array c.new_unchecked-texts.result c.args.rows.now is c.known-2.ensures)
