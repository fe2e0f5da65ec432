-- The fault is that of the slots together; texts that are written are texts.
use Rattle.std.proofs.Common.{◌∙◌, sym, ap, refl, true, Err}
use Rattle.std.proofs.lemmas.Result.{err_from_is_err_and}
use Rattle.column_binary.specs.Slots.{offset_slots}
use Rattle.column_relayout.specs.Written.{written_slots}
use Rattle.column_relayout.specs.declared.steps.Step.TheVariants.{Rebuild}
use Rattle.column_relayout.specs.Columns.{offset_column}
use Rattle.column_relayout.proofs.StepsLemmas.{rebuild_fault, rebuild_steps, refused_first}
use Rattle.column_relayout.proofs.WrittenLemmas.{parts_are, texts_sound, written_texts}
use Rattle.column_relayout.proofs.rebuild.texts_to_texts.Goals as goal

pub returns-in_err-rewritten : goal.returns-in_err-rewritten
returns-in_err-rewritten g c =
    let is = err_from_is_err_and c.from_residual.result c.from_residual.ensures.1 in
    let fault = rebuild_fault g.O.Offset.IS_LARGE true g.P.Offset.IS_LARGE true (offset_slots c.args.array) c.args._kind g.P.Offset.GREATEST c.requires g.met.P.Offset.greatest refl in
    rw (is.1 ∙ ap Err is.2) (refused_first (λ new. offset_column g.P.Offset.IS_LARGE true new) (offset_column g.O.Offset.IS_LARGE true c.args.array) (Rebuild c.args._kind) _ _ c.in_err-rewritten.field-0.0 (rw c.into_binary.ensures.same at c.in_err-rewritten.ensures) (sym fault))

pub new_unchecked-texts-requires-clause-sound : goal.new_unchecked-texts-requires-clause-sound
new_unchecked-texts-requires-clause-sound g c =
    let told = rw c.into_binary.ensures.same at c.in_ok-rewritten.ensures in
    let inner = c.into_inner-offsets.ensures in
    texts_sound c.in_ok-rewritten.field-0 _ (written_slots (offset_slots c.args.array)) (parts_are c.in_ok-rewritten.field-0 _ _ _ inner.offsets inner.values inner.flags) inner.sound told.1 (written_texts (offset_slots c.args.array) c.known.ensures.sound.texts)

pub returns : goal.returns
returns g c =
    let fault = rebuild_fault g.O.Offset.IS_LARGE true g.P.Offset.IS_LARGE true (offset_slots c.args.array) c.args._kind g.P.Offset.GREATEST c.requires g.met.P.Offset.greatest refl in
    let told = rw c.into_binary.ensures.same at c.in_ok-rewritten.ensures in
    let inner = c.into_inner-offsets.ensures in
    let is = c.new_unchecked-texts.ensures ∙ parts_are c.in_ok-rewritten.field-0 _ _ _ inner.offsets inner.values inner.flags ∙ told.1 in
    (fault ∙ told.0, rebuild_steps g.O.Offset.IS_LARGE true g.P.Offset.IS_LARGE true c.args.array c.new_unchecked-texts.result c.args._kind c.requires is c.known-2.ensures)
