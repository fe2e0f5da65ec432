-- The fault is that of the slots together.
use Rattle.std.proofs.Common.{◌∙◌, sym, ap, refl, false, true, Err}
use Rattle.std.proofs.lemmas.Result.{err_from_is_err_and}
use Rattle.column_binary.specs.Slots.{offset_slots}
use Rattle.column_relayout.specs.declared.steps.Step.TheVariants.{Rebuild}
use Rattle.column_relayout.specs.Columns.{offset_column}
use Rattle.column_relayout.proofs.StepsLemmas.{rebuild_fault, rebuild_steps, refused_first}
use Rattle.column_relayout.proofs.rebuild.texts_to_bytes.Goals as goal

pub returns-in_err-new : goal.returns-in_err-new
returns-in_err-new g c =
    let is = err_from_is_err_and c.from_residual.result c.from_residual.ensures.1 in
    let fault = rebuild_fault g.O.Offset.IS_LARGE true g.P.Offset.IS_LARGE false (offset_slots c.args.array) c.args._kind g.P.Offset.GREATEST c.requires g.met.P.Offset.greatest refl in
    rw (is.1 ∙ ap Err is.2) (refused_first (λ new. offset_column g.P.Offset.IS_LARGE false new) (offset_column g.O.Offset.IS_LARGE true c.args.array) (Rebuild c.args._kind) _ _ c.in_err-new.field-0.0 (rw c.into_binary.ensures.same at c.in_err-new.ensures) (sym fault))

pub returns : goal.returns
returns g c =
    let fault = rebuild_fault g.O.Offset.IS_LARGE true g.P.Offset.IS_LARGE false (offset_slots c.args.array) c.args._kind g.P.Offset.GREATEST c.requires g.met.P.Offset.greatest refl in
    let told = rw c.into_binary.ensures.same at c.in_ok-new.ensures in
    (fault ∙ told.0, rebuild_steps g.O.Offset.IS_LARGE true g.P.Offset.IS_LARGE false c.args.array c.in_ok-new.new c.args._kind c.requires told.1 c.known.ensures)
