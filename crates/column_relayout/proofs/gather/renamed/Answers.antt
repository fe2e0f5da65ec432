-- The slots are the same.
use Rattle.std.proofs.Common.{ap, ◌∙◌, Err}
use Rattle.column_deduped.proofs.DedupedLemmas.{slots-deduped}
use Rattle.std.proofs.lemmas.Result.{err_from_is_err_and}
use Rattle.column_relayout.specs.declared.steps.Step.TheVariants.{Dedupe}
use Rattle.column_relayout.specs.Columns.{view_column}
use Rattle.column_relayout.proofs.StepsLemmas.{refused_never}
use Rattle.column_relayout.proofs.GatherLemmas.{dedupe_fine, dedupe_steps}
use Rattle.column_relayout.proofs.gather.renamed.Goals as goal

pub returns-in_err-new : goal.returns-in_err-new
returns-in_err-new g c =
    let is = err_from_is_err_and c.from_residual.result c.from_residual.ensures.1 in
    rw (is.1 ∙ ap Err is.2) (refused_never (λ new. view_column g.K.ViewKind.IS_UTF8 new) (view_column g.K.ViewKind.IS_UTF8 c.args.array) Dedupe _ c.in_err-new.field-0.0 c.in_err-new.ensures (dedupe_fine g.K.ViewKind.IS_UTF8 _))

pub returns : goal.returns
returns g c =
    (dedupe_fine g.K.ViewKind.IS_UTF8 _, dedupe_steps g.K.ViewKind.IS_UTF8 c.args.array c.in_ok-new.new c.in_ok-new.ensures.1 (slots-deduped g.K.ViewKind.IS_UTF8 c.args.array c.known.ensures.sound) c.known-2.ensures)
