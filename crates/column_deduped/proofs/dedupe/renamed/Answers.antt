use Rattle.std.proofs.Common.{◌≡◌, ◌∙◌, ap, length, Err, refl}
use Rattle.std.proofs.lemmas.Result.{err_from_is_err_and}
use Rattle.column_blocks.specs.Sources.{view_take_fault}
use Rattle.column_binview.specs.Builders.{ViewBuilder, with_source, pushed_source_view}
use Rattle.column_deduped.proofs.TakenLemmas as lemmas
use Rattle.column_deduped.proofs.dedupe.renamed.Goals as goal

pub loop-view-init : goal.loop-view-init
loop-view-init g c =
    let added = c.in_ok-source.ensures.answer.1 in
    lemmas.taking-init c.args.views.now c.args.buffers c.in_ok-source.source c.add_source.new.self c.known.ensures
    (added.0 ∙ ap (λ (b : ViewBuilder). length b.bytes.taken.sources) c.in_ok-builder.ensures.1)
    (added.1 ∙ ap (λ (b : ViewBuilder). with_source b c.args.buffers) c.in_ok-builder.ensures.1)

pub push_view_unchecked_dedupe-requires-clause-source : goal.push_view_unchecked_dedupe-requires-clause-source
push_view_unchecked_dedupe-requires-clause-source g c =
    lemmas.taking-registered c.args.views.now c.args.buffers c.loop-view.builder c.loop-view.view-index c.in_ok-source.source c.loop-view.invariant

pub push_view_unchecked_dedupe-requires-clause-fine : goal.push_view_unchecked_dedupe-requires-clause-fine
push_view_unchecked_dedupe-requires-clause-fine g c =
    lemmas.taking-fine c.args.views.now c.args.buffers c.loop-view.builder c.loop-view.view-index c.in_ok-source.source c.loop-view.invariant
    g.K.ViewKind.IS_UTF8 c.requires c.view-item.result c.view-item.is c.loop-view-test.true

pub push_view_unchecked_dedupe-requires-clause-no_flags : goal.push_view_unchecked_dedupe-requires-clause-no_flags
push_view_unchecked_dedupe-requires-clause-no_flags g c =
    lemmas.taking-unflagged c.args.views.now c.args.buffers c.loop-view.builder c.loop-view.view-index c.in_ok-source.source c.loop-view.invariant

pub returns-in_err-push_view_unchecked_dedupe : goal.returns-in_err-push_view_unchecked_dedupe
returns-in_err-push_view_unchecked_dedupe g c =
    let is = err_from_is_err_and c.from_residual-in_err-push_view_unchecked_dedupe.result c.from_residual-in_err-push_view_unchecked_dedupe.ensures.1 in
    let free = lemmas.taking-free c.args.views.now c.args.buffers c.loop-view.builder c.loop-view.view-index c.in_ok-source.source c.loop-view.invariant
    g.K.ViewKind.IS_UTF8 c.requires c.view-item.result c.view-item.is c.loop-view-test.true in
    let pushed : Unit {0} → Type 0 = λ done. c.push_view_unchecked_dedupe.new.self ≡ pushed_source_view c.loop-view.builder c.view-item.result c.in_ok-source.source in
    rw (is.1 ∙ ap Err is.2) (lemmas.memory-alone pushed _ c.in_err-push_view_unchecked_dedupe.field-0.0 (view_take_fault c.loop-view.builder.bytes c.view-item.result c.in_ok-source.source) free c.in_err-push_view_unchecked_dedupe.ensures.answer)

pub loop-view-preserved : goal.loop-view-preserved
loop-view-preserved g c =
    lemmas.taking-more c.args.views.now c.args.buffers c.loop-view.builder c.loop-view.view-index c.in_ok-source.source c.loop-view.invariant
    g.K.ViewKind.IS_UTF8 c.requires c.view-item.result c.view-item.is c.loop-view-test.true
    c.push_view_unchecked_dedupe.new.self c.in_ok-push_view_unchecked_dedupe.ensures.answer.1

pub returns : goal.returns
returns g c = (refl, lemmas.taking-done c.args.views.now c.args.buffers c.loop-view.builder c.loop-view.view-index c.in_ok-source.source c.loop-view.invariant c.loop-view-test.false)
