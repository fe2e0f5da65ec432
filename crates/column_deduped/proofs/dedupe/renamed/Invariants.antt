use Rattle.column_deduped.proofs.TakenLemmas.{IsTaking}
use Rattle.column_deduped.proofs.dedupe.renamed.Given as goal

abbrev pub invariant-loop-view : goal.invariant-loop-view
invariant-loop-view g l = IsTaking l.views l.fn.buffers l.view-index l.source l.builder
