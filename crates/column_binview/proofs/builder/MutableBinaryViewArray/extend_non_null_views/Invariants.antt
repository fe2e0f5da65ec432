use Rattle.std.proofs.Common.{◌≡◌, map}
use Rattle.column_base.proofs.PushesLemmas.{Stands}
use Rattle.column_binview.specs.SourceViews.{view_growth}
use Rattle.column_binview.proofs.builder.MutableBinaryViewArray.extend_non_null_views.Given as goal

abbrev pub invariant-loop-view : goal.invariant-loop-view
invariant-loop-view g l = record {
  stands : Stands (view_growth l.source) l.fn.self l.self (map (λ view. view) l.yielded);
  same : l.self.bytes.taken.sources ≡ l.fn.self.bytes.taken.sources;
}
