use Rattle.std.proofs.Common.{◌≡◌, None}
use Rattle.column_view.specs.ViewFaults.{views_fault}
use Rattle.column_binview.specs.Updates.{AreMadeOf}
use Rattle.column_binview.proofs.array.BinaryViewArrayGeneric.apply_views.Given as goal

abbrev pub invariant-loop-i : goal.invariant-loop-i
invariant-loop-i g l = record {
  made : AreMadeOf (λ view bytes new. (item : _) × (g.K.ViewType.item_bytes item ≡ bytes) × goal.F-post g l.update_view view item new) l.self l.i l.views.items;
  fine : views_fault g.K.ViewKind.IS_UTF8 l.views.items l.self.buffers ≡ None;
}
