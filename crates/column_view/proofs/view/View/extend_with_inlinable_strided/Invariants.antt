use Rattle.std.proofs.Common.{◌≡◌, ◌++◌, map, replicate}
use Rattle.column_view.specs.Views.{inline_view}
use Rattle.column_view.specs.Cuts.{cut_by}
use Rattle.column_view.proofs.view.View.extend_with_inlinable_strided.Given as goal

abbrev pub invariant-loop-i : goal.invariant-loop-i
invariant-loop-i l = l.views.items ≡ l.fn.views.items ++ map inline_view (cut_by l.src (replicate l.i l.width))
