use Rattle.std.proofs.Common.{◌≡◌, ◌+◌, ◌≤◌, ◌++◌, replicate}
use Rattle.column_blocks.proofs.views.CountedViews.extend_constant.Given as goal

abbrev pub invariant-loop-i : goal.invariant-loop-i
invariant-loop-i l = record {
  views : l.self.views ≡ l.fn.self.views ++ replicate l._i l.view;
  spare : l.additional ≤ l.self.spare + l._i;
}
