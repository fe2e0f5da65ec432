use Rattle.std.proofs.Common.{◌≡◌, ℕ, ◌<◌, ◌≤◌, ◌*◌, ◌^◌, List, take, sum_by}
use Rattle.std.specs.Prelude.{slice_index_or}
use Rattle.column_view.specs.Views.{view_length}
use Rattle.column_view.proofs.lengths.sum_of_lengths.Given as goal

-- each length is below 2 ^ 32
abbrev pub invariant-loop-view : goal.invariant-loop-view
invariant-loop-view l = record {
  so_far : l.total ≡ sum_by view_length (take l.view-index l.views);
  bound : l.total ≤ l.view-index * 2 ^ 32;
  bounded : (k : ℕ) (d : List ℕ) → k < l.view-index → view_length (slice_index_or l.views k d) ≤ 2 ^ 32;
}
