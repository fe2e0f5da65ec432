-- What iterators have left: this library's own.
use Rattle.std.specs.Prelude.{ℕ, List, map}
use Rattle.column_view.specs.Views.{view_length}
use Rattle.column_binview.specs.declared.len_iter.LenIter.{LenIter}

-- the lengths of views that were not given yet
abbrev pub lengths_left : LenIter → List ℕ
lengths_left iter = map view_length iter.views.now
