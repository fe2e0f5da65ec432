use Rattle.std.proofs.Common.{◌≡◌, ◌++◌, take, codes}
use Rattle.std.specs.List.{flat_map}
use Rattle.column_tool.specs.Text.{named_line}
use Rattle.column_tool.proofs.text.append_views.Given as goal

abbrev pub invariant-loop-view : goal.invariant-loop-view
invariant-loop-view l = l.text.items ≡ l.fn.text.items ++ flat_map (named_line (codes "view=")) (take l.view-index l.views)
