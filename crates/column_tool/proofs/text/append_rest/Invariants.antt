use Rattle.std.proofs.Common.{◌≡◌, ◌++◌, take, map}
use Rattle.std.specs.List.{flat_map}
use Rattle.column_tool.specs.Text.{after_comma}
use Rattle.column_tool.proofs.text.append_rest.Given as goal

abbrev pub invariant-loop-number : goal.invariant-loop-number
invariant-loop-number g l = l.text.items ≡ l.fn.text.items ++ flat_map after_comma (map g.O.Offset.int (take l.number-index l.numbers))
