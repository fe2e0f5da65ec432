use Rattle.std.proofs.Common.{◌≡◌, ◌++◌, take}
use Rattle.std.specs.List.{flat_map}
use Rattle.column_tool.specs.Text.{slot_line}
use Rattle.column_tool.proofs.text.append_slots.Given as goal

abbrev pub invariant-loop-i : goal.invariant-loop-i
invariant-loop-i g l = l.text.items ≡ l.fn.text.items ++ flat_map slot_line (take l.i (g.A.Printed.slots l.array))
