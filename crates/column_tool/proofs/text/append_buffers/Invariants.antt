use Rattle.std.proofs.Common.{◌≡◌, ◌++◌, take, codes}
use Rattle.std.specs.List.{flat_map}
use Rattle.column_tool.specs.Text.{named_line}
use Rattle.column_tool.proofs.text.append_buffers.Given as goal

abbrev pub invariant-loop-i : goal.invariant-loop-i
invariant-loop-i l = l.text.items ≡ l.fn.text.items ++ flat_map (named_line (codes "buffer=")) (take l.i l.buffers)
