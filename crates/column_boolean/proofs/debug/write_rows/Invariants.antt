use Rattle.std.proofs.Common.{take}
use Rattle.std.specs.Fmt.{WritesInCalls}
use Rattle.column_boolean.specs.Rows.{boolean_rows, rows_text}
use Rattle.column_boolean.proofs.debug.write_rows.Given as goal

abbrev pub invariant-loop-i : goal.invariant-loop-i
invariant-loop-i g l = WritesInCalls g.W.Write.write_str_gives l.fn.f (rows_text (take l.i (boolean_rows l.array))) l.f
