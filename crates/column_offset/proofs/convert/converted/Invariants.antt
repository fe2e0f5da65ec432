use Rattle.std.proofs.Common.{◌≡◌, take, map}
use Rattle.column_offset.proofs.convert.converted.Given as goal

abbrev pub invariant-loop-i : goal.invariant-loop-i
invariant-loop-i g l = map g.B.Offset.int l.converted.items ≡ take l.i (map g.A.Offset.int l.offsets)
