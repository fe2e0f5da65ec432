use Rattle.std.proofs.Common.{◌≡◌, length, map, take, pos}
use Rattle.column_binview.proofs.array.BinaryViewArrayGeneric.variadic_buffer_lengths.Given as goal

abbrev pub invariant-loop-i : goal.invariant-loop-i
invariant-loop-i g l = l.lengths.items ≡ map (λ buffer. pos (length buffer)) (take l.i l.buffers)
