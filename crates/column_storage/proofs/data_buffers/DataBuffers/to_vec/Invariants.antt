use Rattle.std.proofs.Common.{◌≡◌, take}
use Rattle.column_storage.proofs.data_buffers.DataBuffers.to_vec.Given as goal

abbrev pub invariant-loop-buffer : goal.invariant-loop-buffer
invariant-loop-buffer l = l.buffers.items ≡ take l.buffer-index l.buffer-items
