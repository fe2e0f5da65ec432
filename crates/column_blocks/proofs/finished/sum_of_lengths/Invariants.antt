use Rattle.std.proofs.Common.{◌≡◌, ◌≤◌, ◌*◌, ◌^◌, length, take, sum_by}
use Rattle.column_blocks.proofs.finished.sum_of_lengths.Given as goal

-- each buffer has fewer than 2 ^ 64 bytes
abbrev pub invariant-loop-buffer : goal.invariant-loop-buffer
invariant-loop-buffer l = record {
  so_far : l.total ≡ sum_by length (take l.buffer-index l.buffers);
  bound : l.total ≤ l.buffer-index * 2 ^ 64;
}
