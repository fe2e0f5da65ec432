use Rattle.std.proofs.Common.{◌≡◌, ◌≤◌, not, take, count_by}
use Rattle.column_storage.proofs.bitmap.count_unset.Given as goal

-- the bits so far, of which each is counted at most once
abbrev pub invariant-loop-bit : goal.invariant-loop-bit
invariant-loop-bit l = record {
  so_far : l.unset ≡ count_by not (take l.bit-index l.bits);
  bound : l.unset ≤ l.bit-index;
}
