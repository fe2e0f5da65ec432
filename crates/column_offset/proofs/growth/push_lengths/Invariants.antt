use Rattle.std.proofs.Common.{◌≡◌, ◌≤◌, map, pos}
use Rattle.std.specs.Prelude.{◌+ℤ◌, sum}
use Rattle.std.specs.Vec.{vec_capacity}
use Rattle.column_offset.specs.Offsets.{AreOffsetsWithin, last_of}
use Rattle.column_offset.specs.Growth.{extended}
use Rattle.column_offset.proofs.growth.push_lengths.Given as goal

abbrev pub invariant-loop-length : goal.invariant-loop-length
invariant-loop-length g l = record {
  added : map g.O.Offset.int l.offsets.items ≡ extended (map g.O.Offset.int l.fn.offsets.items) l.yielded;
  within : AreOffsetsWithin g.O.Offset.GREATEST (map g.O.Offset.int l.offsets.items);
  last : pos l.last ≡ last_of (map g.O.Offset.int l.fn.offsets.items) +ℤ pos (sum l.yielded);
  capacity : vec_capacity l.fn.offsets ≤ vec_capacity l.offsets;
  limit : l.last ≤ g.O.Offset.GREATEST;
}
