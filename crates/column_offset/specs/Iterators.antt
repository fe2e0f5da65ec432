-- What iterators have left: this library's own. Each word is a list, first to last.
use Rattle.std.specs.Prelude.{ℕ, List, map}
use Rattle.std.specs.declared.cmp.Ord.{Ghosts as Ord}
use Rattle.std.specs.declared.cmp.PartialEq.{Ghosts as PartialEq}
use Rattle.std.specs.declared.cmp.PartialOrd.{Ghosts as PartialOrd}
use Rattle.column_base.specs.declared.native.NativeType.{Ghosts as NativeType}
use Rattle.column_base.specs.declared.offset.Offset.{Ghosts as Offset}
use Rattle.column_offset.specs.Growth.{lengths_of, starts_and_lengths_of}
use Rattle.column_offset.specs.Leaves.{leaf_ranges}
use Rattle.column_offset.specs.declared.iterator.Lengths.{Lengths}
use Rattle.column_offset.specs.declared.iterator.OffsetAndLengthIter.{OffsetAndLengthIter}
use Rattle.column_offset.specs.declared.leaf.LeafRanges.{LeafRanges}

-- the iterators over offsets of one type
module _ {O : Type 0} {offset : Offset O} {native : NativeType O} {eq : PartialEq O} {ord : Ord O} {partial_ord : PartialOrd O} where
  -- the lengths of the slots that were not given yet
  abbrev pub lengths_left : Lengths O offset native eq ord partial_ord → List ℕ
  lengths_left iter = lengths_of (map offset.int iter.offsets.now)

  -- where each slot that was not given yet starts, and its length
  abbrev pub pairs_left : OffsetAndLengthIter O offset native eq ord partial_ord → List (ℕ × ℕ)
  pairs_left iter = starts_and_lengths_of (map offset.int iter.offsets.now)

  -- the range of values of each slot that was not given yet
  abbrev pub ranges_left : LeafRanges O offset native eq ord partial_ord → List (ℕ × ℕ)
  ranges_left iter = leaf_ranges (map offset.int iter.offsets.now) iter.levels.now
