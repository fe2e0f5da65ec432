use Rattle.std.proofs.Common.{◌≡◌, [], fold, take}
use Rattle.column_storage.specs.Operations.{bits_after}
use Rattle.column_storage.proofs.mutable_bitmap.MutableBitmap.replay.Given as goal

abbrev pub invariant-loop-operation : goal.invariant-loop-operation
invariant-loop-operation l = l.builder.bits ≡ fold bits_after [] (take l.operation-index l.operations)
