-- The bytes of each number so far.
use Rattle.std.proofs.Common.{◌≡◌, map, take}
use Rattle.std.specs.Int.{w64}
use Rattle.std.specs.List.{concat}
use Rattle.column_base.specs.Native.{signed_bytes}
use Rattle.column_rows.proofs.numbers.bytes_of_each.Given as goal

abbrev pub invariant-loop-number : goal.invariant-loop-number
invariant-loop-number l = l.bytes.items ≡ concat (map (signed_bytes w64) (take l.number-index l.numbers))
