use Rattle.std.proofs.Common.{◌≡◌, map, drop}
use Rattle.std.specs.Prelude.{◌||◌}
use Rattle.column_offset.specs.Offsets.{falls}
use Rattle.column_offset.proofs.checks.any_falls.Given as goal

abbrev pub invariant-loop-offset : goal.invariant-loop-offset
invariant-loop-offset g l =
    (l.any_falls || falls (g.O.Offset.int l.last) (map g.O.Offset.int (drop l.offset-index l.offsets)))
    ≡ falls (g.O.Offset.int l.initial.last) (map g.O.Offset.int l.offsets)
