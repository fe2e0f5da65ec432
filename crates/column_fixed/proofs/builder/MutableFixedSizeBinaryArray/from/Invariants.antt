use Rattle.std.proofs.Common.{◌≡◌, take}
use Rattle.column_base.specs.Pushes.{grown}
use Rattle.column_fixed.specs.Rows.{no_slots, row_growth}
use Rattle.column_fixed.proofs.builder.MutableFixedSizeBinaryArray.from.Given as goal

abbrev pub invariant-loop-row : goal.invariant-loop-row
invariant-loop-row g l = l.builder.lists ≡ grown row_growth (no_slots g.row.N) (take l.row-index l.slice)
