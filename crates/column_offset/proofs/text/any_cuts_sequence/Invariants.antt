use Rattle.std.proofs.Common.{◌≡◌, map, drop}
use Rattle.std.specs.List.{list_any}
use Rattle.column_offset.specs.Text.{cuts_sequence}
use Rattle.column_offset.proofs.text.any_cuts_sequence.Given as goal

abbrev pub invariant-loop-offset : goal.invariant-loop-offset
invariant-loop-offset g l =
    list_any (cuts_sequence l.bytes) (map g.O.Offset.int (drop l.offset-index l.offsets))
    ≡ list_any (cuts_sequence l.bytes) (map g.O.Offset.int l.offsets)
