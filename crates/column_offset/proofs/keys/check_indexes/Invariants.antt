use Rattle.std.proofs.Common.{◌≡◌, map, drop}
use Rattle.column_offset.specs.Keys.{keys_fault}
use Rattle.column_offset.proofs.keys.check_indexes.Given as goal

abbrev pub invariant-loop-key : goal.invariant-loop-key
invariant-loop-key g l =
    keys_fault (map g.K.IndexKey.int (drop l.key-index l.keys)) l.len ≡ keys_fault (map g.K.IndexKey.int l.keys) l.len
