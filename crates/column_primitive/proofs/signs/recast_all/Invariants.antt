use Rattle.std.proofs.Common.{◌≡◌, take, map}
use Rattle.column_primitive.proofs.signs.recast_all.Given as goal

abbrev pub invariant-loop-value : goal.invariant-loop-value
invariant-loop-value g l =
    (l.recasts.items ≡ map g.T.Recast.recast (take l.value-index l.values))
    × (map g.T.Other.NativeType.le_bytes l.recasts.items ≡ map g.T.NativeType.le_bytes (take l.value-index l.values))
