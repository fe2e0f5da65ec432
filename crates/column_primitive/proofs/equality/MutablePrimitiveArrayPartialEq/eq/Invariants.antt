use Rattle.std.proofs.Common.{◌≡◌, drop}
use Rattle.std.specs.Option.{option_eq}
use Rattle.std.specs.Cmp.Lexicographic.{pointwise}
use Rattle.column_primitive.specs.Numbers.{number_rows}
use Rattle.column_primitive.proofs.equality.MutablePrimitiveArrayPartialEq.eq.Given as goal

abbrev pub invariant-loop-i : goal.invariant-loop-i
invariant-loop-i g l =
    pointwise (option_eq g.T.PartialEq.eq) (drop l.i (number_rows l.self.array.lists)) (drop l.i (number_rows l.other.array.lists))
    ≡ pointwise (option_eq g.T.PartialEq.eq) (number_rows l.self.array.lists) (number_rows l.other.array.lists)
