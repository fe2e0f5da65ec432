use Rattle.std.proofs.Common.{Some, map}
use Rattle.column_base.proofs.PushesLemmas.{Stands}
use Rattle.column_binview.specs.Builders.{row_growth}
use Rattle.column_binview.proofs.constructors.push_each_value.Given as goal

abbrev pub invariant-loop-value : goal.invariant-loop-value
invariant-loop-value g l = Stands row_growth l.fn.builder l.builder (map (λ value. Some (g.K.ViewType.item_bytes value)) l.yielded)
