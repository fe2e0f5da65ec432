use Rattle.std.proofs.Common.{map}
use Rattle.std.specs.Prelude.{option_map}
use Rattle.column_base.proofs.PushesLemmas.{Stands}
use Rattle.column_binview.specs.Builders.{row_growth}
use Rattle.column_binview.proofs.constructors.push_each_row.Given as goal

abbrev pub invariant-loop-row : goal.invariant-loop-row
invariant-loop-row g l = Stands row_growth l.fn.builder l.builder (map (option_map g.K.ViewType.item_bytes) l.yielded)
