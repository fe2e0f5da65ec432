use Rattle.std.proofs.Common.{◌≡◌, ◌∙◌, ap, map, None}
use Rattle.column_base.specs.DataTypes.{default_type}
use Rattle.column_base.specs.Pushes.{grown}
use Rattle.column_base.proofs.PushesLemmas.{answers_weaker, made_by_slice}
use Rattle.column_primitive.specs.Rows.{row_growth, no_numbers}
use Rattle.column_primitive.proofs.RowsLemmas.{never_refused, map_same}
use Rattle.column_primitive.proofs.builder.MutablePrimitiveArray.from.Goals as goal

pub returns : goal.returns
returns g c =
    let growth = row_growth g.T.NativeType.zero_value in
    let empty = no_numbers (default_type g.T.NativeType.PRIMITIVE) in
    answers_weaker c.with_each.result _ None _ _ (never_refused g.T.NativeType.zero_value empty (map (λ x. x) c.args.slice.now)) (λ b is. is ∙ ap (grown growth empty) (map_same c.args.slice.now))
    (made_by_slice growth (λ x. x) c.iter.result c.args.slice.now empty (λ b array. b.array ≡ array) c.with_each.result c.iter.ensures.rest (rw c.in_ok-with_capacity.ensures.1.0 at c.with_each.ensures))
