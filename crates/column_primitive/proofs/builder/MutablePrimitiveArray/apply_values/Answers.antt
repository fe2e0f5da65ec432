use Rattle.std.proofs.Common.{ℕ, ◌-◌, ◌∙◌, ap, length, take, drop, ◌++◌, refl}
use Rattle.std.specs.Prelude.{vec_capacity, vec_len}
use Rattle.column_storage.specs.Bits.{bits_given, spare_beside}
use Rattle.column_primitive.specs.Numbers.{number_lists, number_array}
use Rattle.column_primitive.specs.Rows.{GrowingNumbers, rewritten}
use Rattle.column_primitive.proofs.builder.MutablePrimitiveArray.apply_values.Goals as goal

pub returns : goal.returns
returns g c =
    let b = c.self.inside in
    let w = c.f.new.arg2 in
    let size : ℕ → GrowingNumbers g.row.T.Denot = λ n. record {
      array = number_array b.dtype (number_lists (take n (w ++ drop (length w) b.values.items)) (bits_given b.validity));
      spare = spare_beside b.validity (vec_capacity b.values - vec_len b.values);
    } in (
      w,
      record { shown = c.as_mut_slice.result; shows = c.as_mut_slice.ensures.value ∙ ap (λ (v : GrowingNumbers g.row.T.Denot). v.array.lists.numbers) c.self.view_is; left = _; met = c.f.ensures; leaves = refl },
      ap size b.values.ok.0 ∙ ap (λ (v : GrowingNumbers g.row.T.Denot). rewritten v w) c.self.view_is,
    )
