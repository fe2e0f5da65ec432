use Rattle.std.proofs.Common.{◌≡◌, ℕ, ◌-◌, ◌/◌, ◌++◌, length, take, drop, refl, ap, ◌∙◌, rules}
use Rattle.std.specs.Vec.{vec_len, vec_capacity}
use Rattle.column_storage.specs.Bits.{bits_given, spare_beside}
use Rattle.column_fixed.specs.Slots.{FixedLists, fixed_lists}
use Rattle.column_fixed.specs.Rows.{GrowingFixed, with_values}
use Rattle.column_fixed.proofs.builder.MutableFixedSizeBinaryArray.values_mut_slice.Goals as goal

abbrev growing : FixedLists → ℕ → GrowingFixed
growing lists spare = record { lists = lists; spare = spare }

pub returns : goal.returns
returns c =
    let b = c.self.inside in
    let spare = spare_beside b.validity ((vec_capacity b.values - vec_len b.values) / b.size) in (
      (
        refl,
        λ w.
            ap (λ (n : ℕ). growing (fixed_lists b.size (take n (w ++ drop (length w) b.values.items)) (bits_given b.validity)) spare) b.values.ok.0
            ∙ ap (λ f. with_values f w) c.self.view_is,
      ),
      record { writes_back = tt; value = search rules },
    )
