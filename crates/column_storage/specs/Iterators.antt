-- What iterators have left: this library's own. Each word is a list, first to last.
use Rattle.std.specs.Prelude.{ℕ, ◌-◌, Bool, List, slice_range, drop, Option}
use Rattle.std.specs.Option.{option_copied, option_map}
use Rattle.column_storage.specs.Bits.{flags_of, set_places, at_places, given_bits, optional_values}
use Rattle.column_storage.specs.declared.accessor.Values.{Ghosts as Values}
use Rattle.column_storage.specs.declared.listed.Rest.{Ghosts as Rest}
use Rattle.column_storage.specs.declared.bitmap_iter.BitmapIter.{BitmapIter}
use Rattle.column_storage.specs.declared.true_idx_iter.TrueIdxIter.{TrueIdxIter}
use Rattle.column_storage.specs.declared.values_iter.ArrayValuesIter.{ArrayValuesIter}
use Rattle.column_storage.specs.declared.non_null_values_iter.NonNullValuesIter.{NonNullValuesIter}
use Rattle.column_storage.specs.declared.zip_validity.ZipValidity.{ZipValidity}

-- the bits that were not given yet
abbrev pub bits_left : BitmapIter → List Bool
bits_left iter = iter.bits.now

-- the places of set bits that were not given yet
abbrev pub places_left : TrueIdxIter → List ℕ
places_left iter = set_places iter.index (drop iter.index (flags_of iter.len (option_copied iter.validity)))

-- how many slots were not looked at yet
abbrev pub slots_left : TrueIdxIter → ℕ
slots_left iter = iter.len - iter.index

-- the values of an array that were not given yet
abbrev pub values_left : {A Shown : Type 0} {values : Values A Shown} → ArrayValuesIter A Shown values → List Shown
values_left {values = values} iter = slice_range (values.items iter.array.now) iter.index iter.end

-- the values of valid slots that were not given yet
abbrev pub valid_values_left : {A Shown : Type 0} {values : Values A Shown} → NonNullValuesIter A Shown values → List Shown
valid_values_left {values = values} iter = at_places (values.items iter.accessor.now) (places_left iter.idxs)

-- how many slots were not looked at yet for values
abbrev pub value_slots_left : {A Shown : Type 0} {values : Values A Shown} → NonNullValuesIter A Shown values → ℕ
value_slots_left iter = slots_left iter.idxs

-- the rows that were not given yet: the values that are left, each where its bit is set
abbrev pub rows_left : {T I V Shown : Type 0} {values : Rest I Shown} {bits : Rest V Bool} → ZipValidity T I V Shown values bits → List (Option Shown)
rows_left {values = values} {bits = bits} zip = optional_values (given_bits (option_map bits.rest zip.validity)) (values.rest zip.values)
