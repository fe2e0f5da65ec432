-- Equality of rows: this library's own. Two rows are equal where both are null, or both are valid and have the same bytes.
use Rattle.std.specs.Prelude.{ℕ, Bool, List, Option}
use Rattle.std.specs.Option.{option_eq}
use Rattle.std.specs.Str.{bytes_eq}
use Rattle.std.specs.Cmp.{IsEquivalence}
use Rattle.std.specs.Cmp.Lexicographic.{pointwise, nat_list_eq_equiv, options_equiv, lists_equiv}
use Rattle.column_base.specs.Slots.{rows_of}
use Rattle.column_binview.specs.Slots.{ViewLists, view_slots}

abbrev pub row_eq : Option (List ℕ) → Option (List ℕ) → Bool
row_eq = option_eq bytes_eq

-- as many rows, and each equal to the one at its place
abbrev pub rows_eq : ViewLists → ViewLists → Bool
rows_eq a b = pointwise row_eq (rows_of (view_slots a)) (rows_of (view_slots b))

-- which is an equivalence
pub rows_equiv : IsEquivalence (pointwise row_eq)
rows_equiv = lists_equiv (options_equiv nat_list_eq_equiv)
