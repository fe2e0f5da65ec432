-- Rows of optional byte strings: what they have together, and which of them a layout takes. This library's own.
use Rattle.std.specs.Prelude.{ℕ, ◌^◌, nat_lt, Bool, true, List, length, map, sum, Option, Some, None}
use Rattle.std.specs.List.{filter_map}

-- the bytes of each row that is given
abbrev pub given_rows : List (Option (List ℕ)) → List (List ℕ)
given_rows rows = filter_map (λ row. row) rows

-- how many bytes the given rows have together
abbrev pub bytes_in_rows : List (Option (List ℕ)) → ℕ
bytes_in_rows rows = sum (map length (given_rows rows))

-- Arrow columnar format, "Variable-size Binary View Layout": a view tells a length of 32 bits.
abbrev pub is_of_view : Option (List ℕ) → Bool
is_of_view None = true
is_of_view (Some bytes) = nat_lt (length bytes) (2 ^ 32)
