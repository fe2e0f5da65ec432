-- The bytes of slots, and text that is cut into slots.
use Rattle.std.specs.Prelude.{ℕ, ℤ, Bool, not, List, [], ◌∷◌, length, slice_index, slice_range, Option}
use Rattle.std.specs.List.{concat}
use Rattle.column_base.specs.declared.errors.Cause.{Cause}
use Rattle.column_base.specs.declared.errors.Cause.TheVariants.{InvalidUtf8, CharBoundary}
use Rattle.column_base.specs.Answers.{cause_if, ◌or_else◌}
use Rattle.column_base.specs.Utf8.{is_well_formed_utf8, is_continuation_byte}
pub use Rattle.column_base.specs.Utf8.{are_well_formed_utf8}
use Rattle.column_offset.specs.Offsets.{nat_of, bounds_fault}

-- Arrow columnar format, "Variable-size Binary Layout": the bytes from each offset up to the next.
abbrev pub pieces : List ℤ → List ℕ → List (List ℕ)
pieces [] values = []
pieces (start ∷ []) values = []
pieces (start ∷ end ∷ offsets) values = slice_range values (nat_of start) (nat_of end) ∷ pieces (end ∷ offsets) values

-- Why byte strings are no texts: end to end they are not UTF-8, or else some one by itself is not.
unfoldable pub texts_fault : List (List ℕ) → Option Cause
texts_fault texts =
    cause_if (not (is_well_formed_utf8 (concat texts))) InvalidUtf8
    or_else cause_if (not (are_well_formed_utf8 texts)) CharBoundary

-- why the slots of sound offsets are no texts
unfoldable pub cut_fault : List ℤ → List ℕ → Option Cause
cut_fault offsets values = bounds_fault offsets (length values) or_else texts_fault (pieces offsets values)

-- Unicode, table 3-7: the byte at an offset begins no sequence. At the end of the bytes there is none.
abbrev pub cuts_sequence : List ℕ → ℤ → Bool
cuts_sequence bytes offset = is_continuation_byte (slice_index bytes (nat_of offset))
