-- Arrow columnar format, "Variable-size Binary Layout": n slots have n + 1 offsets, and slot i lies from offset i up
-- to, not with, offset i + 1. Offsets start at 0 or more and never fall.
use Rattle.std.specs.Prelude.{ℕ, ◌+◌, ◌-◌, ◌<◌, ℤ, pos, negsuc, ◌≤ℤ◌, int_lt, Bool, false, ◌||◌, List, [], ◌∷◌, length, slice_index_or, Option, Some}
use Rattle.column_base.specs.declared.errors.Cause.{Cause}
use Rattle.column_base.specs.declared.errors.Cause.TheVariants.{OffsetsEmpty, OffsetsNegative, OffsetsNotMonotone, OffsetsExceedValues}
use Rattle.column_base.specs.Answers.{cause_if, ◌or_else◌}

-- a number as a place, where it is 0 or more
abbrev pub nat_of : ℤ → ℕ
nat_of (pos n) = n
nat_of (negsuc n) = 0

-- offset i
abbrev pub offset_at : List ℤ → ℕ → ℤ
offset_at offsets i = slice_index_or offsets i (pos 0)

-- the last offset
abbrev pub last_of : List ℤ → ℤ
last_of offsets = offset_at offsets (length offsets - 1)

-- not empty, from 0 or more, and no offset below the one before it
pub record AreSoundOffsets (offsets : List ℤ) : Type 0 where
  pub not_empty : 0 < length offsets
  pub starts : pos 0 ≤ℤ offset_at offsets 0
  pub never_falls : (i : ℕ) → i + 1 < length offsets → offset_at offsets i ≤ℤ offset_at offsets (i + 1)

-- sound offsets, the last of which is at most the greatest value of their type
pub record AreOffsetsWithin (greatest : ℕ) (offsets : List ℤ) : Type 0 where
  pub sound : AreSoundOffsets offsets
  pub within_type : last_of offsets ≤ℤ pos greatest

-- some number is below the one before it
abbrev pub falls : ℤ → List ℤ → Bool
falls before [] = false
falls before (n ∷ ns) = int_lt n before || falls n ns

-- why a list is no list of sound offsets
abbrev pub offsets_fault : List ℤ → Option Cause
offsets_fault [] = Some OffsetsEmpty
offsets_fault (n ∷ ns) = cause_if (int_lt n (pos 0)) OffsetsNegative or_else cause_if (falls n ns) OffsetsNotMonotone

-- why offsets do not fit a number of values
abbrev pub bounds_fault : List ℤ → ℕ → Option Cause
bounds_fault offsets count = cause_if (int_lt (pos count) (last_of offsets)) OffsetsExceedValues
