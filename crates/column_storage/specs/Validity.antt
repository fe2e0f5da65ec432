-- Flags of slots, where they are given, and the fault that they may have.
use Rattle.std.specs.Prelude.{◌≡◌, ℕ, Bool, true, not, List, length, slice_index_or, Option, Some, None, IfSome, ◌==◌}
use Rattle.column_base.specs.declared.errors.Cause.{Cause}
use Rattle.column_base.specs.declared.errors.Cause.TheVariants.{ValidityLength}
use Rattle.column_base.specs.Answers.{cause_if}

-- Arrow columnar format, "Validity bitmaps": flags that are given are as many as the n slots.
abbrev pub AreFlagsOf : ℕ → Option (List Bool) → Type 0
AreFlagsOf n flags = IfSome flags (λ bits. length bits ≡ n)

-- the fault of flags that are given and are not as many
abbrev pub flags_fault : ℕ → Option (List Bool) → Option Cause
flags_fault n None = None
flags_fault n (Some flags) = cause_if (not (length flags == n)) ValidityLength

-- the flag of slot i; where no flags are given, each slot is valid
abbrev pub is_valid_at : Option (List Bool) → ℕ → Bool
is_valid_at None i = true
is_valid_at (Some flags) i = slice_index_or flags i true
