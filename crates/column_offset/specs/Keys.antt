-- Keys into a list of values: this library's own order of faults.
use Rattle.std.specs.Prelude.{ℕ, ℤ, pos, negsuc, nat_le, List, [], ◌∷◌, Option, Some, None}
use Rattle.column_base.specs.declared.errors.Cause.{Cause}
use Rattle.column_base.specs.declared.errors.Cause.TheVariants.{KeyNotUsize, KeyOutOfRange}
use Rattle.column_base.specs.Answers.{cause_if, ◌or_else◌}

-- why a key names none of so many values
abbrev pub key_fault : ℤ → ℕ → Option Cause
key_fault (pos key) count = cause_if (nat_le count key) (KeyOutOfRange key count)
key_fault (negsuc n) count = Some KeyNotUsize

-- the fault of the first key that has one
abbrev pub keys_fault : List ℤ → ℕ → Option Cause
keys_fault [] count = None
keys_fault (key ∷ keys) count = key_fault key count or_else keys_fault keys count
