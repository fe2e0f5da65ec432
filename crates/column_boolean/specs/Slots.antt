-- The lists of an array of truth values, the slots that they mean, and their faults.
use Rattle.std.specs.Prelude.{◌≡◌, ℕ, Bool, true, false, not, List, [], ◌∷◌, length, map, Option, if◌then◌else◌}
use Rattle.column_base.specs.declared.errors.Cause.{Cause}
use Rattle.column_base.specs.declared.errors.Cause.TheVariants.{WrongDataType}
use Rattle.column_base.specs.declared.datatypes.ArrowDataType.{ArrowDataType}
use Rattle.column_base.specs.declared.datatypes.PhysicalType.{PhysicalType}
use Rattle.column_base.specs.declared.datatypes.PhysicalType.TheVariants as physical
use Rattle.column_base.specs.DataTypes.{physical_type}
use Rattle.column_base.specs.Answers.{cause_if}
use Rattle.column_base.specs.Kinds.{Slot}
use Rattle.column_base.specs.Lists.{sublist}
use Rattle.column_storage.specs.Bits.{sliced_flags}
use Rattle.column_storage.specs.Slots.{flagged_slots}
use Rattle.column_storage.specs.Validity.{AreFlagsOf, flags_fault}

-- Arrow columnar format, "Fixed-size Primitive Layout": the truth values, a bit each, and the validity where one is given.
pub record BooleanLists : Type 0 where
  pub values : List Bool
  pub flags : Option (List Bool)

abbrev pub boolean_lists : List Bool → Option (List Bool) → BooleanLists
boolean_lists values flags = record { values = values; flags = flags }

abbrev pub boolean_count : BooleanLists → ℕ
boolean_count lists = length lists.values

-- this library's own: a truth value as a slot's bytes is one byte, 1 where it is true and 0 where it is not
abbrev pub byte_of : Bool → List ℕ
byte_of value = (if value then 1 else 0) ∷ []

-- what the lists mean: each flag beside a truth value
unfoldable pub boolean_slots : BooleanLists → List Slot
boolean_slots lists = flagged_slots lists.flags (map byte_of lists.values)

-- the physical type of truth values
abbrev pub is_boolean : PhysicalType → Bool
is_boolean physical.Boolean = true
is_boolean other = false

-- a data type that lies in another physical type
abbrev pub type_fault : ArrowDataType → Option Cause
type_fault dtype = cause_if (not (is_boolean (physical_type dtype))) WrongDataType

-- the first fault of lists
abbrev pub boolean_fault : BooleanLists → Option Cause
boolean_fault lists = flags_fault (boolean_count lists) lists.flags

-- Lists that are sound: flags that are given are as many as the truth values.
pub record AreSoundBooleans (lists : BooleanLists) : Type 0 where
  pub flagged : AreFlagsOf (boolean_count lists) lists.flags

-- n slots from a place on: their truth values, and their flags
unfoldable pub sliced_booleans : BooleanLists → ℕ → ℕ → BooleanLists
sliced_booleans lists from n = boolean_lists (sublist lists.values from n) (sliced_flags lists.flags from n)

-- A part of lists, of n slots from a place on: which lists it has, which slots they mean and how many, and that they are
-- sound.
pub record IsPart (old : BooleanLists) (from n : ℕ) (new : BooleanLists) : Type 0 where
  pub part : new ≡ sliced_booleans old from n
  pub slots : boolean_slots new ≡ sublist (boolean_slots old) from n
  pub count : boolean_count new ≡ n
  pub sound : AreSoundBooleans new
