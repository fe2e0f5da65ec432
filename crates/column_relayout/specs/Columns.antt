-- Raw columns: the lists of a layout, and what they mean. Each word has a line for each layout.
use Rattle.std.specs.Prelude.{◌≡◌, ℕ, ◌≤◌, ℤ, pos, ◌≤ℤ◌, Bool, true, List, [], ◌∷◌, length, if◌then◌else◌}
use Rattle.std.specs.Int.{w64}
use Rattle.std.specs.declared.option.Option.{Option}
use Rattle.column_base.specs.declared.errors.Cause.{Cause}
use Rattle.column_base.specs.Answers.{◌or_else◌}
use Rattle.column_base.specs.Integers.{greatest_offset}
use Rattle.column_base.specs.declared.datatypes.PrimitiveType.TheVariants as primitives
use Rattle.column_base.specs.Native.{signed_bytes}
use Rattle.column_base.specs.Kinds.{Slot, ColumnKind}
use Rattle.column_base.specs.Kinds as kinds
use Rattle.column_base.specs.Slots.{values_of}
use Rattle.column_offset.specs.Offsets.{last_of, offsets_fault}
use Rattle.column_offset.specs.Text.{are_well_formed_utf8}
use Rattle.column_binary.specs.Slots.{OffsetLists, slot_count, offset_slots, array_fault, AreSoundLists, sliced_lists}
use Rattle.column_utf8.specs.Texts.{text_array_fault}
use Rattle.column_storage.specs.declared.data_buffers.TheConstants.{MAX_BUFFERS}
use Rattle.column_binview.specs.Slots.{ViewLists, view_slots, view_count, view_array_fault, AreSoundViews, sliced_views}
use Rattle.column_fixed.specs.Slots.{FixedLists, fixed_slots, fixed_count, fixed_fault, AreSoundFixed, sliced_fixed}
use Rattle.column_primitive.specs.Numbers.{NumberArray, number_slots, number_count, number_array_fault, IsSoundArray, sliced_array}
use Rattle.column_relayout.specs.Kinds.{is_text, offset_kind, view_kind}

-- Arrow columnar format. "Variable-size Binary Layout": lists with offsets, which have 64 bits where the first flag is
-- true and 32 else, of texts where the second is true and of byte strings else. "Variable-size Binary View Layout":
-- lists with views, of texts where the flag is true and of byte strings else. "Fixed-size Primitive Layout": byte
-- strings of one width, and signed numbers of 64 bits with what they mean.
pub data RawLists : Type 0 where
  offset_column : Bool → Bool → OffsetLists → RawLists
  view_column : Bool → ViewLists → RawLists
  fixed_column : FixedLists → RawLists
  number_column : NumberArray ℤ → RawLists

abbrev pub column_kind : RawLists → ColumnKind
column_kind (offset_column large text lists) = offset_kind large text
column_kind (view_column text lists) = view_kind text
column_kind (fixed_column lists) = kinds.Fixed lists.width
column_kind (number_column array) = kinds.Int64

-- the slots that a raw column means
abbrev pub slots_of : RawLists → List Slot
slots_of (offset_column large text lists) = offset_slots lists
slots_of (view_column text lists) = view_slots lists
slots_of (fixed_column lists) = fixed_slots lists
slots_of (number_column array) = number_slots (signed_bytes w64) array.lists

abbrev pub count_of : RawLists → ℕ
count_of (offset_column large text lists) = slot_count lists
count_of (view_column text lists) = view_count lists
count_of (fixed_column lists) = fixed_count lists
count_of (number_column array) = number_count array.lists

-- the first fault of parts
abbrev pub parts_fault : RawLists → Option Cause
parts_fault (offset_column large text lists) = offsets_fault lists.offsets or_else (if text then text_array_fault lists else array_fault lists)
parts_fault (view_column text lists) = view_array_fault text lists
parts_fault (fixed_column lists) = fixed_fault lists
parts_fault (number_column array) = number_array_fault primitives.Int64 array

abbrev pub AreSound : RawLists → Type 0
AreSound (offset_column large text lists) = AreSoundLists lists
AreSound (view_column text lists) = AreSoundViews text lists
AreSound (fixed_column lists) = AreSoundFixed lists
AreSound (number_column array) = IsSoundArray primitives.Int64 array

-- "Variable-size Binary Layout": the last offset is at most the greatest of its type. "Variable-size Binary View
-- Layout": there are at most as many buffers as the library has a limit for. Slots of one length have no such bound.
abbrev pub IsWithinType : RawLists → Type 0
IsWithinType (offset_column large text lists) = last_of lists.offsets ≤ℤ pos (greatest_offset large)
IsWithinType (view_column text lists) = length lists.buffers ≤ MAX_BUFFERS
IsWithinType (fixed_column lists) = Unit {0}
IsWithinType (number_column array) = Unit {0}

-- Lists of which nothing is to be refused: they are sound and lie within their type, and where the kind is one of
-- texts, each slot by itself is UTF-8, a null one too. Unicode, table 3-7.
pub record IsWellFormed (column : RawLists) : Type 0 where
  pub sound : AreSound column
  pub within_type : IsWithinType column
  pub texts : is_text (column_kind column) ≡ true → are_well_formed_utf8 (values_of (slots_of column)) ≡ true

-- n slots from a place on: their lists, with all the value bytes or buffers, but for slots of one length their own
-- bytes or numbers
abbrev pub part_of : RawLists → ℕ → ℕ → RawLists
part_of (offset_column large text lists) from n = offset_column large text (sliced_lists lists from n)
part_of (view_column text lists) from n = view_column text (sliced_views lists from n)
part_of (fixed_column lists) from n = fixed_column (sliced_fixed lists from n)
part_of (number_column array) from n = number_column (sliced_array array from n)

-- the same lists as texts, or as byte strings, in a layout that has both; others as they are
abbrev pub retyped : Bool → RawLists → RawLists
retyped text (offset_column large old lists) = offset_column large text lists
retyped text (view_column old lists) = view_column text lists
retyped text (fixed_column lists) = fixed_column lists
retyped text (number_column array) = number_column array

-- the bytes that slots share: the value bytes, or the buffers; slots of one length share none
abbrev pub shared_bytes : RawLists → List (List ℕ)
shared_bytes (offset_column large text lists) = lists.values ∷ []
shared_bytes (view_column text lists) = lists.buffers
shared_bytes (fixed_column lists) = []
shared_bytes (number_column array) = []
