-- Slots that are written anew, why they are not, and the lists with offsets that they are written to.
use Rattle.std.specs.Prelude.{◌≡◌, ℕ, ◌*◌, ◌^◌, pos, nat_lt, nat_le, ◌&&◌, ◌==◌, Bool, false, not, List, [], ◌∷◌, ◌++◌, length, map, sum, Option, Some, None}
use Rattle.std.specs.List.{concat, list_all}
use Rattle.column_base.specs.declared.errors.Cause.{Cause}
use Rattle.column_base.specs.declared.errors.Cause.TheVariants.{InvalidUtf8, SizeZero, WrongKind, WrongLength, Overflow}
use Rattle.column_base.specs.Answers.{cause_if, ◌or_else◌}
use Rattle.column_base.specs.Kinds.{Slot, ColumnKind}
use Rattle.column_base.specs.Kinds as kinds
use Rattle.column_base.specs.Slots.{values_of, rows_of}
use Rattle.column_storage.specs.Bits.{kept_flags}
use Rattle.column_offset.specs.Offsets.{offset_at}
use Rattle.column_offset.specs.Growth.{extended}
use Rattle.column_offset.specs.Text.{are_well_formed_utf8}
use Rattle.column_binary.specs.Slots.{OffsetLists, offset_lists, offset_slots}
use Rattle.column_binary.specs.Rows.{AreFullLists, slot_of}
use Rattle.column_fixed.specs.Rows.{is_of_width}
use Rattle.column_fixed.specs.Rows as fixed
use Rattle.column_rows.specs.Rows.{given_rows, is_of_view}
use Rattle.column_relayout.specs.Kinds.{is_text, greatest_of, slot_width}

-- ---- slots

-- how many bytes the slots have together
abbrev pub bytes_in : List Slot → ℕ
bytes_in slots = sum (map length (values_of slots))

-- valid slots as they are, and null ones without bytes
abbrev pub written_slots : List Slot → List Slot
written_slots slots = map slot_of (rows_of slots)

-- the slot of a row: a missing row is null, without bytes, or with zeros where slots have a width
abbrev pub slot_by : Option ℕ → Option (List ℕ) → Slot
slot_by None = slot_of
slot_by (Some width) = fixed.slot_of width

-- the slots of rows in a column of a kind
abbrev pub slots_in : ColumnKind → List (Option (List ℕ)) → List Slot
slots_in kind rows = map (slot_by (slot_width kind)) rows

-- ---- why rows are not written

-- a given row has another length than the slots, where these have a width
abbrev pub length_fault : Option ℕ → List (Option (List ℕ)) → Option Cause
length_fault None rows = None
length_fault (Some width) rows = cause_if (not (list_all (is_of_width width) rows)) WrongLength

-- the slots together pass the greatest offset, where there is one
abbrev pub bytes_fault : Option ℕ → List Slot → Option Cause
bytes_fault None slots = None
bytes_fault (Some greatest) slots = cause_if (nat_lt greatest (bytes_in slots)) Overflow

-- a given row is longer than a view can tell
abbrev pub view_fault : List (Option (List ℕ)) → Option Cause
view_fault rows = cause_if (not (list_all is_of_view rows)) Overflow

-- These rows, or all the slots together, pass what a column of a kind can hold.
abbrev pub room_fault : ColumnKind → List (Option (List ℕ)) → List Slot → Option Cause
room_fault (kinds.Fixed width) rows slots = cause_if (nat_le (2 ^ 64) (length slots * width)) Overflow
room_fault kinds.Int64 rows slots = None
room_fault kinds.BinView rows slots = view_fault rows
room_fault kinds.Utf8View rows slots = view_fault rows
room_fault kind rows slots = bytes_fault (greatest_of kind) slots

-- rows that are appended to the slots of a column of a kind
abbrev pub append_fault : ColumnKind → List Slot → List (Option (List ℕ)) → Option Cause
append_fault kind slots rows =
    cause_if (is_text kind && not (are_well_formed_utf8 (given_rows rows))) InvalidUtf8
    or_else length_fault (slot_width kind) rows
    or_else room_fault kind rows (slots ++ slots_in kind rows)

-- slots of no bytes
abbrev pub has_no_width : ColumnKind → Bool
has_no_width (kinds.Fixed width) = width == 0
has_no_width kind = false

-- rows, which are those of texts where the flag is true, that are written into a column of a kind
abbrev pub write_fault : Bool → List (Option (List ℕ)) → ColumnKind → Option Cause
write_fault text rows next =
    cause_if (has_no_width next) SizeZero
    or_else cause_if (is_text next && not text) WrongKind
    or_else length_fault (slot_width next) rows
    or_else room_fault next rows (slots_in next rows)

-- ---- lists with offsets

-- Arrow columnar format, "Variable-size Binary Layout": offsets from 0, the slots end to end, and a validity exactly
-- where a slot is null.
unfoldable pub written_lists : List Slot → OffsetLists
written_lists slots = offset_lists (extended (pos 0 ∷ []) (map length (values_of slots))) (concat (values_of slots)) (kept_flags (map (λ slot. slot.valid) slots))

-- Growing lists that hold these slots so far, with offsets from 0.
pub record HoldSlots (lists : OffsetLists) (held : List Slot) : Type 0 where
  pub full : AreFullLists lists
  pub starts : offset_at lists.offsets 0 ≡ pos 0
  pub slots_are : offset_slots lists ≡ held
