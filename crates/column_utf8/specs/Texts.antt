-- The lists of an array or a builder of texts with offsets, and their faults.
use Rattle.std.specs.Prelude.{◌≡◌, true, length}
use Rattle.std.specs.declared.option.Option.{Option}
use Rattle.column_base.specs.declared.errors.Cause.{Cause}
use Rattle.column_base.specs.Answers.{◌or_else◌}
use Rattle.column_base.specs.Slots.{values_of}
use Rattle.column_offset.specs.Offsets.{bounds_fault}
use Rattle.column_offset.specs.Text.{pieces, are_well_formed_utf8, texts_fault, cut_fault}
use Rattle.column_storage.specs.Validity.{flags_fault}
use Rattle.column_binary.specs.Slots.{OffsetLists, slot_count, offset_slots, AreSoundLists}
use Rattle.column_binary.specs.Rows.{full_fault}

-- the first fault of lists whose offsets are sound
abbrev pub text_array_fault : OffsetLists → Option Cause
text_array_fault lists = cut_fault lists.offsets lists.values or_else flags_fault (slot_count lists) lists.flags

-- Lists that are sound, and each slot by itself is UTF-8, a null one too. Unicode, table 3-7.
pub record AreSoundTexts (lists : OffsetLists) : Type 0 where
  pub sound : AreSoundLists lists
  pub texts : are_well_formed_utf8 (values_of (offset_slots lists)) ≡ true

-- each slot by itself is UTF-8, a null one too. Unicode, table 3-7.
abbrev pub AreTexts : OffsetLists → Type 0
AreTexts lists = are_well_formed_utf8 (values_of (offset_slots lists)) ≡ true

-- the first fault of a builder's lists whose offsets are sound, beside that of its data type
abbrev pub text_builder_fault : OffsetLists → Option Cause → Option Cause
text_builder_fault lists type =
    bounds_fault lists.offsets (length lists.values)
    or_else full_fault lists.offsets (length lists.values)
    or_else texts_fault (pieces lists.offsets lists.values)
    or_else type
    or_else flags_fault (slot_count lists) lists.flags
