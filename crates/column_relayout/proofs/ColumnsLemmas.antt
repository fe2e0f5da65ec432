-- Columns that are well formed, and their parts, by layout.
use Rattle.std.proofs.Common.{◌≡◌, ◌↔◌, ℕ, ◌+◌, ◌*◌, ◌≤◌, ℤ, pos, ◌≤ℤ◌, Bool, true, false, List, length, take, Option, None, Some, refl, sym, ◌∙◌, ap, arith}
use Rattle.std.proofs.Math.Seq.{take-length}
use Rattle.column_base.specs.Integers.{greatest_offset}
use Rattle.column_base.specs.Lists.{sublist}
use Rattle.column_base.proofs.AnswersLemmas.{first_none}
use Rattle.column_storage.specs.Bits.{flags_of}
use Rattle.column_storage.proofs.FlagsLemmas.{flags_of-sliced, length-flags_of, no_flags_fault}
use Rattle.column_storage.specs.Validity.{AreFlagsOf, flags_fault}
use Rattle.column_view.specs.ViewFaults.{views_fault}
use Rattle.column_base.specs.Slots.{values_of}
use Rattle.column_base.specs.Utf8.{are_well_formed_utf8}
use Rattle.column_offset.specs.Offsets.{last_of, offsets_fault}
use Rattle.column_offset.proofs.OffsetsLemmas.{sound_where_no_fault as sound_offsets, no_fault_where_sound}
use Rattle.column_binary.specs.Slots.{OffsetLists, offset_lists, slot_count, sliced_lists, array_fault, AreSoundLists}
use Rattle.column_binary.proofs.SlotsLemmas as binary
use Rattle.column_binary.proofs.SlotsLemmas.{length-offset_slots, offsets_are, flags_are, flags-sliced, slices_are_one}
use Rattle.column_utf8.specs.Texts.{text_array_fault, AreSoundTexts}
use Rattle.column_utf8.proofs.TextsLemmas as texts
use Rattle.column_storage.proofs.SlotsLemmas.{flagged_slots-same}
use Rattle.column_binview.specs.Slots.{ViewLists, view_lists, view_count, contents, view_slots, sliced_views, AreSoundViews}
use Rattle.column_binview.proofs.SlotsLemmas as views
use Rattle.column_binview.proofs.TextsLemmas.{texts_are as view_texts_are}
use Rattle.column_view.specs.Views.{view_content}
use Rattle.std.specs.Int.{w64}
use Rattle.column_base.specs.declared.errors.Cause.{Cause}
use Rattle.column_base.specs.declared.datatypes.ArrowDataType.{ArrowDataType}
use Rattle.column_base.specs.declared.datatypes.PrimitiveType.TheVariants as primitives
use Rattle.column_base.specs.Answers.{◌or_else◌}
use Rattle.column_base.specs.Native.{signed_bytes}
use Rattle.column_fixed.specs.Slots.{FixedLists, fixed_lists, fixed_count, AreSoundFixed, sliced_fixed}
use Rattle.column_fixed.proofs.SlotsLemmas as fixed
use Rattle.column_primitive.specs.Types.{number_type_fault}
use Rattle.column_primitive.specs.Numbers.{NumberLists, NumberArray, number_lists, number_array, number_count, number_fault, AreSoundNumbers, sliced_numbers, sliced_array}
use Rattle.column_primitive.proofs.NumbersLemmas as numbers
use Rattle.std.proofs.lemmas.List.{length-map}
use Rattle.column_relayout.specs.Kinds.{is_text, is_binary, has_views, slot_width, text_kind, binary_kind, offset_kind, view_kind}
use Rattle.column_relayout.specs.Columns.{RawLists, offset_column, view_column, fixed_column, number_column, column_kind, slots_of, count_of, parts_fault, AreSound, IsWithinType, IsWellFormed, part_of, retyped}
use Rattle.column_relayout.specs.Cuts.{as_read}

-- ---- kinds

pub text_is : (large text : Bool) → is_text (offset_kind large text) ≡ text
text_is false false = refl
text_is false true = refl
text_is true false = refl
text_is true true = refl

pub view_text_is : (text : Bool) → is_text (view_kind text) ≡ text
view_text_is false = refl
view_text_is true = refl

pub no_views : (large text : Bool) → has_views (offset_kind large text) ≡ false
no_views false false = refl
no_views false true = refl
no_views true false = refl
no_views true true = refl

pub views_are : (text : Bool) → has_views (view_kind text) ≡ true
views_are false = refl
views_are true = refl

pub widthless : (large text : Bool) → slot_width (offset_kind large text) ≡ None
widthless false false = refl
widthless false true = refl
widthless true false = refl
widthless true true = refl

pub binary_is : (large : Bool) → is_binary (offset_kind large false) ≡ true
binary_is false = refl
binary_is true = refl

pub to_text_kind : (large : Bool) → text_kind (offset_kind large false) ≡ offset_kind large true
to_text_kind false = refl
to_text_kind true = refl

pub to_binary_kind : (large : Bool) → binary_kind (offset_kind large true) ≡ offset_kind large false
to_binary_kind false = refl
to_binary_kind true = refl

pub kind-part : (column : RawLists) (from n : ℕ) → column_kind (part_of column from n) ≡ column_kind column
unfolding sliced_fixed
kind-part (offset_column large text lists) from n = refl
kind-part (view_column text lists) from n = refl
kind-part (fixed_column lists) from n = refl
kind-part (number_column array) from n = refl

-- ---- well-formed columns

pub bytes_well_formed : (large : Bool) (lists : OffsetLists) → AreSoundLists lists → last_of lists.offsets ≤ℤ pos (greatest_offset large) → IsWellFormed (offset_column large false lists)
bytes_well_formed large lists sound within = record {
  sound = sound;
  within_type = within;
  texts = λ (text : is_text (offset_kind large false) ≡ true). let bytes = text_is large false in absurd (cc);
}

pub texts_well_formed : (large : Bool) (lists : OffsetLists) → AreSoundTexts lists → last_of lists.offsets ≤ℤ pos (greatest_offset large) → IsWellFormed (offset_column large true lists)
texts_well_formed large lists sound within = record {
  sound = sound.sound;
  within_type = within;
  texts = λ (text : is_text (offset_kind large true) ≡ true). sound.texts;
}

view_texts : (text : Bool) (lists : ViewLists) → AreSoundViews text lists → is_text (view_kind text) ≡ true → are_well_formed_utf8 (values_of (view_slots lists)) ≡ true
view_texts true lists sound is = view_texts_are lists sound
view_texts false lists sound is = absurd (cc)

pub views_well_formed : (text : Bool) (lists : ViewLists) → AreSoundViews text lists → IsWellFormed (view_column text lists)
views_well_formed text lists sound = record { sound = sound; within_type = sound.few; texts = view_texts text lists sound }

pub fixed_well_formed : (lists : FixedLists) → AreSoundFixed lists → IsWellFormed (fixed_column lists)
fixed_well_formed lists sound = record { sound = sound; within_type = tt; texts = λ text. absurd (cc) }

pub numbers_well_formed : (array : NumberArray ℤ) → number_type_fault primitives.Int64 array.dtype ≡ None → AreSoundNumbers array.lists → IsWellFormed (number_column array)
numbers_well_formed array own sound = record { sound = record { own = own; sound = sound }; within_type = tt; texts = λ text. absurd (cc) }

pub sound_offset_lists : (large text : Bool) (lists : OffsetLists) → parts_fault (offset_column large text lists) ≡ None → AreSound (offset_column large text lists)
sound_offset_lists large false lists none =
    let both = first_none (offsets_fault lists.offsets) (array_fault lists) none in
    (binary.no_fault_is_sound lists (sound_offsets lists.offsets both.0)).0 both.1
sound_offset_lists large true lists none =
    let both = first_none (offsets_fault lists.offsets) (text_array_fault lists) none in
    ((texts.no_fault_is_sound lists (sound_offsets lists.offsets both.0)).0 both.1).sound

-- the flags of views without a fault, however many buffers there are
pub flagged_where_no_fault : (text : Bool) (lists : ViewLists) → parts_fault (view_column text lists) ≡ None → AreFlagsOf (view_count lists) lists.flags
flagged_where_no_fault text lists none =
    (no_flags_fault (view_count lists) lists.flags).0
    (first_none (views_fault text lists.views lists.buffers) (flags_fault (view_count lists) lists.flags) none).1

pub sound_where_no_fault : (column : RawLists) → IsWithinType column → parts_fault column ≡ None → AreSound column
sound_where_no_fault (offset_column large text lists) within none = sound_offset_lists large text lists none
sound_where_no_fault (view_column text lists) within none = (views.no_fault_is_sound text lists within).0 none
sound_where_no_fault (fixed_column lists) within none = fixed.sound_where_fine lists none
sound_where_no_fault (number_column array) within none =
    let both = first_none (number_fault array.lists) (number_type_fault primitives.Int64 array.dtype) none in
    record { own = both.1; sound = numbers.sound_where_fine array.lists both.0 }

no_fault_where_formed : (column : RawLists) → IsWellFormed column → parts_fault column ≡ None
no_fault_where_formed (offset_column large false lists) formed =
    let sound = formed.sound.sound in
    rw (no_fault_where_sound lists.offsets sound) ((binary.no_fault_is_sound lists sound).1 formed.sound)
no_fault_where_formed (offset_column large true lists) formed =
    let sound = formed.sound.sound in
    let read : AreSoundTexts lists = record { sound = formed.sound; texts = formed.texts (text_is large true) } in
    rw (no_fault_where_sound lists.offsets sound) ((texts.no_fault_is_sound lists sound).1 read)
no_fault_where_formed (view_column text lists) formed = (views.no_fault_is_sound text lists formed.within_type).1 formed.sound
no_fault_where_formed (fixed_column lists) formed = fixed.fine_where_sound lists formed.sound
no_fault_where_formed (number_column array) formed =
    ap (λ (first : Option Cause). first or_else number_type_fault primitives.Int64 array.dtype) ((numbers.no_fault_is_sound array.lists).1 formed.sound.sound)
    ∙ formed.sound.own

formed_where_no_fault : (column : RawLists) → IsWithinType column → parts_fault column ≡ None → IsWellFormed column
formed_where_no_fault (offset_column large false lists) within none = bytes_well_formed large lists (sound_where_no_fault (offset_column large false lists) within none) within
formed_where_no_fault (offset_column large true lists) within none =
    let both = first_none (offsets_fault lists.offsets) (text_array_fault lists) none in
    texts_well_formed large lists ((texts.no_fault_is_sound lists (sound_offsets lists.offsets both.0)).0 both.1) within
formed_where_no_fault (view_column text lists) within none = views_well_formed text lists (sound_where_no_fault (view_column text lists) within none)
formed_where_no_fault (fixed_column lists) within none = fixed_well_formed lists (sound_where_no_fault (fixed_column lists) within none)
formed_where_no_fault (number_column array) within none =
    let sound = sound_where_no_fault (number_column array) within none in
    numbers_well_formed array sound.own sound.sound

pub no_fault_is_well_formed : (column : RawLists) → IsWithinType column → (parts_fault column ≡ None) ↔ IsWellFormed column
no_fault_is_well_formed column within = (formed_where_no_fault column within, no_fault_where_formed column)

-- ---- parts

pub count-slots : (column : RawLists) → AreSound column → length (slots_of column) ≡ count_of column
count-slots (offset_column large text lists) sound = length-offset_slots lists sound
count-slots (view_column text lists) sound = views.length-view_slots lists sound.flagged
count-slots (fixed_column lists) sound = fixed.length-fixed_slots lists sound
count-slots (number_column array) sound = numbers.length-number_slots (signed_bytes w64) array.lists sound.sound

pub count-part : (column : RawLists) (from n : ℕ) → AreSound column → from + n ≤ count_of column → count_of (part_of column from n) ≡ n
count-part (offset_column large text lists) from n sound within = binary.slot_count-sliced lists from n sound within
count-part (view_column text lists) from n sound within = views.view_count-sliced lists from n within
count-part (fixed_column lists) from n sound within = fixed.fixed_count-sliced lists from n sound within
count-part (number_column array) from n sound within = numbers.number_count-sliced array.lists from n within

pub part-part : (column : RawLists) (from n start m : ℕ) → AreSound column → from + n ≤ count_of column → start + m ≤ n → part_of (part_of column from n) start m ≡ part_of column (from + start) m
part-part (offset_column large text lists) from n start m sound within inside = ap (offset_column large text) (slices_are_one lists from n start m sound within inside)
part-part (view_column text lists) from n start m sound within inside = ap (view_column text) (views.slices_are_one text lists from n start m sound within inside)
part-part (fixed_column lists) from n start m sound within inside = ap fixed_column (fixed.slices_are_one lists from n start m sound within inside)
part-part (number_column array) from n start m sound within inside =
    ap (λ (lists : NumberLists ℤ). number_column (number_array array.dtype lists)) (numbers.slices_are_one array.lists from n start m sound.sound within inside)

-- a part has its column's kind
pub retyped-part : (column : RawLists) (from n : ℕ) → retyped (is_text (column_kind column)) (part_of column from n) ≡ part_of column from n
retyped-part (offset_column large text lists) from n = ap (λ (kind : Bool). offset_column large kind (sliced_lists lists from n)) (text_is large text)
retyped-part (view_column text lists) from n = ap (λ (kind : Bool). view_column kind (sliced_views lists from n)) (view_text_is text)
retyped-part (fixed_column lists) from n = refl
retyped-part (number_column array) from n = refl

-- ---- lists as they are read

-- the part with all slots
pub as_read-views : (text : Bool) (lists : ViewLists) → AreFlagsOf (view_count lists) lists.flags → as_read (part_of (view_column text lists) 0 (view_count lists)) ≡ as_read (view_column text lists)
unfolding sliced_views
as_read-views text lists flagged =
    let n = view_count lists in
    let part = sliced_views lists 0 n in
    let flags = flags_of n lists.flags in
    let own : sublist lists.views 0 n ≡ lists.views = take-length lists.views in
    let read : flags_of (view_count part) part.flags ≡ flags =
    ap (λ (k : ℕ). flags_of k part.flags) (views.view_count-sliced lists 0 n (omega arith))
    ∙ flags_of-sliced lists.flags n 0 n flagged (omega arith)
    ∙ ap (λ (k : ℕ). take k flags) (sym (length-flags_of lists.flags n flagged))
    ∙ take-length flags in
    ap (λ (items : List (List ℕ)). view_column text (view_lists items lists.buffers (Some (flags_of (view_count part) part.flags)))) own
    ∙ ap (λ (bits : List Bool). view_column text (view_lists lists.views lists.buffers (Some bits))) read

pub as_read-whole : (column : RawLists) → AreSound column → as_read (part_of column 0 (count_of column)) ≡ as_read column
unfolding sliced_lists sliced_fixed sliced_numbers
as_read-whole (offset_column large text lists) sound =
    let n = slot_count lists in
    let part = sliced_lists lists 0 n in
    let flags = flags_of n lists.flags in
    let own : sublist lists.offsets 0 (n + 1) ≡ lists.offsets = ap (λ (k : ℕ). take k lists.offsets) (sym (offsets_are lists sound)) ∙ take-length lists.offsets in
    let read : flags_of (slot_count part) part.flags ≡ flags =
    ap (λ (k : ℕ). flags_of k part.flags) (count-part (offset_column large text lists) 0 n sound (omega arith))
    ∙ flags-sliced lists 0 n sound (omega arith)
    ∙ ap (λ (k : ℕ). take k flags) (sym (flags_are lists sound))
    ∙ take-length flags in
    ap (λ (offsets : List ℤ). offset_column large text (offset_lists offsets lists.values (Some (flags_of (slot_count part) part.flags)))) own
    ∙ ap (λ (bits : List Bool). offset_column large text (offset_lists lists.offsets lists.values (Some bits))) read
as_read-whole (view_column text lists) sound = as_read-views text lists sound.flagged
as_read-whole (fixed_column lists) sound =
    let n = fixed_count lists in
    let w = lists.width in
    let part = sliced_fixed lists 0 n in
    let flags = flags_of n lists.flags in
    let start : 0 * w ≡ 0 = omega arith in
    let own : sublist lists.values (0 * w) (n * w) ≡ lists.values =
    ap (λ (k : ℕ). sublist lists.values k (n * w)) start
    ∙ ap (λ (k : ℕ). take k lists.values) sound.whole
    ∙ take-length lists.values in
    let read : flags_of (fixed_count part) part.flags ≡ flags =
    ap (λ (k : ℕ). flags_of k part.flags) (count-part (fixed_column lists) 0 n sound (omega arith))
    ∙ fixed.flags-sliced lists 0 n sound (omega arith)
    ∙ ap (λ (k : ℕ). take k flags) (sym (fixed.flags_are lists sound))
    ∙ take-length flags in
    ap (λ (values : List ℕ). fixed_column (fixed_lists w values (Some (flags_of (fixed_count part) part.flags)))) own
    ∙ ap (λ (bits : List Bool). fixed_column (fixed_lists w lists.values (Some bits))) read
as_read-whole (number_column array) sound =
    let lists = array.lists in
    let n = number_count lists in
    let part = sliced_numbers lists 0 n in
    let flags = flags_of n lists.flags in
    let own : sublist lists.numbers 0 n ≡ lists.numbers = take-length lists.numbers in
    let read : flags_of (number_count part) part.flags ≡ flags =
    ap (λ (k : ℕ). flags_of k part.flags) (numbers.number_count-sliced lists 0 n (omega arith))
    ∙ numbers.flags-sliced lists 0 n sound.sound (omega arith)
    ∙ ap (λ (k : ℕ). take k flags) (sym (numbers.flags_are lists sound.sound))
    ∙ take-length flags in
    ap (λ (items : List ℤ). number_column (number_array array.dtype (number_lists items (Some (flags_of (number_count part) part.flags))))) own
    ∙ ap (λ (bits : List Bool). number_column (number_array array.dtype (number_lists lists.numbers (Some bits)))) read

pub as_read_slots : (column : RawLists) → slots_of (as_read column) ≡ slots_of column
unfolding view_slots
as_read_slots (offset_column large text lists) = binary.same_slots (offset_lists lists.offsets lists.values (Some (flags_of (slot_count lists) lists.flags))) lists refl refl refl
as_read_slots (view_column text lists) =
    let n = view_count lists in
    let all = contents lists.views lists.buffers in
    flagged_slots-same (Some (flags_of n lists.flags)) lists.flags all (ap (λ (k : ℕ). flags_of k lists.flags) (sym (length-map lists.views (λ (view : List ℕ). view_content view lists.buffers))))
as_read_slots (fixed_column lists) = fixed.same_slots (fixed_lists lists.width lists.values (Some (flags_of (fixed_count lists) lists.flags))) lists refl refl refl
as_read_slots (number_column array) =
    let lists = array.lists in
    numbers.same_slots (signed_bytes w64) (number_lists lists.numbers (Some (flags_of (number_count lists) lists.flags))) lists refl refl

-- an array with the data type of another, and a part of its lists
pub number_part : (old new : NumberArray ℤ) (from n : ℕ) → new.dtype ≡ old.dtype → new.lists ≡ sliced_numbers old.lists from n → number_column new ≡ number_column (sliced_array old from n)
number_part old new from n same part =
    ap (λ (dtype : ArrowDataType). number_column (number_array dtype new.lists)) same
    ∙ ap (λ (lists : NumberLists ℤ). number_column (number_array old.dtype lists)) part

pub ruleset columns = (bytes_well_formed, texts_well_formed, views_well_formed)
