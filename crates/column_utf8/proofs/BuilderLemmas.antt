-- Laws of builders whose slots are texts.
use Rattle.std.proofs.Common.{◌≡◌, ℕ, ◌+◌, ◌-◌, ◌<◌, ◌≤◌, ℤ, Bool, true, false, List, [], ◌∷◌, ◌++◌, length, Option, Some, None, refl, sym, ◌∙◌, ap, arith}
use Rattle.std.proofs.lemmas.List.{map-append}
use Rattle.std.proofs.lemmas.Bool.{and_parts}
use Rattle.std.proofs.lemmas.Bool.Decides.{nat_tests}
use Rattle.std.specs.Str.{IsUtf8}
use Rattle.std.specs.Prelude.{◌==◌, if◌then◌else◌}
use Rattle.column_base.specs.declared.errors.Cause.{Cause}
use Rattle.column_base.specs.Answers.{◌or_else◌}
use Rattle.column_base.specs.Kinds.{Slot}
use Rattle.column_base.specs.Slots.{slot_at, row_of, values_of}
use Rattle.column_base.specs.Utf8.{is_well_formed_utf8, IsWellFormedUtf8}
use Rattle.column_base.proofs.ListsLemmas.{map-sublist}
use Rattle.column_base.proofs.Utf8Lemmas.{well_formed-IsUtf8}
use Rattle.column_base.proofs.AnswersLemmas.{first_none}
use Rattle.column_offset.specs.Offsets.{AreSoundOffsets, bounds_fault}
use Rattle.column_offset.specs.Text.{pieces, are_well_formed_utf8, texts_fault}
use Rattle.column_storage.specs.Slots.{flagged_slots}
use Rattle.column_storage.specs.Validity.{AreFlagsOf, flags_fault}
use Rattle.column_storage.proofs.FlagsLemmas.{no_flags_fault}
use Rattle.column_offset.proofs.TextLemmas.{all_where_no_fault}
use Rattle.column_binary.specs.Slots.{OffsetLists, offset_lists, slot_count, offset_slots, AreSoundLists}
use Rattle.column_binary.specs.Rows.{AreFullLists, no_slots, slot_of, pushed_row, first_slots, last_row, joined_lists, frozen_lists, used_lists, full_fault, builder_fault}
use Rattle.column_binary.proofs.SlotsLemmas.{length-offset_slots, values_of-offset_slots}
use Rattle.column_binary.proofs.RowsLemmas.{slots-row}
use Rattle.column_binary.proofs.FirstLemmas.{slots-first, slots-frozen, slots-used, full_where_fine}
use Rattle.column_binary.proofs.JoinLemmas.{slots-joined}
use Rattle.column_utf8.specs.Texts.{AreSoundTexts, AreTexts}
use Rattle.column_utf8.proofs.TextsLemmas.{texts-take, text_in}

texts-append : (texts others : List (List ℕ)) → are_well_formed_utf8 texts ≡ true → are_well_formed_utf8 others ≡ true → are_well_formed_utf8 (texts ++ others) ≡ true
texts-append [] others all rest = rest
texts-append (text ∷ texts) others all rest =
    let parts = and_parts (is_well_formed_utf8 text) (are_well_formed_utf8 texts) all in
    let after = texts-append texts others parts.1 rest in
    rw (parts.0, after) refl

slots_append : (slots others : List Slot) → are_well_formed_utf8 (values_of slots) ≡ true → are_well_formed_utf8 (values_of others) ≡ true → are_well_formed_utf8 (values_of (slots ++ others)) ≡ true
slots_append slots others all rest = ap are_well_formed_utf8 (map-append (λ (slot : Slot). slot.bytes) slots others) ∙ texts-append (values_of slots) (values_of others) all rest

one_text : (bytes : List ℕ) → IsWellFormedUtf8 bytes → are_well_formed_utf8 (bytes ∷ []) ≡ true
one_text bytes text = rw text refl

-- ---- slots that come and go

pub texts_value : (lists : OffsetLists) (bytes : List ℕ) → AreFullLists lists → AreTexts lists → IsUtf8 bytes → AreTexts (pushed_row lists (Some bytes))
texts_value lists bytes full texts text =
    ap (λ (slots : List Slot). are_well_formed_utf8 (values_of slots)) (slots-row lists (Some bytes) full)
    ∙ slots_append (offset_slots lists) (slot_of (Some bytes) ∷ []) texts (one_text bytes ((well_formed-IsUtf8 bytes).1 text))

pub texts_null : (lists : OffsetLists) → AreFullLists lists → AreTexts lists → AreTexts (pushed_row lists None)
texts_null lists full texts =
    ap (λ (slots : List Slot). are_well_formed_utf8 (values_of slots)) (slots-row lists None full)
    ∙ slots_append (offset_slots lists) (slot_of None ∷ []) texts refl

pub texts_first : (lists : OffsetLists) (n : ℕ) → AreFullLists lists → AreTexts lists → n ≤ slot_count lists → AreTexts (first_slots lists n)
texts_first lists n full texts within =
    ap (λ (slots : List Slot). are_well_formed_utf8 (values_of slots)) (slots-first lists n full within)
    ∙ ap are_well_formed_utf8 (map-sublist (λ (slot : Slot). slot.bytes) (offset_slots lists) 0 n)
    ∙ texts-take n (values_of (offset_slots lists)) texts

pub texts_joined : (lists others : OffsetLists) → AreFullLists lists → AreFullLists others → AreTexts lists → AreTexts others → AreTexts (joined_lists lists others)
texts_joined lists others full rest texts more =
    ap (λ (slots : List Slot). are_well_formed_utf8 (values_of slots)) (slots-joined lists others full rest)
    ∙ slots_append (offset_slots lists) (offset_slots others) texts more

pub texts_none : AreTexts no_slots
unfolding offset_slots flagged_slots
texts_none = refl

-- ---- the same texts

-- the texts stay, whatever flags stand beside them
pub texts_same : (lists other : OffsetLists) → AreFullLists lists → AreTexts lists → AreFullLists other → other.offsets ≡ lists.offsets → other.values ≡ lists.values → AreTexts other
texts_same lists other full texts rest offsets values =
    ap are_well_formed_utf8 (values_of-offset_slots other rest.sound)
    ∙ ap (λ (os : List ℤ). are_well_formed_utf8 (pieces os other.values)) offsets
    ∙ ap (λ (vs : List ℕ). are_well_formed_utf8 (pieces lists.offsets vs)) values
    ∙ ap are_well_formed_utf8 (sym (values_of-offset_slots lists full.sound))
    ∙ texts

pub texts_flags : (lists : OffsetLists) (flags : Option (List Bool)) → AreFullLists lists → AreTexts lists → AreFlagsOf (slot_count lists) flags → AreTexts (offset_lists lists.offsets lists.values flags)
texts_flags lists flags full texts given =
    texts_same lists (offset_lists lists.offsets lists.values flags) full texts (record {
      sound = record { sound = full.sound.sound; within = full.sound.within; flagged = given };
      full = full.full;
    }) refl refl

pub texts_frozen : (lists array : OffsetLists) → AreFullLists lists → AreTexts lists → AreSoundLists array → array ≡ frozen_lists lists → AreSoundTexts array
texts_frozen lists array full texts sound is = record {
  sound = sound;
  texts = ap (λ (l : OffsetLists). are_well_formed_utf8 (values_of (offset_slots l))) is
      ∙ ap (λ (slots : List Slot). are_well_formed_utf8 (values_of slots)) (slots-frozen lists full.sound) ∙ texts;
}

pub texts_used : (lists : OffsetLists) → AreSoundTexts lists → AreTexts (used_lists lists)
texts_used lists sound = ap (λ (slots : List Slot). are_well_formed_utf8 (values_of slots)) (slots-used lists sound.sound) ∙ sound.texts

-- without flags, frozen lists are the same
pub texts_values : (lists array : OffsetLists) → AreFullLists lists → AreTexts lists → AreSoundLists array → array ≡ lists → AreSoundTexts array
texts_values lists array full texts sound is = record { sound = sound; texts = ap (λ (l : OffsetLists). are_well_formed_utf8 (values_of (offset_slots l))) is ∙ texts }

-- lists without a fault of texts
pub texts_fine : (lists : OffsetLists) → AreFullLists lists → texts_fault (pieces lists.offsets lists.values) ≡ None → AreTexts lists
texts_fine lists full none =
    ap are_well_formed_utf8 (values_of-offset_slots lists full.sound)
    ∙ all_where_no_fault (pieces lists.offsets lists.values) none

-- lists without a fault, whose bytes and flags were looked at apart
pub full_texts : (lists : OffsetLists) (values : List ℕ) (count : ℕ) (flags : Option (List Bool)) → AreSoundOffsets lists.offsets → values ≡ lists.values
    → (bounds_fault lists.offsets (length values) or_else full_fault lists.offsets (length values) or_else texts_fault (pieces lists.offsets values)) ≡ None
    → count + 1 ≡ length lists.offsets → flags ≡ lists.flags → AreFlagsOf count flags → AreFullLists lists × AreTexts lists
full_texts lists values count flags sound same none size given flagged =
    let all = rw same at none in
    let bounds = bounds_fault lists.offsets (length lists.values) in
    let full = full_fault lists.offsets (length lists.values) in
    let parts = first_none (bounds or_else full) (texts_fault (pieces lists.offsets lists.values)) all in
    let slots : count ≡ slot_count lists = omega arith in
    let flagged : AreFlagsOf (slot_count lists) lists.flags = rw (← slots, ← given) flagged in
    let none : builder_fault lists None ≡ None =
    ap (λ (first : Option Cause). first or_else None or_else flags_fault (slot_count lists) lists.flags) parts.0
    ∙ (no_flags_fault (slot_count lists) lists.flags).1 flagged in
    let lists_full = full_where_fine lists None sound none in
    (lists_full, texts_fine lists lists_full parts.1)

-- ---- one text

pub text_of : (lists : OffsetLists) (i : ℕ) → AreFullLists lists → AreTexts lists → i < slot_count lists → IsWellFormedUtf8 (slot_at (offset_slots lists) i).bytes
text_of lists i full texts within =
    let count = length-offset_slots lists full.sound in
    text_in (offset_slots lists) i texts (omega arith)

row_bytes : (valid : Bool) (own bytes : List ℕ) → Some bytes ≡ (if valid then Some own else None) → bytes ≡ own
row_bytes true own bytes e = cc
row_bytes false own bytes e = absurd (cc)

last_bytes : (lists : OffsetLists) (bytes : List ℕ) (none : Bool) → none ≡ (slot_count lists == 0) → Some bytes ≡ (if none then None else row_of (slot_at (offset_slots lists) (slot_count lists - 1))) → (0 < slot_count lists) × (bytes ≡ (slot_at (offset_slots lists) (slot_count lists - 1)).bytes)
last_bytes lists bytes true none e = absurd (cc)
last_bytes lists bytes false none e = (grind (arith, nat_tests), row_bytes (slot_at (offset_slots lists) (slot_count lists - 1)).valid (slot_at (offset_slots lists) (slot_count lists - 1)).bytes bytes e)

pub last_text : (lists : OffsetLists) (bytes : List ℕ) → AreFullLists lists → AreTexts lists → Some bytes ≡ last_row lists → IsUtf8 bytes
last_text lists bytes full texts e =
    let last = last_bytes lists bytes (slot_count lists == 0) refl e in
    let some : 0 < slot_count lists = last.0 in
    let text = text_of lists (slot_count lists - 1) full texts (omega arith) in
    (well_formed-IsUtf8 bytes).0 (ap is_well_formed_utf8 last.1 ∙ text)

pub ruleset builders = (texts_value, texts_null, texts_first, texts_joined, texts_none, texts_flags, texts_frozen, texts_used, texts_values, texts_fine, text_of, last_text)
