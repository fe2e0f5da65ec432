-- Laws of lists whose slots are texts.
use Rattle.std.proofs.Common.{◌≡◌, ℕ, zero, suc, ◌+◌, ◌-◌, ◌<◌, ◌≤◌, ◌≤ℤ◌, ◌↔◌, ℤ, pos, true, false, List, [], ◌∷◌, length, take, drop, Option, None, refl, sym, ◌∙◌, ap, arith}
use Rattle.std.specs.Prelude.{slice_range}
use Rattle.std.proofs.Math.Seq.{drop-nil, take-nil}
use Rattle.std.proofs.lemmas.Bool.{and_parts}
use Rattle.column_base.specs.declared.errors.Cause.{Cause}
use Rattle.column_base.specs.Answers.{◌or_else◌}
use Rattle.column_base.specs.Kinds.{Slot}
use Rattle.column_base.specs.Slots.{slot_at, values_of}
use Rattle.column_base.specs.Utf8.{is_well_formed_utf8, IsWellFormedUtf8}
use Rattle.column_base.proofs.AnswersLemmas.{first_none}
use Rattle.column_base.proofs.ListsLemmas.{map-sublist}
use Rattle.column_storage.specs.Validity.{flags_fault}
use Rattle.column_storage.proofs.FlagsLemmas.{no_flags_fault}
use Rattle.column_offset.specs.Offsets.{AreSoundOffsets, nat_of, last_of, bounds_fault}
use Rattle.column_offset.specs.Text.{pieces, are_well_formed_utf8, texts_fault, cut_fault}
use Rattle.column_offset.proofs.TextLemmas.{all_where_no_fault, no_texts_fault}
use Rattle.column_binary.specs.Slots.{OffsetLists, slot_count, offset_slots, array_fault, AreSoundLists, sliced_lists}
use Rattle.column_binary.proofs.SlotsLemmas as binary
use Rattle.column_binary.proofs.SlotsLemmas.{bounded, values_of-offset_slots, offset_slots-sliced, AreSoundLists-sliced, length-offset_slots}
use Rattle.column_utf8.specs.Texts.{text_array_fault, AreSoundTexts}

-- ---- a text at a place

pub text_in : (slots : List Slot) (i : ℕ) → are_well_formed_utf8 (values_of slots) ≡ true → i < length slots → IsWellFormedUtf8 (slot_at slots i).bytes
text_in [] i all within = absurd (omega arith)
text_in (slot ∷ slots) zero all within = (and_parts (is_well_formed_utf8 slot.bytes) (are_well_formed_utf8 (values_of slots)) all).0
text_in (slot ∷ slots) (suc i) all within = text_in slots i (and_parts (is_well_formed_utf8 slot.bytes) (are_well_formed_utf8 (values_of slots)) all).1 (omega arith)

pub text_at : (lists : OffsetLists) (i : ℕ) → AreSoundTexts lists → i < slot_count lists → IsWellFormedUtf8 (slot_at (offset_slots lists) i).bytes
text_at lists i sound within =
    let count = length-offset_slots lists sound.sound in
    text_in (offset_slots lists) i sound.texts (omega arith)

-- ---- slices

texts-drop : (from : ℕ) (texts : List (List ℕ)) → are_well_formed_utf8 texts ≡ true → are_well_formed_utf8 (drop from texts) ≡ true
texts-drop zero texts all = all
texts-drop (suc from) [] all = refl
texts-drop (suc from) (text ∷ texts) all = texts-drop from texts (and_parts (is_well_formed_utf8 text) (are_well_formed_utf8 texts) all).1

pub texts-take : (n : ℕ) (texts : List (List ℕ)) → are_well_formed_utf8 texts ≡ true → are_well_formed_utf8 (take n texts) ≡ true
texts-take zero texts all = refl
texts-take (suc n) [] all = refl
texts-take (suc n) (text ∷ texts) all =
    let parts = and_parts (is_well_formed_utf8 text) (are_well_formed_utf8 texts) all in
    let rest = texts-take n texts parts.1 in
    rw (parts.0, rest) refl

pub AreSoundTexts-sliced : (lists : OffsetLists) (from n : ℕ) → AreSoundTexts lists → from + n ≤ slot_count lists → AreSoundTexts (sliced_lists lists from n)
AreSoundTexts-sliced lists from n sound within = record {
  sound = AreSoundLists-sliced lists from n sound.sound within;
  texts =
      ap (λ (slots : List Slot). are_well_formed_utf8 (values_of slots)) (offset_slots-sliced lists from n sound.sound within)
      ∙ ap are_well_formed_utf8 (map-sublist (λ (slot : Slot). slot.bytes) (offset_slots lists) from n)
      ∙ texts-take n (drop from (values_of (offset_slots lists))) (texts-drop from (values_of (offset_slots lists)) sound.texts);
}

-- ---- other flags

-- the texts stay, whatever flags stand beside them
pub AreSoundTexts-flags : (lists other : OffsetLists) → AreSoundTexts lists → AreSoundLists other → other.offsets ≡ lists.offsets → other.values ≡ lists.values → AreSoundTexts other
AreSoundTexts-flags lists other sound flagged offsets values = record {
  sound = flagged;
  texts =
      ap are_well_formed_utf8 (values_of-offset_slots other flagged)
      ∙ ap (λ (os : List ℤ). are_well_formed_utf8 (pieces os other.values)) offsets
      ∙ ap (λ (vs : List ℕ). are_well_formed_utf8 (pieces lists.offsets vs)) values
      ∙ ap are_well_formed_utf8 (sym (values_of-offset_slots lists sound.sound))
      ∙ sound.texts;
}

-- ---- lists without a fault

-- the fault of texts is that of the slots, where the offsets lie within the values
pub cut_fault_is : (lists : OffsetLists) → AreSoundLists lists → cut_fault lists.offsets lists.values ≡ texts_fault (values_of (offset_slots lists))
unfolding cut_fault
cut_fault_is lists sound =
    ap (λ (first : Option Cause). first or_else texts_fault (pieces lists.offsets lists.values)) (bounded (last_of lists.offsets) (length lists.values) sound.within)
    ∙ ap texts_fault (sym (values_of-offset_slots lists sound))

pub texts_where_none : (lists : OffsetLists) → AreSoundLists lists → texts_fault (values_of (offset_slots lists)) ≡ None → AreSoundTexts lists
texts_where_none lists sound none = record { sound = sound; texts = all_where_no_fault (values_of (offset_slots lists)) none }

bounds_where_fine : (lists : OffsetLists) → cut_fault lists.offsets lists.values ≡ None → bounds_fault lists.offsets (length lists.values) ≡ None
unfolding cut_fault
bounds_where_fine lists none = (first_none (bounds_fault lists.offsets (length lists.values)) (texts_fault (pieces lists.offsets lists.values)) none).0

sound_where_fine : (lists : OffsetLists) → AreSoundOffsets lists.offsets → text_array_fault lists ≡ None → AreSoundTexts lists
sound_where_fine lists sound none =
    let flags = flags_fault (slot_count lists) lists.flags in
    let parts = first_none (cut_fault lists.offsets lists.values) flags none in
    let bytes : array_fault lists ≡ None = ap (λ (first : Option Cause). first or_else flags) (bounds_where_fine lists parts.0) ∙ parts.1 in
    let all = binary.sound_where_fine lists sound bytes in
    texts_where_none lists all (sym (cut_fault_is lists all) ∙ parts.0)

-- the faults of texts and of flags are all that there are
pub fine : (lists : OffsetLists) → AreSoundOffsets lists.offsets → cut_fault lists.offsets lists.values ≡ None → flags_fault (slot_count lists) lists.flags ≡ None → (text_array_fault lists ≡ None) × AreSoundTexts lists
fine lists sound texts flags =
    let none : text_array_fault lists ≡ None = ap (λ (first : Option Cause). first or_else flags_fault (slot_count lists) lists.flags) texts ∙ flags in
    (none, sound_where_fine lists sound none)

fine_where_sound : (lists : OffsetLists) → AreSoundTexts lists → text_array_fault lists ≡ None
fine_where_sound lists sound =
    ap (λ (first : Option Cause). first or_else flags_fault (slot_count lists) lists.flags) (cut_fault_is lists sound.sound ∙ no_texts_fault (values_of (offset_slots lists)) sound.texts)
    ∙ (no_flags_fault (slot_count lists) lists.flags).1 sound.sound.flagged

pub no_fault_is_sound : (lists : OffsetLists) → AreSoundOffsets lists.offsets → (text_array_fault lists ≡ None) ↔ AreSoundTexts lists
no_fault_is_sound lists sound = (sound_where_fine lists sound, fine_where_sound lists)

-- ---- slots without bytes

no_bytes : (offsets : List ℤ) → are_well_formed_utf8 (pieces offsets []) ≡ true
no_bytes [] = refl
no_bytes (start ∷ []) = refl
no_bytes (start ∷ end ∷ offsets) =
    let none : slice_range {X = ℕ} [] (nat_of start) (nat_of end) ≡ [] = ap (take (nat_of end - nat_of start)) (drop-nil (nat_of start)) ∙ take-nil (nat_of end - nat_of start) in
    rw none (no_bytes (end ∷ offsets))

pub empty_texts : (lists : OffsetLists) → AreSoundLists lists → lists.values ≡ [] → AreSoundTexts lists
empty_texts lists sound none = record {
  sound = sound;
  texts =
      ap are_well_formed_utf8 (values_of-offset_slots lists sound)
      ∙ ap (λ (values : List ℕ). are_well_formed_utf8 (pieces lists.offsets values)) none
      ∙ no_bytes lists.offsets;
}

pub ruleset places = (text_at)

pub ruleset slices = (AreSoundTexts-sliced)

pub ruleset flags = (AreSoundTexts-flags)

pub ruleset texts = (texts_where_none)
