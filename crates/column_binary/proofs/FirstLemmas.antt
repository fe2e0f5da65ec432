-- Laws of the first slots, of lists that are frozen, and of lists without a fault.
use Rattle.std.proofs.Common.{◌≡◌, ℕ, ◌+◌, ◌-◌, ◌<◌, ◌≤◌, ◌≤ℤ◌, ℤ, pos, Bool, false, List, [], ◌∷◌, ◌++◌, length, take, drop, Option, Some, None, refl, sym, ◌∙◌, ap, subst, arith}
use Rattle.std.specs.Prelude.{min, option_map, MatchOption, int_lt}
use Rattle.std.proofs.Math.Seq.{take-length, take-append_seam}
use Rattle.std.proofs.lemmas.List.{length-append, length-take-le, take-append-drop}
use Rattle.std.proofs.lemmas.Int.{ints}
use Rattle.column_base.specs.declared.errors.Cause.{Cause}
use Rattle.column_base.specs.declared.errors.Cause.TheVariants.{OffsetsExceedValues, OffsetsNotFull}
use Rattle.column_base.specs.Answers.{◌or_else◌}
use Rattle.column_base.proofs.AnswersLemmas.{cause_none, first_none}
use Rattle.column_storage.specs.Slots.{flagged_slots}
use Rattle.column_storage.specs.Validity.{AreFlagsOf, flags_fault}
use Rattle.column_storage.proofs.FlagsLemmas.{no_flags_fault}
use Rattle.column_offset.specs.Offsets.{AreSoundOffsets, last_of, offset_at, nat_of, bounds_fault}
use Rattle.column_offset.specs.Text.{pieces}
use Rattle.column_offset.proofs.OffsetsLemmas.{place_below_last, places_in_order, sound_sublist, offset_at-take, pos-nat_of, nat_of_order, from_zero}
use Rattle.column_binary.specs.Slots.{OffsetLists, offset_lists, slot_count, offset_slots, AreSoundLists}
use Rattle.column_binary.specs.Rows.{AreFullLists, first_slots, used_lists, frozen_lists, full_fault, builder_fault}
use Rattle.column_storage.proofs.GrowingFlagsLemmas.{are_flags-first, are_flags-frozen, flagged_slots-first, flagged_slots-frozen}
use Rattle.column_binary.proofs.RowsLemmas.{pieces-front}
use Rattle.column_binary.proofs.SlotsLemmas.{flagged, length-pieces, pieces-sublist}

last_of-take : (ns : List ℤ) (n : ℕ) → n < length ns → last_of (take (n + 1) ns) ≡ offset_at ns n
last_of-take ns n within =
    let size : length (take (n + 1) ns) ≡ n + 1 = length-take-le (n + 1) ns (omega arith) in
    let place : length (take (n + 1) ns) - 1 ≡ n = omega arith in
    ap (offset_at (take (n + 1) ns)) place ∙ offset_at-take ns (n + 1) n (omega arith)

pub full_first : (lists : OffsetLists) (n : ℕ) → AreFullLists lists → n ≤ slot_count lists → AreFullLists (first_slots lists n)
unfolding first_slots
full_first lists n full within =
    let sound = full.sound in
    let offsets = lists.offsets in
    let some = sound.sound.not_empty in
    let inside : n < length offsets = omega arith in
    let size : length (take (n + 1) offsets) ≡ n + 1 = length-take-le (n + 1) offsets (omega arith) in
    let order = place_below_last offsets n sound.sound inside in
    let end : nat_of (last_of offsets) ≡ length lists.values = ap nat_of full.full in
    let bytes : length (take (nat_of (offset_at offsets n)) lists.values) ≡ nat_of (offset_at offsets n) = length-take-le (nat_of (offset_at offsets n)) lists.values (omega arith) in
    let slots : n ≡ length (take (n + 1) offsets) - 1 = omega arith in
    let last : last_of (take (n + 1) offsets) ≡ pos (length (take (nat_of (offset_at offsets n)) lists.values)) =
    last_of-take offsets n inside ∙ sym (pos-nat_of (offset_at offsets n) (from_zero sound.sound n inside)) ∙ ap pos (sym bytes) in
    record {
      sound = record {
        sound = sound_sublist offsets 0 (n + 1) sound.sound (omega arith) (omega arith);
        within = rw last (omega (arith, ints));
        flagged = subst (λ (m : ℕ). AreFlagsOf m (option_map (take n) lists.flags)) slots (are_flags-first lists.flags n (slot_count lists) within sound.flagged);
      };
      full = last;
    }

pub slots-first : (lists : OffsetLists) (n : ℕ) → AreFullLists lists → n ≤ slot_count lists → offset_slots (first_slots lists n) ≡ take n (offset_slots lists)
unfolding first_slots offset_slots
slots-first lists n full within =
    let sound = full.sound in
    let offsets = lists.offsets in
    let some = sound.sound.not_empty in
    let inside : n < length offsets = omega arith in
    let front = take (n + 1) offsets in
    let place = nat_of (offset_at offsets n) in
    let size : length front ≡ n + 1 = length-take-le (n + 1) offsets (omega arith) in
    let order = place_below_last offsets n sound.sound inside in
    let end : nat_of (last_of offsets) ≡ length lists.values = ap nat_of full.full in
    let bytes : length (take place lists.values) ≡ place = length-take-le place lists.values (omega arith) in
    let same : pieces front (take place lists.values) ≡ pieces front lists.values =
    sym (pieces-front front (take place lists.values) (drop place lists.values) (λ i below.
    let here : nat_of (offset_at offsets i) ≤ nat_of (offset_at offsets n) = places_in_order offsets i n sound.sound (omega arith) inside in
    rw (offset_at-take offsets (n + 1) i (omega arith)) (omega arith)))
    ∙ ap (pieces front) (take-append-drop place lists.values) in
    let count = length-pieces offsets lists.values in
    ap (flagged_slots (option_map (take n) lists.flags)) (same ∙ pieces-sublist offsets lists.values 0 n)
    ∙ flagged_slots-first lists.flags (pieces offsets lists.values) n (omega arith)

-- without slots the first ones are all
first_flags : (flags : Option (List Bool)) → AreFlagsOf 0 flags → option_map (take 0) flags ≡ flags
first_flags None all = refl
first_flags (Some []) all = refl
first_flags (Some (b ∷ bits)) all = absurd (omega arith)

take_all : {X : Type 0} (n : ℕ) (xs : List X) → n ≡ length xs → take n xs ≡ xs
take_all n xs e = ap (λ m. take m xs) e ∙ take-length xs

pub no_slots_first : (lists : OffsetLists) (n : ℕ) → AreFullLists lists → slot_count lists ≡ 0 → n ≡ 0 → lists ≡ first_slots lists n
unfolding first_slots
no_slots_first lists n full none e =
    let sound = full.sound in
    let some = sound.sound.not_empty in
    let one : 1 ≡ length lists.offsets = omega arith in
    let place : 0 ≡ length lists.offsets - 1 = omega arith in
    let at : nat_of (offset_at lists.offsets 0) ≡ length lists.values = ap (λ i. nat_of (offset_at lists.offsets i)) place ∙ ap nat_of full.full in
    let flags = subst (λ (k : ℕ). AreFlagsOf k lists.flags) none sound.flagged in
    rw e (sym (
    ap (λ (offsets : List ℤ). offset_lists offsets (take (nat_of (offset_at lists.offsets 0)) lists.values) (option_map (take 0) lists.flags)) (take_all 1 lists.offsets one)
    ∙ ap (λ (values : List ℕ). offset_lists lists.offsets values (option_map (take 0) lists.flags)) (take_all _ lists.values at)
    ∙ ap (offset_lists lists.offsets lists.values) (first_flags lists.flags flags)))

-- ---- freezing

pub slots-frozen : (lists : OffsetLists) → AreSoundLists lists → offset_slots (frozen_lists lists) ≡ offset_slots lists
unfolding offset_slots
slots-frozen lists sound = flagged_slots-frozen lists.flags (pieces lists.offsets lists.values) (flagged lists sound)

pub sound-frozen : (lists : OffsetLists) → AreFullLists lists → AreSoundLists (frozen_lists lists)
sound-frozen lists full = record {
  sound = full.sound.sound;
  within = full.sound.within;
  flagged = are_flags-frozen lists.flags (slot_count lists) full.sound.flagged;
}

-- ---- the bytes that are used

at_most : (z : ℤ) (n : ℕ) → z ≡ pos n → z ≤ℤ pos n
at_most z n e = omega (arith, ints)

module _ (lists : OffsetLists) (sound : AreSoundLists lists) where
  used_within : nat_of (last_of lists.offsets) ≤ length lists.values
  used_within = nat_of_order (last_of lists.offsets) (pos (length lists.values)) sound.within

  pub full-used : AreFullLists (used_lists lists)
  full-used =
      let some = sound.sound.not_empty in
      let end = nat_of (last_of lists.offsets) in
      let bytes : length (take end lists.values) ≡ end = length-take-le end lists.values used_within in
      let last : last_of lists.offsets ≡ pos (length (take end lists.values)) =
      sym (pos-nat_of (last_of lists.offsets) (from_zero sound.sound (length lists.offsets - 1) (omega arith))) ∙ ap pos (sym bytes) in
      record {
        sound = record { sound = sound.sound; within = at_most (last_of lists.offsets) (length (take end lists.values)) last; flagged = sound.flagged };
        full = last;
      }

  pub slots-used : offset_slots (used_lists lists) ≡ offset_slots lists
  unfolding offset_slots
  slots-used =
      let end = nat_of (last_of lists.offsets) in
      let bytes : length (take end lists.values) ≡ end = length-take-le end lists.values used_within in
      ap (flagged_slots lists.flags) (
      sym (pieces-front lists.offsets (take end lists.values) (drop end lists.values) (λ i below. let order = place_below_last lists.offsets i sound.sound below in omega arith))
      ∙ ap (pieces lists.offsets) (take-append-drop end lists.values))

-- ---- without the last

pub front_of : {X : Type 0} (f : X → ℤ) (ns new : List ℤ) (r : Option X) → MatchOption r ((length ns ≡ 1) × (new ≡ ns)) (λ last. (1 < length ns) × (ns ≡ new ++ f last ∷ [])) → 1 < length ns → new ≡ take (length ns - 1) ns
front_of f ns new None given some = absurd (omega (arith, given.0))
front_of f ns new (Some last) given some =
    let size = length-append new (f last ∷ []) in
    let all : length ns ≡ length (new ++ f last ∷ []) = ap length given.1 in
    let is : length ns - 1 ≡ length new = omega arith in
    sym (ap (take (length ns - 1)) given.1 ∙ ap (λ (m : ℕ). take m (new ++ f last ∷ [])) is ∙ take-append_seam new (f last ∷ []))

flags_front : (flags : Option (List Bool)) (n : ℕ) → AreFlagsOf n flags → option_map (λ bits. take (length bits - 1) bits) flags ≡ option_map (take (n - 1)) flags
flags_front None n all = refl
flags_front (Some bits) n all = ap (λ (m : ℕ). Some (take (m - 1) bits)) all

pub last_dropped : (lists : OffsetLists) (new : List ℤ) (values : List ℕ) (flags : Option (List Bool)) (start count : ℕ) → AreFullLists lists → 0 < slot_count lists → new ≡ take (length lists.offsets - 1) lists.offsets → count + 1 ≡ length lists.offsets → start ≡ nat_of (offset_at lists.offsets (count - 1))
    → values ≡ take start lists.values → flags ≡ option_map (λ bits. take (length bits - 1) bits) lists.flags
    → offset_lists new values flags ≡ first_slots lists (slot_count lists - 1)
unfolding first_slots
last_dropped lists new values flags start count full some offsets all at bytes bits =
    let n : slot_count lists - 1 + 1 ≡ length lists.offsets - 1 = omega arith in
    let same : count ≡ slot_count lists = omega arith in
    let place : start ≡ nat_of (offset_at lists.offsets (slot_count lists - 1)) = at ∙ ap (λ (m : ℕ). nat_of (offset_at lists.offsets (m - 1))) same in
    let fewer : flags ≡ option_map (take (slot_count lists - 1)) lists.flags = bits ∙ flags_front lists.flags (slot_count lists) full.sound.flagged in
    rw (n, offsets, bytes, fewer, place) refl

-- ---- lists without a fault

no_more : (last : ℤ) (n : ℕ) → int_lt (pos n) last ≡ false → int_lt last (pos n) ≡ false → last ≡ pos n
no_more last n most least = grind (arith, ints)

pub full_where_fine : (lists : OffsetLists) (type : Option Cause) → AreSoundOffsets lists.offsets → builder_fault lists type ≡ None → AreFullLists lists
full_where_fine lists type sound none =
    let bounds = bounds_fault lists.offsets (length lists.values) in
    let full = full_fault lists.offsets (length lists.values) in
    let last = first_none (bounds or_else full or_else type) (flags_fault (slot_count lists) lists.flags) none in
    let third = first_none (bounds or_else full) type last.0 in
    let second = first_none bounds full third.0 in
    let is = no_more (last_of lists.offsets) (length lists.values) (cause_none _ OffsetsExceedValues second.0) (cause_none _ OffsetsNotFull second.1) in
    record {
      sound = record {
        sound = sound;
        within = rw is (omega (arith, ints));
        flagged = (no_flags_fault (slot_count lists) lists.flags).0 last.1;
      };
      full = is;
    }

pub ruleset fine = (full_where_fine)

pub ruleset firsts = (full_first, no_slots_first)

pub ruleset freezing = (sound-frozen)

-- ---- room

pub room_of_less : (n a b : ℕ) → min (n + a) (n + b) ≡ n + min a b
room_of_less n a b = omega arith

pub ruleset room = (room_of_less)
