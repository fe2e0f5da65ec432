-- Laws of lists that take rows, and of lists that are frozen.
use Rattle.std.proofs.Common.{◌≡◌, ℕ, zero, suc, ◌+◌, ◌<◌, ◌≤◌, Bool, true, false, List, [], ◌∷◌, ◌++◌, map, take, replicate, Option, Some, None, refl, sym, ◌∙◌, ap, subst, arith}
use Rattle.std.specs.Prelude.{min, option_map}
use Rattle.std.proofs.lemmas.List.{length-append, length-map, length-take-le, map-append, append-nil, append_assoc}
use Rattle.column_base.specs.Kinds.{Slot}
use Rattle.column_base.specs.Pushes.{grown, growth_fault}
use Rattle.column_storage.specs.Bits.{flags_of, pushed_flag, joined_flags, constant_flags}
use Rattle.column_storage.specs.Slots.{flagged_slots}
use Rattle.column_storage.specs.Validity.{AreFlagsOf}
use Rattle.column_storage.proofs.GrowingFlagsLemmas.{are_flags-pushed, joined-nulls, flagged_slots-pushed, are_flags-first, flagged_slots-first, are_flags-frozen, flagged_slots-frozen}
use Rattle.column_boolean.specs.Slots.{BooleanLists, boolean_lists, boolean_count, boolean_slots, byte_of, AreSoundBooleans}
use Rattle.column_boolean.specs.Rows.{pushed_row, row_growth, slot_of, first_booleans, frozen_lists}
use Rattle.column_boolean.proofs.SlotsLemmas.{flagged}

-- lists with one slot more
one_more : BooleanLists → Bool → Bool → BooleanLists
one_more lists value bit = boolean_lists (lists.values ++ value ∷ []) (pushed_flag (boolean_count lists) lists.flags bit)

sound_more : (lists : BooleanLists) (value bit : Bool) → AreSoundBooleans lists → AreSoundBooleans (one_more lists value bit)
unfolding one_more
sound_more lists value bit sound = record {
  flagged = subst (λ (n : ℕ). AreFlagsOf n (pushed_flag (boolean_count lists) lists.flags bit)) (sym (length-append lists.values (value ∷ []))) (are_flags-pushed (boolean_count lists) lists.flags bit sound.flagged);
}

slots_more : (lists : BooleanLists) (value bit : Bool) → AreSoundBooleans lists → boolean_slots (one_more lists value bit) ≡ boolean_slots lists ++ record { valid = bit; bytes = byte_of value } ∷ []
unfolding one_more boolean_slots
slots_more lists value bit sound =
    ap (flagged_slots (pushed_flag (boolean_count lists) lists.flags bit)) (map-append byte_of lists.values (value ∷ []))
    ∙ ap (λ (n : ℕ). flagged_slots (pushed_flag n lists.flags bit) (map byte_of lists.values ++ byte_of value ∷ [])) (sym (length-map lists.values byte_of))
    ∙ flagged_slots-pushed lists.flags (map byte_of lists.values) bit (byte_of value) (flagged lists sound)

pub sound_row : (lists : BooleanLists) (row : Option Bool) → AreSoundBooleans lists → AreSoundBooleans (pushed_row lists row)
unfolding one_more
sound_row lists None sound = sound_more lists false false sound
sound_row lists (Some value) sound = sound_more lists value true sound

pub slots-row : (lists : BooleanLists) (row : Option Bool) → AreSoundBooleans lists → boolean_slots (pushed_row lists row) ≡ boolean_slots lists ++ slot_of row ∷ []
unfolding one_more
slots-row lists None sound = slots_more lists false false sound
slots-row lists (Some value) sound = slots_more lists value true sound

pub slots_rows : (lists : BooleanLists) (rows : List (Option Bool)) → AreSoundBooleans lists → boolean_slots (grown row_growth lists rows) ≡ boolean_slots lists ++ map slot_of rows
slots_rows lists [] sound = sym (append-nil (boolean_slots lists))
slots_rows lists (row ∷ rows) sound =
    slots_rows (pushed_row lists row) rows (sound_row lists row sound)
    ∙ ap (λ (slots : List Slot). slots ++ map slot_of rows) (slots-row lists row sound)
    ∙ append_assoc (boolean_slots lists) (slot_of row ∷ []) (map slot_of rows)

pub sound_rows : (lists : BooleanLists) (rows : List (Option Bool)) → AreSoundBooleans lists → AreSoundBooleans (grown row_growth lists rows)
sound_rows lists [] sound = sound
sound_rows lists (row ∷ rows) sound = sound_rows (pushed_row lists row) rows (sound_row lists row sound)

-- no row is refused
pub none_refused : (lists : BooleanLists) (rows : List (Option Bool)) → growth_fault row_growth lists rows ≡ None
none_refused lists [] = refl
none_refused lists (row ∷ rows) = none_refused (pushed_row lists row) rows

-- ---- the first slots

pub sound_first : (lists : BooleanLists) (n : ℕ) → AreSoundBooleans lists → n ≤ boolean_count lists → AreSoundBooleans (first_booleans lists n)
unfolding first_booleans
sound_first lists n sound within = record {
  flagged = subst (λ (m : ℕ). AreFlagsOf m (option_map (take n) lists.flags)) (sym (length-take-le n lists.values within)) (are_flags-first lists.flags n (boolean_count lists) within sound.flagged);
}

pub slots-first : (lists : BooleanLists) (n : ℕ) → n ≤ boolean_count lists → boolean_slots (first_booleans lists n) ≡ take n (boolean_slots lists)
unfolding first_booleans boolean_slots
slots-first lists n within =
    let count = length-map lists.values byte_of in
    ap (flagged_slots (option_map (take n) lists.flags)) (map-take lists.values n)
    ∙ flagged_slots-first lists.flags (map byte_of lists.values) n (omega arith)
  where
    map-take : (values : List Bool) (n : ℕ) → map byte_of (take n values) ≡ take n (map byte_of values)
    map-take values zero = refl
    map-take [] (suc n) = refl
    map-take (value ∷ values) (suc n) = ap (λ rest. byte_of value ∷ rest) (map-take values n)

-- ---- freezing

pub slots-frozen : (lists : BooleanLists) → AreSoundBooleans lists → boolean_slots (frozen_lists lists) ≡ boolean_slots lists
unfolding boolean_slots
slots-frozen lists sound = flagged_slots-frozen lists.flags (map byte_of lists.values) (flagged lists sound)

pub sound-frozen : (lists : BooleanLists) → AreSoundBooleans lists → AreSoundBooleans (frozen_lists lists)
sound-frozen lists sound = record { flagged = are_flags-frozen lists.flags (boolean_count lists) sound.flagged }

-- ---- slots of one row

same_flags : (flags : Option (List Bool)) → option_map (λ bits. bits ++ []) flags ≡ flags
same_flags None = refl
same_flags (Some bits) = ap Some (append-nil bits)

one_more_of : {X : Type 0} (n : ℕ) (xs : List X) (x : X) → (xs ++ x ∷ []) ++ replicate n x ≡ xs ++ replicate (suc n) x
one_more_of n xs x = append_assoc xs (x ∷ []) (replicate n x)

more_flags : (n count : ℕ) (flags : Option (List Bool)) → option_map (λ bits. bits ++ replicate (suc n) true) flags ≡ option_map (λ bits. bits ++ replicate n true) (pushed_flag count flags true)
more_flags n count None = refl
more_flags n count (Some bits) = ap Some (sym (one_more_of n bits true))

pub grown_valid : (n : ℕ) (lists : BooleanLists) (value : Bool) → boolean_lists (lists.values ++ replicate n value) (option_map (λ bits. bits ++ replicate n true) lists.flags) ≡ grown row_growth lists (replicate n (Some value))
grown_valid zero lists value =
    ap (λ (values : List Bool). boolean_lists values (option_map (λ bits. bits ++ []) lists.flags)) (append-nil lists.values)
    ∙ ap (boolean_lists lists.values) (same_flags lists.flags)
grown_valid (suc n) lists value =
    ap (λ (values : List Bool). boolean_lists values (option_map (λ bits. bits ++ replicate (suc n) true) lists.flags)) (sym (one_more_of n lists.values value))
    ∙ ap (boolean_lists ((lists.values ++ value ∷ []) ++ replicate n value)) (more_flags n (boolean_count lists) lists.flags)
    ∙ grown_valid n (pushed_row lists (Some value)) value

null_first : (n : ℕ) (flags : Option (List Bool)) (count : ℕ) → pushed_flag count flags false ≡ Some (flags_of count flags ++ false ∷ [])
null_first n None count = refl
null_first n (Some bits) count = refl

-- flags that are there take those of nulls
grown_nulls : (n : ℕ) (values bits : List Bool) → boolean_lists (values ++ replicate n false) (Some (bits ++ replicate n false)) ≡ grown row_growth (boolean_lists values (Some bits)) (replicate n None)
grown_nulls zero values bits = ap (λ (vs : List Bool). boolean_lists vs (Some (bits ++ []))) (append-nil values) ∙ ap (λ (bs : List Bool). boolean_lists values (Some bs)) (append-nil bits)
grown_nulls (suc n) values bits =
    ap (λ (vs : List Bool). boolean_lists vs (Some (bits ++ replicate (suc n) false))) (sym (one_more_of n values false))
    ∙ ap (λ (bs : List Bool). boolean_lists ((values ++ false ∷ []) ++ replicate n false) (Some bs)) (sym (one_more_of n bits false))
    ∙ grown_nulls n (values ++ false ∷ []) (bits ++ false ∷ [])

grown_some : (n : ℕ) (lists : BooleanLists) → 0 < n → boolean_lists (lists.values ++ replicate n false) (Some (flags_of (boolean_count lists) lists.flags ++ replicate n false)) ≡ grown row_growth lists (replicate n None)
grown_some zero lists some = absurd (omega arith)
grown_some (suc n) lists some =
    let bits = flags_of (boolean_count lists) lists.flags in
    ap (λ (vs : List Bool). boolean_lists vs (Some (bits ++ replicate (suc n) false))) (sym (one_more_of n lists.values false))
    ∙ ap (λ (bs : List Bool). boolean_lists ((lists.values ++ false ∷ []) ++ replicate n false) (Some bs)) (sym (one_more_of n bits false))
    ∙ grown_nulls n (lists.values ++ false ∷ []) (bits ++ false ∷ [])
    ∙ ap (λ (flags : Option (List Bool)). grown row_growth (boolean_lists (lists.values ++ false ∷ []) flags) (replicate n None)) (sym (null_first n lists.flags (boolean_count lists)))

pub grown_null : (n : ℕ) (lists : BooleanLists) → 0 < n → boolean_lists (lists.values ++ replicate n false) (joined_flags (boolean_count lists) lists.flags n (constant_flags n false)) ≡ grown row_growth lists (replicate n None)
grown_null n lists some = ap (boolean_lists (lists.values ++ replicate n false)) (joined-nulls (boolean_count lists) lists.flags n some) ∙ grown_some n lists some

-- ---- room

pub room_of_less : (n a b : ℕ) → min (n + a) (n + b) ≡ n + min a b
room_of_less n a b = omega arith

pub ruleset rows = (sound_row)

pub ruleset firsts = (sound_first)

pub ruleset freezing = (sound-frozen)

pub ruleset constants = (grown_valid, grown_null, sound_rows)
