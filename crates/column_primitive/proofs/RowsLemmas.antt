-- Laws of arrays of numbers that grow, are cut back and are changed.
use Rattle.std.proofs.Common.{◌≡◌, ℕ, zero, suc, ◌+◌, ◌-◌, ◌<◌, ◌≤◌, Bool, true, false, List, [], ◌∷◌, ◌++◌, length, map, take, replicate, get_or, Option, None, Some, refl, sym, ◌∙◌, ap, subst, arith, append_assoc}
use Rattle.std.specs.Prelude.{slice_range, slice_index_or, option_map, slice_get, slice_set, min, is_some, if◌then◌else◌}
use Rattle.std.proofs.Math.ListN.{length-set}
use Rattle.std.proofs.lemmas.List.{length-append, length-map, length-replicate, length-take-le, map-append, map-set, append-nil, take_more}
use Rattle.column_base.specs.declared.datatypes.ArrowDataType.{ArrowDataType}
use Rattle.std.proofs.lemmas.Bool.Decides.{nat_tests}
use Rattle.column_base.specs.Kinds.{Slot}
use Rattle.column_base.specs.Pushes.{grown, growth_fault}
use Rattle.column_base.specs.Slots.{slots_by}
use Rattle.column_storage.specs.Bits.{given_bits, optional_values, flags_of, frozen_flags, pushed_flag, joined_flags, constant_flags, changed_flag}
use Rattle.column_storage.specs.Slots.{flagged_slots}
use Rattle.column_storage.specs.Validity.{AreFlagsOf}
use Rattle.std.proofs.Math.Seq.{take-length}
use Rattle.column_storage.proofs.RangesLemmas.{range-first, range-last, range-length}
use Rattle.column_storage.proofs.GrowingFlagsLemmas.{are_flags-pushed, are_flags-first, are_flags-frozen, are_flags-joined, flags_of-constant, are_flags-constant, are_flags-changed, flags_of-changed, flagged_slots-pushed, flagged_slots-first, flagged_slots-frozen, flagged_slots-joined, flags-joined}
use Rattle.column_primitive.specs.Numbers.{NumberLists, number_lists, number_count, number_slots, number_rows, number_at, AreSoundNumbers, NumberArray, number_array}
use Rattle.column_primitive.specs.Rows.{no_numbers, stored, slot_of, pushed_row, row_growth, first_numbers, joined_array, extended_row, changed_row}
use Rattle.column_primitive.proofs.NumbersLemmas.{flagged}

-- ---- one slot more

pub sound_more : {T : Type 0} (lists : NumberLists T) (x : T) (bit : Bool) → AreSoundNumbers lists → AreSoundNumbers (number_lists (lists.numbers ++ x ∷ []) (pushed_flag (number_count lists) lists.flags bit))
sound_more lists x bit sound = record {
  flagged = subst (λ (n : ℕ). AreFlagsOf n (pushed_flag (number_count lists) lists.flags bit)) (sym (length-append lists.numbers (x ∷ []))) (are_flags-pushed (number_count lists) lists.flags bit sound.flagged);
}

pub slots-pushed : {T : Type 0} (bytes : T → List ℕ) (null : T) (array : NumberArray T) (row : Option T) → AreSoundNumbers array.lists → number_slots bytes (pushed_row null array row).lists ≡ number_slots bytes array.lists ++ slot_of bytes null row ∷ []
unfolding number_slots
slots-pushed bytes null array row sound =
    let values = map bytes array.lists.numbers in
    let flags = pushed_flag (number_count array.lists) array.lists.flags (is_some row) in
    ap (flagged_slots flags) (map-append bytes array.lists.numbers (stored null row ∷ []))
    ∙ ap (λ (n : ℕ). flagged_slots (pushed_flag n array.lists.flags (is_some row)) (values ++ bytes (stored null row) ∷ [])) (sym (length-map array.lists.numbers bytes))
    ∙ flagged_slots-pushed array.lists.flags values (is_some row) (bytes (stored null row)) (flagged bytes array.lists sound)

-- ---- the first slots

pub sound_first : {T : Type 0} (lists : NumberLists T) (n : ℕ) → AreSoundNumbers lists → n ≤ number_count lists → AreSoundNumbers (first_numbers lists n)
unfolding first_numbers
sound_first lists n sound within = record {
  flagged = subst (λ (m : ℕ). AreFlagsOf m (option_map (take n) lists.flags)) (sym (length-take-le n lists.numbers within)) (are_flags-first lists.flags n (number_count lists) within sound.flagged);
}

pub slots-first : {T : Type 0} (bytes : T → List ℕ) (lists : NumberLists T) (n : ℕ) → n ≤ number_count lists → number_slots bytes (first_numbers lists n) ≡ take n (number_slots bytes lists)
unfolding first_numbers number_slots
slots-first bytes lists n within =
    let count = length-map lists.numbers bytes in
    ap (flagged_slots (option_map (take n) lists.flags)) (map-take bytes lists.numbers n)
    ∙ flagged_slots-first lists.flags (map bytes lists.numbers) n (omega arith)
  where
    map-take : {X Y : Type 0} (f : X → Y) (xs : List X) (n : ℕ) → map f (take n xs) ≡ take n (map f xs)
    map-take f xs zero = refl
    map-take f [] (suc n) = refl
    map-take f (x ∷ xs) (suc n) = ap (λ ys. f x ∷ ys) (map-take f xs n)

-- ---- frozen

pub sound-frozen : {T : Type 0} (lists : NumberLists T) → AreSoundNumbers lists → AreSoundNumbers (number_lists lists.numbers (frozen_flags lists.flags))
sound-frozen lists sound = record { flagged = are_flags-frozen lists.flags (number_count lists) sound.flagged }

pub slots-frozen : {T : Type 0} (bytes : T → List ℕ) (lists : NumberLists T) → AreSoundNumbers lists → number_slots bytes (number_lists lists.numbers (frozen_flags lists.flags)) ≡ number_slots bytes lists
unfolding number_slots
slots-frozen bytes lists sound = flagged_slots-frozen lists.flags (map bytes lists.numbers) (flagged bytes lists sound)

-- ---- slots of others

pub sound_joined : {T : Type 0} (lists others : NumberLists T) → AreSoundNumbers lists → AreSoundNumbers others → AreSoundNumbers (number_lists (lists.numbers ++ others.numbers) (joined_flags (number_count lists) lists.flags (number_count others) others.flags))
sound_joined lists others sound rest = record {
  flagged = subst (λ (n : ℕ). AreFlagsOf n (joined_flags (number_count lists) lists.flags (number_count others) others.flags)) (sym (length-append lists.numbers others.numbers)) (are_flags-joined (number_count lists) lists.flags (number_count others) others.flags sound.flagged rest.flagged);
}

pub flags-valid : (n : ℕ) (flags : Option (List Bool)) (m : ℕ) → option_map (λ bits. bits ++ flags_of m None) flags ≡ joined_flags n flags m None
flags-valid n None m = refl
flags-valid n (Some bits) m = refl

pub slots-joined : {T : Type 0} (bytes : T → List ℕ) (array : NumberArray T) (others : NumberLists T) → AreSoundNumbers array.lists → number_slots bytes (joined_array array others).lists ≡ number_slots bytes array.lists ++ number_slots bytes others
unfolding number_slots
slots-joined bytes array others sound =
    let values = map bytes array.lists.numbers in
    let rest = map bytes others.numbers in
    ap (flagged_slots (joined_flags (number_count array.lists) array.lists.flags (number_count others) others.flags)) (map-append bytes array.lists.numbers others.numbers)
    ∙ ap (λ (n : ℕ). flagged_slots (joined_flags n array.lists.flags (number_count others) others.flags) (values ++ rest)) (sym (length-map array.lists.numbers bytes))
    ∙ ap (λ (m : ℕ). flagged_slots (joined_flags (length values) array.lists.flags m others.flags) (values ++ rest)) (sym (length-map others.numbers bytes))
    ∙ flagged_slots-joined array.lists.flags values others.flags rest (flagged bytes array.lists sound)

-- ---- slots of one row

pub sound_extended : {T : Type 0} (lists : NumberLists T) (n : ℕ) (x : T) (bit : Bool) → AreSoundNumbers lists → AreSoundNumbers (number_lists (lists.numbers ++ replicate n x) (joined_flags (number_count lists) lists.flags n (constant_flags n bit)))
sound_extended lists n x bit sound =
    let size : length (lists.numbers ++ replicate n x) ≡ number_count lists + n = length-append lists.numbers (replicate n x) ∙ ap (λ (m : ℕ). number_count lists + m) (length-replicate n x) in
    record {
      flagged = subst (λ (m : ℕ). AreFlagsOf m (joined_flags (number_count lists) lists.flags n (constant_flags n bit))) (sym size) (are_flags-joined (number_count lists) lists.flags n (constant_flags n bit) sound.flagged (are_flags-constant n bit));
    }

-- the slots of one row are as many times its slot
slots_alike : (n : ℕ) (x : List ℕ) (bit : Bool) → slots_by (replicate n bit) (replicate n x) ≡ replicate n (record { valid = bit; bytes = x })
slots_alike zero x bit = refl
slots_alike (suc n) x bit = ap (λ (slots : List Slot). record { valid = bit; bytes = x } ∷ slots) (slots_alike n x bit)

map_alike : {X Y : Type 0} (f : X → Y) (n : ℕ) (x : X) → map f (replicate n x) ≡ replicate n (f x)
map_alike f zero x = refl
map_alike f (suc n) x = ap (λ ys. f x ∷ ys) (map_alike f n x)

slots-constant : {T : Type 0} (bytes : T → List ℕ) (n : ℕ) (x : T) (bit : Bool) → number_slots bytes (number_lists (replicate n x) (constant_flags n bit)) ≡ replicate n (record { valid = bit; bytes = bytes x })
unfolding number_slots flagged_slots
slots-constant bytes n x bit =
    ap (λ (values : List (List ℕ)). slots_by (flags_of (length values) (constant_flags n bit)) values) (map_alike bytes n x)
    ∙ ap (λ (m : ℕ). slots_by (flags_of m (constant_flags n bit)) (replicate n (bytes x))) (length-replicate n (bytes x))
    ∙ ap (λ (flags : List Bool). slots_by flags (replicate n (bytes x))) (flags_of-constant n bit)
    ∙ slots_alike n (bytes x) bit

pub slots-extended : {T : Type 0} (bytes : T → List ℕ) (null : T) (array : NumberArray T) (n : ℕ) (row : Option T) → AreSoundNumbers array.lists → number_slots bytes (extended_row null array n row).lists ≡ number_slots bytes array.lists ++ replicate n (slot_of bytes null row)
slots-extended bytes null array n row sound =
    let others = number_lists (replicate n (stored null row)) (constant_flags n (is_some row)) in
    ap (λ (m : ℕ). number_slots bytes (number_lists (array.lists.numbers ++ others.numbers) (joined_flags (number_count array.lists) array.lists.flags m others.flags))) (sym (length-replicate n (stored null row)))
    ∙ slots-joined bytes array others sound
    ∙ ap (λ (slots : List Slot). number_slots bytes array.lists ++ slots) (slots-constant bytes n (stored null row) (is_some row))

-- ---- another row

pub length_set : {X : Type 0} (xs : List X) (i : ℕ) (x : X) → length (slice_set xs i x) ≡ length xs
length_set xs i x = length-set xs i x

pub sound-changed : {T : Type 0} (lists : NumberLists T) (i : ℕ) (x : T) (bit : Bool) → AreSoundNumbers lists → AreSoundNumbers (number_lists (slice_set lists.numbers i x) (changed_flag (number_count lists) lists.flags i bit))
sound-changed lists i x bit sound = record {
  flagged = subst (λ (n : ℕ). AreFlagsOf n (changed_flag (number_count lists) lists.flags i bit)) (sym (length-set lists.numbers i x)) (are_flags-changed (number_count lists) lists.flags i bit sound.flagged);
}

-- ---- room

pub room_of_less : (n a b : ℕ) → min (n + a) (n + b) ≡ n + min a b
room_of_less n a b = omega arith

-- ---- rows

length-optional_values : {X : Type 0} (bits : List Bool) (xs : List X) → length (optional_values bits xs) ≡ length xs
length-optional_values bits [] = refl
length-optional_values [] (x ∷ xs) = ap suc (length-optional_values [] xs)
length-optional_values (true ∷ bits) (x ∷ xs) = ap suc (length-optional_values bits xs)
length-optional_values (false ∷ bits) (x ∷ xs) = ap suc (length-optional_values bits xs)

pub rows-count : {T : Type 0} (lists : NumberLists T) → length (number_rows lists) ≡ number_count lists
rows-count lists = length-optional_values (given_bits lists.flags) lists.numbers

row_all : {X : Type 0} (xs : List X) (i : ℕ) → i < length xs → slice_get (optional_values [] xs) i ≡ Some (slice_get xs i)
row_all [] i within = absurd (omega arith)
row_all (x ∷ xs) zero within = refl
row_all (x ∷ xs) (suc i) within = row_all xs i (omega arith)

row_got : {X : Type 0} (bits : List Bool) (xs : List X) (i : ℕ) → length bits ≡ length xs → i < length xs → slice_get (optional_values bits xs) i ≡ Some (if slice_index_or bits i true then slice_get xs i else None)
row_got bits [] i same within = absurd (omega arith)
row_got [] (x ∷ xs) i same within = absurd (omega arith)
row_got (true ∷ bits) (x ∷ xs) zero same within = refl
row_got (false ∷ bits) (x ∷ xs) zero same within = refl
row_got (true ∷ bits) (x ∷ xs) (suc i) same within = row_got bits xs i (omega arith) (omega arith)
row_got (false ∷ bits) (x ∷ xs) (suc i) same within = row_got bits xs i (omega arith) (omega arith)

got_row : {T : Type 0} (numbers : List T) (flags : Option (List Bool)) (i : ℕ) → AreFlagsOf (length numbers) flags → i < length numbers → slice_get (number_rows (number_lists numbers flags)) i ≡ Some (number_at (number_lists numbers flags) i)
got_row numbers None i all within = row_all numbers i within
got_row numbers (Some bits) i all within = row_got bits numbers i all within

pub row_at : {T : Type 0} (lists : NumberLists T) (i : ℕ) → AreSoundNumbers lists → i < number_count lists → slice_get (number_rows lists) i ≡ Some (number_at lists i)
row_at lists i sound within = got_row lists.numbers lists.flags i sound.flagged within

pub row-first : {T : Type 0} (lists : NumberLists T) (i e : ℕ) → AreSoundNumbers lists → i < e → e ≤ number_count lists → slice_range (number_rows lists) i e ≡ number_at lists i ∷ slice_range (number_rows lists) (i + 1) e
row-first lists i e sound inside within = range-first (number_rows lists) i e (number_at lists i) (row_at lists i sound (omega arith)) inside

pub row-last : {T : Type 0} (lists : NumberLists T) (i e : ℕ) → AreSoundNumbers lists → i ≤ e → e < number_count lists → slice_range (number_rows lists) i (e + 1) ≡ slice_range (number_rows lists) i e ++ number_at lists e ∷ []
row-last lists i e sound inside within = range-last (number_rows lists) i e (number_at lists e) (row_at lists e sound within) inside

pub rows-left : {T : Type 0} (lists : NumberLists T) (i e : ℕ) → e ≤ number_count lists → length (slice_range (number_rows lists) i e) ≡ e - i
rows-left lists i e within =
    let size = length-optional_values (given_bits lists.flags) lists.numbers in
    range-length (number_rows lists) i e (omega arith)

pub rows_whole : {T : Type 0} (lists : NumberLists T) → slice_range (number_rows lists) 0 (number_count lists) ≡ number_rows lists
rows_whole lists =
    let size = length-optional_values (given_bits lists.flags) lists.numbers in
    let all : number_count lists - 0 ≡ length (number_rows lists) = omega arith in
    ap (λ (n : ℕ). take n (number_rows lists)) all ∙ take-length (number_rows lists)

-- ---- rows that are pushed

pub never_refused : {T : Type 0} (null : T) (array : NumberArray T) (rows : List (Option T)) → growth_fault (row_growth null) array rows ≡ None
never_refused null array [] = refl
never_refused null array (row ∷ rows) = never_refused null (pushed_row null array row) rows

pub map_same : {X : Type 0} (xs : List X) → map (λ x. x) xs ≡ xs
map_same [] = refl
map_same (x ∷ xs) = ap (λ ys. x ∷ ys) (map_same xs)

-- the slots of a row that was changed
slots_by-changed : (flags : List Bool) (values : List (List ℕ)) (i : ℕ) (bit : Bool) (bytes : List ℕ) → slots_by (slice_set flags i bit) (slice_set values i bytes) ≡ slice_set (slots_by flags values) i (record { valid = bit; bytes = bytes })
slots_by-changed [] values i bit bytes = refl
slots_by-changed (flag ∷ flags) [] zero bit bytes = refl
slots_by-changed (flag ∷ flags) [] (suc i) bit bytes = refl
slots_by-changed (flag ∷ flags) (value ∷ values) zero bit bytes = refl
slots_by-changed (flag ∷ flags) (value ∷ values) (suc i) bit bytes = ap (λ (slots : List Slot). record { valid = flag; bytes = value } ∷ slots) (slots_by-changed flags values i bit bytes)

pub slots-changed : {T : Type 0} (bytes : T → List ℕ) (null : T) (array : NumberArray T) (i : ℕ) (row : Option T) → number_slots bytes (changed_row null array i row).lists ≡ slice_set (number_slots bytes array.lists) i (slot_of bytes null row)
unfolding number_slots flagged_slots
slots-changed bytes null array i row =
    let lists = array.lists in
    let flags = changed_flag (number_count lists) lists.flags i (is_some row) in
    let values = map bytes lists.numbers in
    let count : length (map bytes lists.numbers) ≡ number_count lists = length-map lists.numbers bytes in
    ap (λ (vs : List (List ℕ)). slots_by (flags_of (length vs) flags) vs) (map-set bytes lists.numbers i (stored null row))
    ∙ ap (λ (n : ℕ). slots_by (flags_of n flags) (slice_set values i (bytes (stored null row)))) (length_set values i (bytes (stored null row)) ∙ count)
    ∙ ap (λ (bits : List Bool). slots_by bits (slice_set values i (bytes (stored null row)))) (flags_of-changed (number_count lists) lists.flags i (is_some row))
    ∙ slots_by-changed (flags_of (number_count lists) lists.flags) values i (is_some row) (bytes (stored null row))
    ∙ ap (λ (n : ℕ). slice_set (slots_by (flags_of n lists.flags) values) i (slot_of bytes null row)) (sym count)

pub ruleset changed_slots = (slots-changed)

pub ruleset row_places = (row-first, row-last, rows-left, rows_whole)

pub ruleset rows = (sound_more)

pub ruleset firsts = (sound_first)

pub ruleset freezing = (sound-frozen)

pub ruleset changes = (sound-changed)

pub ruleset room = (room_of_less)

pub ruleset joining = (sound_joined, flags-valid, flags-joined)

pub ruleset extending = (sound_extended)

-- rows without a null, after numbers without flags
values_after : {T : Type 0} (null : T) (dtype : ArrowDataType) (before values : List T) → grown (row_growth null) (number_array dtype (number_lists before None)) (map (λ value. Some value) values) ≡ number_array dtype (number_lists (before ++ values) None)
values_after null dtype before [] = ap (λ numbers. number_array dtype (number_lists numbers None)) (sym (append-nil before))
values_after null dtype before (x ∷ values) =
    values_after null dtype (before ++ x ∷ []) values
    ∙ ap (λ numbers. number_array dtype (number_lists numbers None)) (append_assoc before (x ∷ []) values)

pub values_are_numbers : {T : Type 0} (null : T) (dtype : ArrowDataType) (values : List T) → grown (row_growth null) (no_numbers dtype) (map (λ value. Some value) values) ≡ number_array dtype (number_lists values None)
values_are_numbers null dtype values = values_after null dtype [] values

pub ruleset pushed_slots = (slots-pushed)

pub ruleset first_slots = (slots-first)

pub ruleset joined_slots = (slots-joined)

pub ruleset frozen_slots = (slots-frozen)

pub ruleset extended_slots = (slots-extended)

-- ---- casts

-- one more of a list whose elements are each made another with the same bytes
pub recast_more : {X Y : Type 0} (f : X → Y) (bytes : X → List ℕ) (other : Y → List ℕ) (xs : List X) (i : ℕ) (x : X) (y : Y) (new old : List Y) → i < length xs → x ≡ get_or xs i x → new ≡ old ++ y ∷ [] → y ≡ f x → other y ≡ bytes x
    → (old ≡ map f (take i xs)) × (map other old ≡ map bytes (take i xs)) → (new ≡ map f (take (i + 1) xs)) × (map other new ≡ map bytes (take (i + 1) xs))
recast_more f bytes other xs i x y new old within at more is same so =
    let all : take i xs ++ x ∷ [] ≡ take (i + 1) xs = sym (take_more xs i x within ∙ ap (λ z. take i xs ++ z ∷ []) (sym at)) in (
      more ∙ ap (λ z. old ++ z ∷ []) is ∙ ap (λ ys. ys ++ f x ∷ []) so.0 ∙ sym (map-append f (take i xs) (x ∷ [])) ∙ ap (map f) all,
      ap (map other) more ∙ map-append other old (y ∷ []) ∙ ap (λ z. map other old ++ z ∷ []) same ∙ ap (λ zs. zs ++ bytes x ∷ []) so.1 ∙ sym (map-append bytes (take i xs) (x ∷ [])) ∙ ap (map bytes) all,
    )
