-- Laws of lists that take rows, lose the last one, or take those of others.
use Rattle.std.proofs.Common.{◌≡◌, ℕ, zero, suc, ◌+◌, ◌-◌, ◌*◌, ◌/◌, ◌<◌, ◌≤◌, Bool, true, false, not, List, [], ◌∷◌, ◌++◌, length, map, take, replicate, get_or, ◌==◌, Option, Some, None, Result, Ok, Err, inl, inr, refl, sym, ◌∙◌, ap, subst, arith}
use Rattle.std.specs.Prelude.{◌&&◌, OnErr, min, option_map}
use Rattle.std.specs.List.{list_all}
use Rattle.std.specs.Iterator.{YieldsThen}
use Rattle.std.specs.Simd.{first_chunks}
use Rattle.std.proofs.Math.Seq.{take-length}
use Rattle.std.proofs.Math.Nat.{add-mul-div_right, mul-add-div_right}
use Rattle.std.proofs.lemmas.Bool.Decides.{nat_tests}
use Rattle.std.proofs.lemmas.List.{length-append, length-replicate, length-take-le, append-nil, append_assoc, take_more}
use Rattle.std.proofs.lemmas.Nat.{le-div, mul-le, div-add-mod'}
use Rattle.column_base.specs.declared.errors.Cause.{Cause}
use Rattle.column_base.specs.declared.errors.Cause.TheVariants.{WrongLength}
use Rattle.column_base.specs.declared.errors.PolarsError.{PolarsError}
use Rattle.column_base.specs.declared.errors.PolarsError.TheVariants.{ComputeError, OutOfBounds, NoMemory}
use Rattle.column_base.specs.Answers.{cause_if, ◌or_else◌}
use Rattle.column_base.specs.Kinds.{Slot}
use Rattle.column_base.specs.Pushes.{grown, growth_fault, GrowsBy, MadeBy}
use Rattle.column_base.proofs.AnswersLemmas.{cause_none, first_none}
use Rattle.column_base.proofs.PushesLemmas.{grown-one}
use Rattle.column_storage.specs.Bits.{GrowingBits, pushed_flag, joined_flags, spare_beside}
use Rattle.column_storage.specs.Slots.{flagged_slots}
use Rattle.column_storage.specs.Validity.{AreFlagsOf}
use Rattle.column_storage.proofs.GrowingFlagsLemmas.{are_flags-pushed, flagged_slots-pushed, are_flags-first, flagged_slots-first, are_flags-joined, flagged_slots-joined, flags-joined}
use Rattle.column_fixed.specs.Slots.{FixedLists, fixed_lists, fixed_count, fixed_slots, AreSoundFixed}
use Rattle.column_fixed.specs.Rows.{no_slots, NoneIsRefused, pushed_row, is_of_width, row_fault, row_growth, slot_of, first_slots, joined_lists}
use Rattle.column_fixed.proofs.ChunksLemmas.{chunks-append, chunks-front, chunks-take, chunk_of}
use Rattle.column_fixed.proofs.SlotsLemmas.{count_of, flagged, length-cut, bytes_within}

-- ---- one slot more

-- lists with one slot more, of bytes that are put at the end of the values
one_more : FixedLists → List ℕ → Bool → FixedLists
one_more lists bytes bit = fixed_lists lists.width (lists.values ++ bytes) (pushed_flag (fixed_count lists) lists.flags bit)

bytes_more : (lists : FixedLists) (bytes : List ℕ) → AreSoundFixed lists → length bytes ≡ lists.width → length (lists.values ++ bytes) ≡ (fixed_count lists + 1) * lists.width
bytes_more lists bytes sound same =
    let size = length-append lists.values bytes in
    let whole = sound.whole in
    let more : (fixed_count lists + 1) * lists.width ≡ fixed_count lists * lists.width + lists.width = omega arith in
    omega arith

sound_more : (lists : FixedLists) (bytes : List ℕ) (bit : Bool) → AreSoundFixed lists → length bytes ≡ lists.width → AreSoundFixed (one_more lists bytes bit)
unfolding one_more
sound_more lists bytes bit sound same =
    let all = bytes_more lists bytes sound same in
    let count : length (lists.values ++ bytes) / lists.width ≡ fixed_count lists + 1 = count_of lists.width (fixed_count lists + 1) (length (lists.values ++ bytes)) sound.positive all in
    record {
      positive = sound.positive;
      whole = ap (λ (n : ℕ). n * lists.width) count ∙ sym all;
      flagged = subst (λ (n : ℕ). AreFlagsOf n (pushed_flag (fixed_count lists) lists.flags bit)) (sym count) (are_flags-pushed (fixed_count lists) lists.flags bit sound.flagged);
    }

slots_more : (lists : FixedLists) (bytes : List ℕ) (bit : Bool) → AreSoundFixed lists → length bytes ≡ lists.width → fixed_slots (one_more lists bytes bit) ≡ fixed_slots lists ++ record { valid = bit; bytes = bytes } ∷ []
unfolding one_more fixed_slots
slots_more lists bytes bit sound same =
    let w = lists.width in
    let n = fixed_count lists in
    let cut = first_chunks w n lists.values in
    let flags = pushed_flag n lists.flags bit in
    let count : length (lists.values ++ bytes) / w ≡ n + 1 = count_of w (n + 1) (length (lists.values ++ bytes)) sound.positive (bytes_more lists bytes sound same) in
    ap (λ (k : ℕ). flagged_slots flags (first_chunks w k (lists.values ++ bytes))) count
    ∙ ap (flagged_slots flags) (chunks-append w n 1 lists.values bytes (sym sound.whole) ∙ ap (λ (rest : List (List ℕ)). cut ++ rest) (chunk_of w bytes same))
    ∙ ap (λ (k : ℕ). flagged_slots (pushed_flag k lists.flags bit) (cut ++ bytes ∷ [])) (sym (length-cut lists))
    ∙ flagged_slots-pushed lists.flags cut bit bytes (flagged lists sound)

-- ---- rows

right_length : (lists : FixedLists) (bytes : List ℕ) → row_fault lists (Some bytes) ≡ None → length bytes ≡ lists.width
right_length lists bytes none = let test : not (length bytes == lists.width) ≡ false = cause_none _ WrongLength none in grind (arith, nat_tests)

pub sound_row : (lists : FixedLists) (row : Option (List ℕ)) → AreSoundFixed lists → row_fault lists row ≡ None → AreSoundFixed (pushed_row lists row)
unfolding one_more
sound_row lists None sound none = sound_more lists (replicate lists.width 0) false sound (length-replicate lists.width 0)
sound_row lists (Some bytes) sound none = sound_more lists bytes true sound (right_length lists bytes none)

pub slots-row : (lists : FixedLists) (row : Option (List ℕ)) → AreSoundFixed lists → row_fault lists row ≡ None → fixed_slots (pushed_row lists row) ≡ fixed_slots lists ++ slot_of lists.width row ∷ []
unfolding one_more
slots-row lists None sound none = slots_more lists (replicate lists.width 0) false sound (length-replicate lists.width 0)
slots-row lists (Some bytes) sound none = slots_more lists bytes true sound (right_length lists bytes none)

pub sound_null : (lists : FixedLists) → AreSoundFixed lists → AreSoundFixed (pushed_row lists None)
sound_null lists sound = sound_row lists None sound refl

pub sound_value : (lists : FixedLists) (bytes : List ℕ) → AreSoundFixed lists → length bytes ≡ lists.width → AreSoundFixed (pushed_row lists (Some bytes))
unfolding one_more
sound_value lists bytes sound same = sound_more lists bytes true sound same

-- a row leaves the width
pub width-row : (lists : FixedLists) (row : Option (List ℕ)) → (pushed_row lists row).width ≡ lists.width
width-row lists None = refl
width-row lists (Some bytes) = refl

pub slots_rows : (lists : FixedLists) (rows : List (Option (List ℕ))) → AreSoundFixed lists → growth_fault row_growth lists rows ≡ None → fixed_slots (grown row_growth lists rows) ≡ fixed_slots lists ++ map (slot_of lists.width) rows
slots_rows lists [] sound none = sym (append-nil (fixed_slots lists))
slots_rows lists (row ∷ rows) sound none =
    let parts = first_none (row_fault lists row) (growth_fault row_growth (pushed_row lists row) rows) none in
    let next = pushed_row lists row in
    let first = slot_of lists.width row in
    slots_rows next rows (sound_row lists row sound parts.0) parts.1
    ∙ ap (λ (w : ℕ). fixed_slots next ++ map (slot_of w) rows) (width-row lists row)
    ∙ ap (λ (slots : List Slot). slots ++ map (slot_of lists.width) rows) (slots-row lists row sound parts.0)
    ∙ append_assoc (fixed_slots lists) (first ∷ []) (map (slot_of lists.width) rows)

pub width_rows : (lists : FixedLists) (rows : List (Option (List ℕ))) → (grown row_growth lists rows).width ≡ lists.width
width_rows lists [] = refl
width_rows lists (row ∷ rows) = width_rows (pushed_row lists row) rows ∙ width-row lists row

-- a row of the width is not refused
same_number : (n : ℕ) → n == n ≡ true
same_number n = grind (arith, nat_tests)

pub row_fits : (lists : FixedLists) (bytes : List ℕ) → length bytes ≡ lists.width → row_fault lists (Some bytes) ≡ None
row_fits lists bytes same = rw same (ap (λ (b : Bool). cause_if (not b) WrongLength) (same_number lists.width))

-- one row more of a list whose first rows were pushed
pub rows_more : (empty lists next : FixedLists) (rows : List (Option (List ℕ))) (i : ℕ) (row : Option (List ℕ)) → i < length rows → row ≡ get_or rows i row
    → lists ≡ grown row_growth empty (take i rows) → next ≡ pushed_row lists row → next ≡ grown row_growth empty (take (i + 1) rows)
rows_more empty lists next rows i row within at is step =
    step
    ∙ ap (λ (a : FixedLists). pushed_row a row) is
    ∙ sym (grown-one row_growth empty (take i rows) row)
    ∙ ap (grown row_growth empty) (sym (take_more rows i row within ∙ ap (λ r. take i rows ++ r ∷ []) (sym at)))

-- the fault of rows is of the width alone
fit_one : (one : Bool) (rest : Bool) → (cause_if (not one) WrongLength or_else cause_if (not rest) WrongLength) ≡ cause_if (not (one && rest)) WrongLength
fit_one true rest = refl
fit_one false rest = refl

pub fault_rows : (lists : FixedLists) (rows : List (Option (List ℕ))) → growth_fault row_growth lists rows ≡ cause_if (not (list_all (is_of_width lists.width) rows)) WrongLength
fault_rows lists [] = refl
fault_rows lists (row ∷ rows) =
    ap (λ (rest : Option Cause). row_fault lists row or_else rest) (fault_rows (pushed_row lists row) rows ∙ ap (λ (w : ℕ). cause_if (not (list_all (is_of_width w) rows)) WrongLength) (width-row lists row))
    ∙ fit_one (is_of_width lists.width row) (list_all (is_of_width lists.width) rows)

-- where no item is refused, only memory is wanting
refused_none : {S T : Type 0} (shown : T → Option (List ℕ)) (steps : S → Option T → S → Type 0) (items : S) (width : ℕ) (new : FixedLists) (x : T)
    → GrowsBy row_growth shown (λ taken. (t : S) × YieldsThen steps items taken (Some x) t) (no_slots width) new
    → NoneIsRefused (row_fault (no_slots width)) shown steps items → row_fault new (shown x) ≡ None
refused_none shown steps items width new x given fine =
    let is : new.width ≡ width = ap (λ (lists : FixedLists). lists.width) given.3 ∙ width_rows (no_slots width) (map shown given.0) in
    ap (λ (w : ℕ). cause_if (not (is_of_width w (shown x))) WrongLength) is ∙ fine given.0 x given.1.0 given.1.1

pub no_refusal : {S T M : Type 0} (shown : T → Option (List ℕ)) (steps : S → Option T → S → Type 0) (items : S) (width : ℕ) (P : M → FixedLists → Type 0) (error : PolarsError)
    → MadeBy {M = M} row_growth shown steps items (no_slots width) P (Err error)
    → NoneIsRefused (row_fault (no_slots width)) shown steps items → error ≡ NoMemory
no_refusal shown steps items width P error (inl none) fine = none
no_refusal shown steps items width P (ComputeError cause) (inr given) fine = absurd (let some = given.1.1.0 in let none = refused_none shown steps items width given.0 given.1.0 given.1.2 fine in cc)
no_refusal shown steps items width P (OutOfBounds cause) (inr given) fine = absurd (let some = given.1.1.0 in let none = refused_none shown steps items width given.0 given.1.0 given.1.2 fine in cc)
no_refusal shown steps items width P NoMemory (inr given) fine = refl

pub only_memory : {S T M : Type 0} (shown : T → Option (List ℕ)) (steps : S → Option T → S → Type 0) (items : S) (width : ℕ) (P : M → FixedLists → Type 0) (result : Result M PolarsError)
    → MadeBy row_growth shown steps items (no_slots width) P result
    → NoneIsRefused (row_fault (no_slots width)) shown steps items → OnErr result (result ≡ Err NoMemory)
only_memory shown steps items width P (Ok made) given fine = tt
only_memory shown steps items width P (Err error) given fine = ap Err (no_refusal shown steps items width P error given fine)

-- ---- the first slots

bytes_first : (lists : FixedLists) (n : ℕ) → AreSoundFixed lists → n ≤ fixed_count lists → length (take (n * lists.width) lists.values) ≡ n * lists.width
bytes_first lists n sound within = length-take-le (n * lists.width) lists.values (bytes_within lists n sound within)

pub sound_first : (lists : FixedLists) (n : ℕ) → AreSoundFixed lists → n ≤ fixed_count lists → AreSoundFixed (first_slots lists n)
unfolding first_slots
sound_first lists n sound within =
    let bytes = bytes_first lists n sound within in
    let count : length (take (n * lists.width) lists.values) / lists.width ≡ n = count_of lists.width n _ sound.positive bytes in
    record {
      positive = sound.positive;
      whole = ap (λ (k : ℕ). k * lists.width) count ∙ sym bytes;
      flagged = subst (λ (k : ℕ). AreFlagsOf k (option_map (take n) lists.flags)) (sym count) (are_flags-first lists.flags n (fixed_count lists) within sound.flagged);
    }

pub slots-first : (lists : FixedLists) (n : ℕ) → AreSoundFixed lists → n ≤ fixed_count lists → fixed_slots (first_slots lists n) ≡ take n (fixed_slots lists)
unfolding first_slots fixed_slots
slots-first lists n sound within =
    let w = lists.width in
    let front = take (n * w) lists.values in
    let flags = option_map (take n) lists.flags in
    let rest = fixed_count lists - n in
    let all : n + rest ≡ fixed_count lists = omega arith in
    let count = length-cut lists in
    ap (λ (k : ℕ). flagged_slots flags (first_chunks w k front)) (count_of w n (length front) sound.positive (bytes_first lists n sound within))
    ∙ ap (flagged_slots flags) (chunks-front w n lists.values ∙ sym (chunks-take w n rest lists.values) ∙ ap (λ (k : ℕ). take n (first_chunks w k lists.values)) all)
    ∙ flagged_slots-first lists.flags (first_chunks w (fixed_count lists) lists.values) n (omega arith)

-- without slots the first ones are all
first_flags : (flags : Option (List Bool)) → AreFlagsOf 0 flags → option_map (take 0) flags ≡ flags
first_flags None all = refl
first_flags (Some []) all = refl
first_flags (Some (b ∷ bits)) all = absurd (omega arith)

take_none : {X : Type 0} (xs : List X) (n : ℕ) → length xs ≡ n → n ≡ 0 → take 0 xs ≡ xs
take_none [] n same none = refl
take_none (x ∷ xs) n same none = absurd (omega arith)

pub no_slots_first : (lists : FixedLists) (n : ℕ) → AreSoundFixed lists → fixed_count lists ≡ 0 → n ≡ 0 → lists ≡ first_slots lists n
unfolding first_slots
no_slots_first lists n sound none e =
    let w = lists.width in
    let zero : 0 * w ≡ 0 = omega arith in
    let bytes : length lists.values ≡ 0 = sym sound.whole ∙ ap (λ (k : ℕ). k * w) none ∙ zero in
    let flags = subst (λ (k : ℕ). AreFlagsOf k lists.flags) none sound.flagged in
    rw e (sym (
    ap (λ (k : ℕ). fixed_lists w (take k lists.values) (option_map (take 0) lists.flags)) zero
    ∙ ap (λ (values : List ℕ). fixed_lists w values (option_map (take 0) lists.flags)) (take_none lists.values 0 bytes refl)
    ∙ ap (fixed_lists w lists.values) (first_flags lists.flags flags)))

-- ---- without the last

flags_front : (flags : Option (List Bool)) (n : ℕ) → AreFlagsOf n flags → option_map (λ bits. take (length bits - 1) bits) flags ≡ option_map (take (n - 1)) flags
flags_front None n all = refl
flags_front (Some bits) n all = ap (λ (m : ℕ). Some (take (m - 1) bits)) all

pub last_dropped : (lists : FixedLists) (values : List ℕ) (flags : Option (List Bool)) (start : ℕ) → AreSoundFixed lists → 0 < fixed_count lists → start ≡ length lists.values - lists.width
    → values ≡ take start lists.values → flags ≡ option_map (λ bits. take (length bits - 1) bits) lists.flags
    → fixed_lists lists.width values flags ≡ first_slots lists (fixed_count lists - 1)
unfolding first_slots
last_dropped lists values flags start sound some at bytes bits =
    let w = lists.width in
    let n = fixed_count lists - 1 in
    let one : fixed_count lists ≡ n + 1 = omega arith in
    let more : (n + 1) * w ≡ n * w + w = omega arith in
    let all : n * w + w ≡ length lists.values = sym more ∙ sym (ap (λ (k : ℕ). k * w) one) ∙ sound.whole in
    let place : start ≡ n * w = omega arith in
    let fewer : flags ≡ option_map (take n) lists.flags = bits ∙ flags_front lists.flags (fixed_count lists) sound.flagged in
    rw (bytes, fewer, place) refl

-- the last slot's bytes are there
pub last_within : (lists : FixedLists) → AreSoundFixed lists → 0 < fixed_count lists → lists.width ≤ length lists.values
last_within lists sound some =
    let fits = bytes_within lists 1 sound some in
    let one : 1 * lists.width ≡ lists.width = omega arith in
    omega arith

-- ---- slots after others

bytes_joined : (lists others : FixedLists) → AreSoundFixed lists → AreSoundFixed others → lists.width ≡ others.width → length (lists.values ++ others.values) ≡ (fixed_count lists + fixed_count others) * lists.width
bytes_joined lists others sound rest same =
    let size = length-append lists.values others.values in
    let whole = sound.whole in
    let more : fixed_count others * lists.width ≡ length others.values = ap (λ (w : ℕ). fixed_count others * w) same ∙ rest.whole in
    let both : (fixed_count lists + fixed_count others) * lists.width ≡ fixed_count lists * lists.width + fixed_count others * lists.width = omega arith in
    omega arith

pub sound_joined : (lists others : FixedLists) → AreSoundFixed lists → AreSoundFixed others → lists.width ≡ others.width → AreSoundFixed (joined_lists lists others)
sound_joined lists others sound rest same =
    let all = bytes_joined lists others sound rest same in
    let count : length (lists.values ++ others.values) / lists.width ≡ fixed_count lists + fixed_count others = count_of lists.width (fixed_count lists + fixed_count others) _ sound.positive all in
    record {
      positive = sound.positive;
      whole = ap (λ (n : ℕ). n * lists.width) count ∙ sym all;
      flagged = subst (λ (n : ℕ). AreFlagsOf n (joined_flags (fixed_count lists) lists.flags (fixed_count others) others.flags)) (sym count) (are_flags-joined (fixed_count lists) lists.flags (fixed_count others) others.flags sound.flagged rest.flagged);
    }

pub slots-joined : (lists others : FixedLists) → AreSoundFixed lists → AreSoundFixed others → lists.width ≡ others.width → fixed_slots (joined_lists lists others) ≡ fixed_slots lists ++ fixed_slots others
unfolding fixed_slots
slots-joined lists others sound rest same =
    let w = lists.width in
    let n = fixed_count lists in
    let m = fixed_count others in
    let cut = first_chunks w n lists.values in
    let others_cut = first_chunks others.width m others.values in
    let flags = joined_flags n lists.flags m others.flags in
    ap (λ (k : ℕ). flagged_slots flags (first_chunks w k (lists.values ++ others.values))) (count_of w (n + m) (length (lists.values ++ others.values)) sound.positive (bytes_joined lists others sound rest same))
    ∙ ap (flagged_slots flags) (chunks-append w n m lists.values others.values (sym sound.whole))
    ∙ ap (λ (v : ℕ). flagged_slots flags (cut ++ first_chunks v m others.values)) same
    ∙ ap (λ (k : ℕ). flagged_slots (joined_flags k lists.flags m others.flags) (cut ++ others_cut)) (sym (length-cut lists))
    ∙ ap (λ (k : ℕ). flagged_slots (joined_flags (length cut) lists.flags k others.flags) (cut ++ others_cut)) (sym (length-cut others))
    ∙ flagged_slots-joined lists.flags cut others.flags others_cut (flagged lists sound)

-- ---- room

-- bytes for so many slots are room for them
pub room_of_bytes : (width n room : ℕ) → 0 < width → n * width ≤ room → n ≤ room / width
room_of_bytes width n room positive within = le-div n room width positive within

-- room for one slot is room for its bytes
pub bytes_of_room : (width room : ℕ) → 0 < width → 1 ≤ room / width → width ≤ room
bytes_of_room width room positive some =
    let parts = div-add-mod' room width in
    let least = mul-le 1 width (room / width) width some (omega arith) in
    let one : 1 * width ≡ width = omega arith in
    omega arith

-- more bytes are no less room
pub more_room : (width less more : ℕ) → 0 < width → less ≤ more → less / width ≤ more / width
more_room width less more positive within =
    let parts = div-add-mod' less width in
    le-div (less / width) more width positive (omega arith)

-- the bytes of a slot less are room for one less
pub one_less : (width less more : ℕ) → 0 < width → more ≤ less + width → more / width ≤ less / width + 1
one_less width less more positive within =
    let one : 1 * width ≡ width = omega arith in
    let most = more_room width more (less + 1 * width) positive (omega arith) in
    let is = add-mul-div_right less 1 positive in
    omega arith

-- for how many slots there is memory
pub room_in_all : (width bytes capacity : ℕ) → 0 < width → bytes / width * width ≡ bytes → bytes ≤ capacity → capacity / width ≡ bytes / width + (capacity - bytes) / width
room_in_all width bytes capacity positive whole within =
    let rest = capacity - bytes in
    let all : capacity ≡ bytes / width * width + rest = omega arith in
    ap (λ (n : ℕ). n / width) all ∙ mul-add-div_right positive (bytes / width) rest

pub room_of_less : (n a b : ℕ) → min (n + a) (n + b) ≡ n + min b a
room_of_less n a b = omega arith

-- room for flags beside it makes it no greater
pub beside_within : (validity : Option GrowingBits) (spare : ℕ) → spare_beside validity spare ≤ spare
beside_within None spare = omega arith
beside_within (Some bits) spare = omega arith

-- room for slots is room for their bytes
pub bytes_of_rooms : (validity : Option GrowingBits) (width n room : ℕ) → n ≤ spare_beside validity (room / width) → n * width ≤ room
bytes_of_rooms validity width n room within =
    let parts = div-add-mod' room width in
    let most = beside_within validity (room / width) in
    let fits = mul-le n width (room / width) width (omega arith) (omega arith) in
    omega arith

pub ruleset fitting = (row_fits)

pub ruleset rooms = (room_of_bytes, more_room, bytes_of_rooms)

pub ruleset capacities = (room_in_all)

pub ruleset rooms_of_less = (room_of_less)

pub ruleset rows = (sound_value, sound_null, bytes_of_room, more_room, one_less)

pub ruleset firsts = (sound_first, no_slots_first, last_dropped, last_within, more_room)

pub ruleset joining = (sound_joined, flags-joined, more_room)
