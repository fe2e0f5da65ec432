-- Slots of text: end to end they are the bytes from the first offset up to the last.
use Rattle.std.proofs.Common.{◌≡◌, ℕ, zero, suc, ◌+◌, ◌-◌, ◌<◌, ◌≤◌, ℤ, pos, negsuc, Bool, true, false, List, [], ◌∷◌, ◌++◌, length, take, drop, refl, sym, ◌∙◌, ap, subst, arith}
use Rattle.std.specs.Prelude.{◌≤ℤ◌, ◌↔◌, not, ◌&&◌, ◌||◌, nat_lt, slice_index, slice_range, Option, Some, None, int_lt}
use Rattle.std.specs.List.{concat, list_any}
use Rattle.std.proofs.lemmas.Int.{ints}
use Rattle.std.proofs.lemmas.Bool.{and_parts}
use Rattle.std.proofs.lemmas.Bool.Decides.{nat_tests}
use Rattle.std.proofs.lemmas.List.{drop-drop, length-append, append-nil, get_or_past}
use Rattle.std.proofs.Math.Seq.{take-append_seam, drop-append_seam, get_or-append_seam}
use Rattle.column_base.specs.declared.errors.Cause.{Cause}
use Rattle.column_base.specs.declared.errors.Cause.TheVariants.{OffsetsExceedValues, InvalidUtf8, CharBoundary}
use Rattle.column_base.specs.Answers.{◌or_else◌, cause_if}
use Rattle.column_base.specs.Utf8.{is_well_formed_utf8, IsWellFormedUtf8, is_continuation_byte}
use Rattle.column_base.proofs.Utf8Lemmas.{well_formed-append, well_formed-cut}
use Rattle.column_offset.specs.Offsets.{nat_of, offset_at, last_of, AreSoundOffsets, bounds_fault}
use Rattle.column_offset.specs.Text.{pieces, are_well_formed_utf8, texts_fault, cut_fault, cuts_sequence}
use Rattle.column_offset.proofs.OffsetsLemmas.{nat_of_order, places_in_order, from_zero, read_from_zero}

-- ---- the whole from its parts

take-join : (n m : ℕ) (xs : List ℕ) → take n xs ++ take m (drop n xs) ≡ take (n + m) xs
take-join zero m xs = let e : 0 + m ≡ m = omega arith in rw e refl
take-join (suc n) zero [] = let e : suc n + 0 ≡ suc n = omega arith in rw e refl
take-join (suc n) (suc m) [] = let e : suc n + suc m ≡ suc (n + suc m) = omega arith in rw e refl
take-join (suc n) m (x ∷ xs) = let e : suc n + m ≡ suc (n + m) = omega arith in rw e (ap (λ ys. x ∷ ys) (take-join n m xs))

pub slice_range-join : (values : List ℕ) (a b c : ℕ) → a ≤ b → b ≤ c → slice_range values a b ++ slice_range values b c ≡ slice_range values a c
slice_range-join values a b c ab bc =
    let n = b - a in
    let m = c - b in
    let there : a + n ≡ b = omega arith in
    let all : n + m ≡ c - a = omega arith in
    let back : drop b values ≡ drop n (drop a values) = sym (drop-drop n a values ∙ ap (λ k. drop k values) there) in
    rw (back, ← all) (take-join n m (drop a values))

sound_tail : (a b : ℤ) (offsets : List ℤ) → AreSoundOffsets (a ∷ b ∷ offsets) → AreSoundOffsets (b ∷ offsets)
sound_tail a b offsets sound =
    let starts = sound.starts in
    let step = sound.never_falls 0 (omega arith) in
    record {
      not_empty = omega arith;
      starts = omega (arith, ints);
      never_falls = λ i below. let e : suc i + 1 ≡ suc (i + 1) = omega arith in let step = sound.never_falls (suc i) (omega arith) in rw e at step;
    }

last_of-cons : (a b : ℤ) (offsets : List ℤ) → last_of (a ∷ b ∷ offsets) ≡ last_of (b ∷ offsets)
last_of-cons a b offsets =
    let e : length (a ∷ b ∷ offsets) - 1 ≡ suc (length (b ∷ offsets) - 1) = omega arith in
    rw e refl

-- the bytes of the slots, end to end
pub covered_is : (offsets : List ℤ) (values : List ℕ) → AreSoundOffsets offsets → slice_range values (nat_of (offset_at offsets 0)) (nat_of (offset_at offsets (length offsets - 1))) ≡ concat (pieces offsets values)
covered_is [] values sound = absurd (omega (arith, sound.not_empty))
covered_is (a ∷ []) values sound = let e : nat_of a - nat_of a ≡ 0 = omega arith in rw e refl
covered_is (a ∷ b ∷ offsets) values sound =
    let step : a ≤ℤ b = sound.never_falls 0 (omega arith) in
    let tail = sound_tail a b offsets sound in
    let rest : nat_of b ≤ nat_of (last_of (b ∷ offsets)) = places_in_order (b ∷ offsets) 0 (length (b ∷ offsets) - 1) tail (omega arith) (omega arith) in
    rw (last_of-cons a b offsets)
    (sym (slice_range-join values (nat_of a) (nat_of b) (nat_of (last_of (b ∷ offsets))) (nat_of_order a b step) rest)
    ∙ ap (λ (bytes : List ℕ). slice_range values (nat_of a) (nat_of b) ++ bytes) (covered_is (b ∷ offsets) values tail))

-- texts end to end are a text
pub concat_well_formed : (texts : List (List ℕ)) → are_well_formed_utf8 texts ≡ true → is_well_formed_utf8 (concat texts) ≡ true
concat_well_formed [] all = refl
concat_well_formed (text ∷ texts) all =
    let parts = and_parts (is_well_formed_utf8 text) (are_well_formed_utf8 texts) all in
    well_formed-append text (concat texts) parts.0 (concat_well_formed texts parts.1)

-- ---- slots by their cuts

none_at : (n i : ℕ) → slice_index (take n []) i ≡ 0
none_at zero i = refl
none_at (suc n) i = refl

-- the first byte from a place on, of the bytes up to an end
part_head : (values : List ℕ) (place end : ℕ) → slice_index (slice_range values place end) 0 ≡ slice_index (take end values) place
part_head values zero end = let e : end - 0 ≡ end = omega arith in rw e refl
part_head [] (suc place) end = none_at (end - suc place) 0 ∙ sym (none_at end (suc place))
part_head (v ∷ vs) (suc place) zero = let e : 0 - suc place ≡ 0 = omega arith in rw e refl
part_head (v ∷ vs) (suc place) (suc end) = let e : suc end - suc place ≡ end - place = omega arith in rw e (part_head vs place end)

cut_parts : (xs ys : List ℕ) (y : ℕ) → IsWellFormedUtf8 (xs ++ y ∷ ys) → (IsWellFormedUtf8 xs × IsWellFormedUtf8 (y ∷ ys)) ↔ (is_continuation_byte y ≡ false)
cut_parts xs ys y whole =
    let count = length-append xs (y ∷ ys) in
    let law = well_formed-cut (xs ++ y ∷ ys) (length xs) whole (omega arith) in
    rw (take-append_seam xs (y ∷ ys), drop-append_seam xs (y ∷ ys), get_or-append_seam xs y ys 0) at law

-- a text may be cut where the rest begins a sequence, and nowhere else
cut_holds : (xs ys : List ℕ) → IsWellFormedUtf8 (xs ++ ys) → is_continuation_byte (slice_index ys 0) ≡ false → IsWellFormedUtf8 xs × IsWellFormedUtf8 ys
cut_holds xs [] whole begins = (subst (λ bytes. IsWellFormedUtf8 bytes) (append-nil xs) whole, refl)
cut_holds xs (y ∷ ys) whole begins = (cut_parts xs ys y whole).1 begins

cut_tells : (xs ys : List ℕ) → IsWellFormedUtf8 (xs ++ ys) → IsWellFormedUtf8 xs → IsWellFormedUtf8 ys → is_continuation_byte (slice_index ys 0) ≡ false
cut_tells xs [] whole p q = refl
cut_tells xs (y ∷ ys) whole p q = (cut_parts xs ys y whole).0 (p, q)

unless_true : (s : Bool) → (s ≡ true → ⊥) → s ≡ false
unless_true false h = refl
unless_true true h = absurd (h refl)

not_both : (b : Bool) → true ≡ b → b ≡ false → ⊥
not_both b t f = cc

-- one slot more before texts that are decided
slot_step : (text : List ℕ) (texts : List (List ℕ)) (cut more : Bool) → cut ≡ is_continuation_byte (slice_index (concat texts) 0) → IsWellFormedUtf8 (text ++ concat texts)
    → (IsWellFormedUtf8 (concat texts) → are_well_formed_utf8 texts ≡ not more) → is_well_formed_utf8 text && are_well_formed_utf8 texts ≡ not (cut || more)
slot_step text texts true more e whole next = unless_true _ (λ both.
    let parts = and_parts (is_well_formed_utf8 text) (are_well_formed_utf8 texts) both in
    not_both _ e (cut_tells text (concat texts) whole parts.0 (concat_well_formed texts parts.1)))
slot_step text texts false more e whole next =
    let parts = cut_holds text (concat texts) whole (sym e) in
    rw parts.0 (next parts.1)

-- the byte at the first offset is the first of the slots, end to end
first_byte : (a : ℤ) (offsets : List ℤ) (values : List ℕ) (end : ℕ) → end ≡ nat_of (last_of (a ∷ offsets)) → AreSoundOffsets (a ∷ offsets)
    → cuts_sequence (take end values) a ≡ is_continuation_byte (slice_index (concat (pieces (a ∷ offsets) values)) 0)
first_byte a offsets values end last sound =
    let covered = covered_is (a ∷ offsets) values sound in
    ap is_continuation_byte
    (ap (λ n. slice_index (take n values) (nat_of a)) last
    ∙ sym (part_head values (nat_of a) (nat_of (last_of (a ∷ offsets))))
    ∙ ap (λ bytes. slice_index bytes 0) covered)

slots_by_cuts : (offsets : List ℤ) (values : List ℕ) (end : ℕ) → end ≡ nat_of (last_of offsets) → AreSoundOffsets offsets → IsWellFormedUtf8 (concat (pieces offsets values))
    → are_well_formed_utf8 (pieces offsets values) ≡ not (list_any (cuts_sequence (take end values)) (drop 1 offsets))
slots_by_cuts [] values end last sound whole = refl
slots_by_cuts (a ∷ []) values end last sound whole = refl
slots_by_cuts (a ∷ b ∷ offsets) values end last sound whole =
    let tail = sound_tail a b offsets sound in
    let last' : end ≡ nat_of (last_of (b ∷ offsets)) = last ∙ ap nat_of (last_of-cons a b offsets) in
    slot_step (slice_range values (nat_of a) (nat_of b)) (pieces (b ∷ offsets) values) _ _ (first_byte b offsets values end last' tail) whole (slots_by_cuts (b ∷ offsets) values end last' tail)

first_begins : (offsets : List ℤ) (values : List ℕ) (end : ℕ) → end ≡ nat_of (last_of offsets) → AreSoundOffsets offsets → IsWellFormedUtf8 (concat (pieces offsets values))
    → list_any (cuts_sequence (take end values)) offsets ≡ list_any (cuts_sequence (take end values)) (drop 1 offsets)
first_begins [] values end last sound whole = refl
first_begins (a ∷ offsets) values end last sound whole =
    let begins : cuts_sequence (take end values) a ≡ false = first_byte a offsets values end last sound ∙ cut_tells [] (concat (pieces (a ∷ offsets) values)) whole refl whole in
    rw begins refl

-- of bytes that are a text the slots are, where no offset cuts a sequence
pub slots_are : (offsets : List ℤ) (values : List ℕ) (end : ℕ) → pos end ≡ last_of offsets → AreSoundOffsets offsets → is_well_formed_utf8 (concat (pieces offsets values)) ≡ true
    → are_well_formed_utf8 (pieces offsets values) ≡ not (list_any (cuts_sequence (take end values)) offsets)
slots_are offsets values end last sound whole =
    let e : end ≡ nat_of (last_of offsets) = ap nat_of last in
    slots_by_cuts offsets values end e sound whole ∙ ap not (sym (first_begins offsets values end e sound whole))

-- ---- the first fault

last_within : (last : ℤ) (count : ℕ) → pos 0 ≤ℤ last → cause_if (int_lt (pos count) last) OffsetsExceedValues ≡ None → nat_of last ≤ count
last_within (pos n) count starts fine = grind (arith, nat_tests)
last_within (negsuc n) count starts fine = absurd (omega (arith, ints))

last_is_there : {offsets : List ℤ} → AreSoundOffsets offsets → length offsets - 1 < length offsets
last_is_there {offsets} sound = let some = sound.not_empty in omega arith

pub within_values : (offsets : List ℤ) (count : ℕ) → AreSoundOffsets offsets → bounds_fault offsets count ≡ None → nat_of (last_of offsets) ≤ count
within_values offsets count sound fine = last_within (last_of offsets) count (from_zero sound (length offsets - 1) (last_is_there sound)) fine

pub no_texts_fault : (texts : List (List ℕ)) → are_well_formed_utf8 texts ≡ true → texts_fault texts ≡ None
unfolding texts_fault
no_texts_fault texts all = rw (concat_well_formed texts all, all) refl

pub text_sound : (offsets : List ℤ) (values : List ℕ) → bounds_fault offsets (length values) ≡ None → are_well_formed_utf8 (pieces offsets values) ≡ true → cut_fault offsets values ≡ None
unfolding cut_fault
text_sound offsets values within all = rw (within, no_texts_fault (pieces offsets values) all) refl

pub text_bounds : (offsets : List ℤ) (values : List ℕ) (cause : Cause) → bounds_fault offsets (length values) ≡ Some cause → cut_fault offsets values ≡ Some cause
unfolding cut_fault
text_bounds offsets values cause fault = rw fault refl

pub text_invalid : (offsets : List ℤ) (values : List ℕ) → bounds_fault offsets (length values) ≡ None → is_well_formed_utf8 (concat (pieces offsets values)) ≡ false → cut_fault offsets values ≡ Some InvalidUtf8
unfolding cut_fault texts_fault
text_invalid offsets values within bad = rw (within, bad) refl

pub text_boundary : (offsets : List ℤ) (values : List ℕ) → bounds_fault offsets (length values) ≡ None → is_well_formed_utf8 (concat (pieces offsets values)) ≡ true → are_well_formed_utf8 (pieces offsets values) ≡ false → cut_fault offsets values ≡ Some CharBoundary
unfolding cut_fault texts_fault
text_boundary offsets values within whole bad = rw (within, whole, bad) refl

-- ---- each slot by itself

last_test : (before : Option Cause) (test : Bool) (cause : Cause) → (before or_else cause_if (not test) cause) ≡ None → test ≡ true
last_test None true cause none = refl
last_test None false cause none = absurd (cc)
last_test (Some other) test cause none = absurd (cc)

bounded : (last : ℤ) (count : ℕ) → nat_of last ≤ count → cause_if (int_lt (pos count) last) OffsetsExceedValues ≡ None
bounded (pos n) count within = let fits : nat_lt count n ≡ false = grind (arith, nat_tests) in rw fits refl
bounded (negsuc n) count within = refl

-- slots that are texts
pub all_where_no_fault : (texts : List (List ℕ)) → texts_fault texts ≡ None → are_well_formed_utf8 texts ≡ true
unfolding texts_fault
all_where_no_fault texts none = last_test _ (are_well_formed_utf8 texts) CharBoundary none

pub slots_decide : (offsets : List ℤ) (values : List ℕ) → AreSoundOffsets offsets → nat_of (last_of offsets) ≤ length values → (cut_fault offsets values ≡ None) ↔ (are_well_formed_utf8 (pieces offsets values) ≡ true)
unfolding cut_fault
slots_decide offsets values sound within =
    let inside = bounded (last_of offsets) (length values) within in (
      λ (none : cut_fault offsets values ≡ None). all_where_no_fault (pieces offsets values) (subst (λ (first : Option Cause). (first or_else texts_fault (pieces offsets values)) ≡ None) inside none),
      λ (all : are_well_formed_utf8 (pieces offsets values) ≡ true). text_sound offsets values inside all,
    )

pub ruleset texts = (within_values, text_sound, text_bounds, text_invalid, text_boundary)

pub ruleset cuts = (read_from_zero, get_or_past)
