-- Laws of views.
use Rattle.std.proofs.Common.{◌≡◌, ℕ, zero, suc, ◌+◌, ◌-◌, ◌^◌, ◌<◌, ◌≤◌, true, false, not, ◌==◌, List, [], ◌∷◌, ◌++◌, length, take, drop, slice_get, replicate, slice_range, Some, None, refl, sym, ◌∙◌, ap, arith}
use Rattle.std.proofs.lemmas.Bool.Decides.{nat_tests}
use Rattle.std.proofs.lemmas.List.Sums.{sum_by_more}
use Rattle.std.specs.List.{list_any}
use Rattle.std.specs.Int.{w32, to_le_bytes, from_le_bytes}
use Rattle.std.specs.Str.{bytes_eq}
use Rattle.std.specs.Prelude.{nat_lt, nat_le}
use Rattle.std.proofs.lemmas.Slice.Eq.{bytes_eq-Decides}
use Rattle.std.proofs.lemmas.Nat.{from_le_bytes-to_le_bytes_4}
use Rattle.std.proofs.lemmas.List.{append_assoc, length-take-le, take_at, drop_at, drop-replicate, take-append-le, take_all, length-take, length-drop, drop-drop, drop-append-le, take-append-drop}
use borrow.Rule.Slice.PartMut.{put_mid}
use Rattle.column_base.specs.Lists.{sublist}
use Rattle.column_view.specs.Views.{StandsAt, view_length, view_prefix, view_index, view_start, is_long, buffer_at, long_content, view_content, inline_view, long_view, with_index}
use Rattle.column_view.specs.ViewFaults.{layout_fault}

-- ---- reading

pub range-part : {X : Type 0} (xs : List X) (from n : ℕ) → slice_range xs from (from + n) ≡ sublist xs from n
range-part xs from n =
    let same : from + n - from ≡ n = omega arith in ap (λ k. take k (drop from xs)) same

-- the bytes from a place on, of a view
pub to_end : (view : List ℕ) (from : ℕ) → length view ≡ 16 → slice_range view from 16 ≡ drop from view
to_end view from count = take_all (16 - from) (drop from view) (rw length-drop (omega arith))

pub at_get : (xs : List (List ℕ)) (i : ℕ) (x : List ℕ) → slice_get xs i ≡ Some x → buffer_at xs i ≡ x
at_get [] i x at = absurd (cc)
at_get (y ∷ xs) zero x at = cc
at_get (y ∷ xs) (suc i) x at = at_get xs i x at

-- the buffer that a long view names is there
pub names_buffer : (view : List ℕ) (buffers : List (List ℕ)) → 12 < view_length view → layout_fault view buffers ≡ None → view_index view < length buffers
unfolding layout_fault
names_buffer view buffers long sound = grind (arith, nat_tests)

-- and has its range
pub names_range : (view : List ℕ) (buffers : List (List ℕ)) → 12 < view_length view → layout_fault view buffers ≡ None → view_start view + view_length view ≤ length (buffer_at buffers (view_index view))
unfolding layout_fault
names_range view buffers long sound = grind (arith, nat_tests)

pub ruleset reading = (range-part, to_end, at_get, names_buffer, names_range)

-- ---- making

-- bytes written into the room of a view
pub put_inline : (written part head bytes : List ℕ) → written ≡ head → part ≡ bytes → length head ≡ 4 → length bytes ≤ 12 → put_mid 4 (4 + length bytes - 4) (written ++ replicate 12 0) part ≡ head ++ bytes ++ replicate (12 - length bytes) 0
put_inline written part head bytes same same_part four few =
    let count : 4 + length bytes - 4 ≡ length bytes = omega arith in
    let front : take 4 (head ++ replicate 12 0) ≡ head = take_at head (replicate 12 0) 4 four in
    let rest : drop 4 (head ++ replicate 12 0) ≡ replicate 12 0 = drop_at head (replicate 12 0) 4 four in
    rw (same, same_part, count)
    (ap (λ (ys : List ℕ). ys ++ (bytes ++ drop (length bytes) (drop 4 (head ++ replicate 12 0)))) front
    ∙ ap (λ (ys : List ℕ). head ++ (bytes ++ drop (length bytes) ys)) rest
    ∙ ap (λ (ys : List ℕ). head ++ (bytes ++ ys)) (drop-replicate (length bytes) 12 0)
    ∙ sym (append_assoc head bytes (replicate (12 - length bytes) 0)))

-- ---- views of short values

no_other : (n : ℕ) → list_any (λ byte. not (byte == 0)) (replicate n 0) ≡ false
no_other zero = refl
no_other (suc n) = no_other n

module _ (bytes : List ℕ) (few : length bytes ≤ 12) where
  pub view_length-inline_view : view_length (inline_view bytes) ≡ length bytes
  unfolding view_length inline_view
  view_length-inline_view = from_le_bytes-to_le_bytes_4 (length bytes) (omega arith)

  is_short : is_long (inline_view bytes) ≡ false
  is_short = let n = view_length-inline_view in grind (arith, nat_tests)

  pub view_content-inline_view : (buffers : List (List ℕ)) → view_content (inline_view bytes) buffers ≡ bytes
  unfolding view_content inline_view
  view_content-inline_view buffers =
      rw is_short
      (ap (λ (n : ℕ). take n (bytes ++ replicate (12 - length bytes) 0)) view_length-inline_view
      ∙ take_at bytes (replicate (12 - length bytes) 0) (length bytes) refl)

  pub layout_fault-inline_view : (buffers : List (List ℕ)) → layout_fault (inline_view bytes) buffers ≡ None
  unfolding layout_fault inline_view
  layout_fault-inline_view buffers =
      let zeros : drop (length bytes) (bytes ++ replicate (12 - length bytes) 0) ≡ replicate (12 - length bytes) 0 = drop_at bytes (replicate (12 - length bytes) 0) (length bytes) refl in
      let padding : drop (4 + view_length (inline_view bytes)) (inline_view bytes) ≡ replicate (12 - length bytes) 0 =
      ap (λ (n : ℕ). drop (4 + n) (inline_view bytes)) view_length-inline_view ∙ sym (drop-drop (length bytes) 4 (inline_view bytes)) ∙ zeros in
      rw (is_short, padding, no_other (12 - length bytes)) refl

-- ---- views of long values

module _ (bytes : List ℕ) (index start : ℕ) (long : 12 < length bytes) (fits : length bytes < 2 ^ 32) where
  four : length (take 4 bytes) ≡ 4
  four = length-take-le 4 bytes (omega arith)

  pub view_length-long_view : view_length (long_view bytes index start) ≡ length bytes
  unfolding view_length long_view
  view_length-long_view = from_le_bytes-to_le_bytes_4 (length bytes) fits

  is_long-long_view : is_long (long_view bytes index start) ≡ true
  is_long-long_view = let n = view_length-long_view in grind (arith, nat_tests)

  after_prefix : (rest : List ℕ) → drop 8 (to_le_bytes w32 (length bytes) ++ take 4 bytes ++ rest) ≡ rest
  after_prefix rest = drop_at (take 4 bytes) rest 4 four

  pub view_index-long_view : index < 2 ^ 32 → view_index (long_view bytes index start) ≡ index
  unfolding view_index long_view
  view_index-long_view small =
      ap (λ (ys : List ℕ). from_le_bytes w32 (take 4 ys)) (ap (drop 8) (append_assoc (to_le_bytes w32 (length bytes) ++ take 4 bytes) (to_le_bytes w32 index) (to_le_bytes w32 start)) ∙ after_prefix (to_le_bytes w32 index ++ to_le_bytes w32 start))
      ∙ from_le_bytes-to_le_bytes_4 index small

  pub view_start-long_view : start < 2 ^ 32 → view_start (long_view bytes index start) ≡ start
  unfolding view_start long_view
  view_start-long_view small =
      ap (λ (ys : List ℕ). from_le_bytes w32 (take 4 ys)) (sym (drop-drop 4 8 (long_view bytes index start)))
      ∙ ap (λ (ys : List ℕ). from_le_bytes w32 (take 4 (drop 4 ys))) (ap (drop 8) (append_assoc (to_le_bytes w32 (length bytes) ++ take 4 bytes) (to_le_bytes w32 index) (to_le_bytes w32 start)) ∙ after_prefix (to_le_bytes w32 index ++ to_le_bytes w32 start))
      ∙ from_le_bytes-to_le_bytes_4 start small

  prefix_bytes : sublist (long_view bytes index start) 4 4 ≡ take 4 bytes
  unfolding long_view
  prefix_bytes =
      ap (λ (ys : List ℕ). take 4 (drop 4 ys)) (append_assoc (to_le_bytes w32 (length bytes) ++ take 4 bytes) (to_le_bytes w32 index) (to_le_bytes w32 start))
      ∙ take_at (take 4 bytes) (to_le_bytes w32 index ++ to_le_bytes w32 start) 4 four

  module _ (small : index < 2 ^ 32) (low : start < 2 ^ 32) (buffers : List (List ℕ)) (stands : StandsAt bytes buffers index start) where
    long_content-is : long_content (long_view bytes index start) buffers ≡ bytes
    long_content-is =
        rw (view_length-long_view, view_index-long_view small, view_start-long_view low) stands.same

    pub view_content-long_view : view_content (long_view bytes index start) buffers ≡ bytes
    unfolding view_content
    view_content-long_view = rw is_long-long_view long_content-is

    pub layout_fault-long_view : layout_fault (long_view bytes index start) buffers ≡ None
    unfolding layout_fault
    layout_fault-long_view =
        let there : nat_le (length buffers) index ≡ false = let h = stands.there in grind (arith, nat_tests) in
        let within : nat_lt (length (buffer_at buffers index)) (start + length bytes) ≡ false = let h = stands.within in grind (arith, nat_tests) in
        let same : bytes_eq (take 4 bytes) (take 4 bytes) ≡ true = (bytes_eq-Decides (take 4 bytes) (take 4 bytes)).1 refl in
        rw (is_long-long_view, prefix_bytes, long_content-is, view_length-long_view, view_index-long_view small, view_start-long_view low, there, within, same) refl

-- ---- the same view of another buffer

front_part : (front rest : List ℕ) (from n : ℕ) → from + n ≤ length front → sublist (front ++ rest) from n ≡ sublist front from n
front_part front rest from n within =
    ap (take n) (drop-append-le from front rest (omega arith))
    ∙ take-append-le n (drop from front) rest (rw length-drop (omega arith))

module _ (view : List ℕ) (index : ℕ) (count : length view ≡ 16) where
  eight : length (take 8 view) ≡ 8
  eight = length-take-le 8 view (omega arith)

  same_part : (from n : ℕ) → from + n ≤ 8 → sublist (with_index view index) from n ≡ sublist view from n
  unfolding with_index
  same_part from n within =
      ap (λ (ys : List ℕ). sublist ys from n) (append_assoc (take 8 view) (to_le_bytes w32 index) (drop 12 view))
      ∙ front_part (take 8 view) (to_le_bytes w32 index ++ drop 12 view) from n (rw eight within)
      ∙ sym (front_part (take 8 view) (drop 8 view) from n (rw eight within))
      ∙ ap (λ (ys : List ℕ). sublist ys from n) (take-append-drop 8 view)

  after_eight : drop 8 (with_index view index) ≡ to_le_bytes w32 index ++ drop 12 view
  unfolding with_index
  after_eight =
      ap (drop 8) (append_assoc (take 8 view) (to_le_bytes w32 index) (drop 12 view))
      ∙ drop_at (take 8 view) (to_le_bytes w32 index ++ drop 12 view) 8 eight

  pub length-with_index : length (with_index view index) ≡ 16
  length-with_index =
      let front : length (sublist (with_index view index) 0 8) ≡ 8 = ap length (same_part 0 8 (omega arith)) ∙ eight in
      let rest : length (drop 12 view) ≡ 4 = omega (arith, length-drop 12 view) in
      let whole : length (to_le_bytes w32 index ++ drop 12 view) ≡ 8 = omega arith in
      let back : length (drop 8 (with_index view index)) ≡ 8 = ap length after_eight ∙ whole in
      omega (arith, length-take 8 (with_index view index), length-drop 8 (with_index view index))

  pub view_length-with_index : view_length (with_index view index) ≡ view_length view
  unfolding view_length
  view_length-with_index = ap (from_le_bytes w32) (same_part 0 4 (omega arith))

  pub view_prefix-with_index : view_prefix (with_index view index) ≡ view_prefix view
  unfolding view_prefix
  view_prefix-with_index = ap (from_le_bytes w32) (same_part 4 4 (omega arith))

  pub view_start-with_index : view_start (with_index view index) ≡ view_start view
  unfolding view_start
  view_start-with_index =
      ap (λ (ys : List ℕ). from_le_bytes w32 (take 4 ys)) (sym (drop-drop 4 8 (with_index view index)) ∙ ap (drop 4) after_eight)

  pub view_index-with_index : index < 2 ^ 32 → view_index (with_index view index) ≡ index
  unfolding view_index
  view_index-with_index small =
      ap (λ (ys : List ℕ). from_le_bytes w32 (take 4 ys)) after_eight ∙ from_le_bytes-to_le_bytes_4 index small

  -- the buffer at the new place is the one at the old place
  module _ (small : index < 2 ^ 32) (old new : List (List ℕ)) (there : index < length new) (same : buffer_at new index ≡ buffer_at old (view_index view)) (long : is_long view ≡ true) where
    long_still : is_long (with_index view index) ≡ true
    long_still = rw view_length-with_index long

    long_content-with_index : long_content (with_index view index) new ≡ long_content view old
    long_content-with_index = rw (view_length-with_index, view_index-with_index small, view_start-with_index, same) refl

    pub view_content-with_index : view_content (with_index view index) new ≡ view_content view old
    unfolding view_content
    view_content-with_index = rw (long_still, long) long_content-with_index

    pub layout_fault-with_index : layout_fault view old ≡ None → layout_fault (with_index view index) new ≡ None
    unfolding layout_fault
    layout_fault-with_index sound =
        let inside : nat_le (length new) index ≡ false = grind (arith, nat_tests) in
        let there_before : nat_le (length old) (view_index view) ≡ false = let h = names_buffer view old (grind (arith, nat_tests)) sound in grind (arith, nat_tests) in
        rw (long_still, same_part 4 4 (omega arith), long_content-with_index, view_length-with_index, view_index-with_index small, view_start-with_index, same, inside)
        (rw (long, there_before) at sound)

pub long_length : (view : List ℕ) → is_long view ≡ true → 12 < view_length view
long_length view long = grind (arith, nat_tests)

pub ruleset sums = (sum_by_more)
