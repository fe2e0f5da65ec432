-- Laws of deduplicated buffers: what views over them say, and that each of them is named, in its turn.
use Rattle.std.proofs.Common.{◌≡◌, ℕ, zero, suc, ◌+◌, ◌^◌, ◌<◌, ◌≤◌, Bool, true, false, not, ◌&&◌, nat_le, nat_lt, slice_index_or, List, [], ◌∷◌, ◌++◌, length, map, take, drop, Option, Some, None, refl, sym, ◌∙◌, ap, subst, arith, if◌then◌else◌, bytes_eq, append_assoc, length-append, length-drop, length-take, length-take-le, take-append-drop, drop_at, drop-drop, w32}
use Rattle.std.specs.Int.{to_le_bytes, from_le_bytes}
use Rattle.std.specs.List.{fold, range_with_len}
use Rattle.std.proofs.lemmas.Bool.Decides.{nat_tests}
use Rattle.std.proofs.lemmas.List.{drop-append-le, take-append-le, length-map, get_or-map}
use Rattle.std.proofs.lemmas.Nat.{from_le_bytes-to_le_bytes_4}
use Rattle.std.proofs.lemmas.Slice.Eq.{bytes_eq-Decides}
use Rattle.column_base.specs.declared.errors.Cause.{Cause}
use Rattle.column_base.specs.declared.errors.Cause.TheVariants.{ViewIndex, BufferSlice, PrefixMismatch}
use Rattle.column_base.specs.Answers.{cause_if, ◌or_else◌}
use Rattle.column_base.specs.Lists.{sublist}
use Rattle.column_storage.specs.Slots.{flagged_slots}
use Rattle.column_storage.specs.Validity.{AreFlagsOf}
use Rattle.column_view.specs.Views.{view_length, view_index, view_start, is_long, buffer_at, long_content, view_content, with_index}
use Rattle.column_view.specs.ViewFaults.{long_fault, layout_fault, content_fault, view_fault, views_fault}
use Rattle.column_binview.specs.Slots.{ViewLists, view_lists, contents, view_slots, AreSoundViews}
use Rattle.column_deduped.specs.Deduped.{is_among, place_among, named_with, named, renamed, deduped}
use Rattle.column_deduped.proofs.NamesLemmas.{among-last, place-last, place-within, at-place, AllNamed, AllInside, AreNames, names-few, names-of, Keeps, keeps-fold, numbers-last, among-numbers, past-numbers}

-- ---- no fault

none_both : (first second : Option Cause) → (first or_else second) ≡ None → (first ≡ None) × (second ≡ None)
none_both None second none = (refl, none)
none_both (Some cause) second none = absurd (cc)

both_none : (first second : Option Cause) → first ≡ None → second ≡ None → (first or_else second) ≡ None
both_none first second one two = rw one two

test_fails : (test : Bool) (cause : Cause) → cause_if test cause ≡ None → test ≡ false
test_fails true cause none = absurd (cc)
test_fails false cause none = refl

not_fails : (test : Bool) → not test ≡ false → test ≡ true
not_fails true fails = refl
not_fails false fails = absurd (cc)

-- the view at a place has none
pub fine-at : (text : Bool) (views buffers : List (List ℕ)) (i : ℕ) (d : List ℕ) → views_fault text views buffers ≡ None → i < length views → view_fault text (slice_index_or views i d) buffers ≡ None
fine-at text [] buffers i d fine within = absurd (omega arith)
fine-at text (view ∷ views) buffers zero d fine within = (none_both (view_fault text view buffers) (views_fault text views buffers) fine).0
fine-at text (view ∷ views) buffers (suc i) d fine within =
    fine-at text views buffers i d (none_both (view_fault text view buffers) (views_fault text views buffers) fine).1 (omega arith)

-- ---- a long view without a fault

module _ (view : List ℕ) (buffers : List (List ℕ)) (long : is_long view ≡ true) (fine : layout_fault view buffers ≡ None) where
  no_fault : long_fault view buffers ≡ None
  unfolding layout_fault
  no_fault = rw long at fine

  abbrev past_buffers : Option Cause
  past_buffers = cause_if (nat_le (length buffers) (view_index view)) ViewIndex

  abbrev past_buffer : Option Cause
  past_buffer = cause_if (nat_lt (length (buffer_at buffers (view_index view))) (view_start view + view_length view)) BufferSlice

  abbrev other_prefix : Option Cause
  other_prefix = cause_if (not (bytes_eq (sublist view 4 4) (take 4 (long_content view buffers)))) PrefixMismatch

  place_and_prefix : ((past_buffers or_else past_buffer) ≡ None) × (other_prefix ≡ None)
  place_and_prefix = none_both (past_buffers or_else past_buffer) other_prefix no_fault

  index_and_range : (past_buffers ≡ None) × (past_buffer ≡ None)
  index_and_range = none_both past_buffers past_buffer place_and_prefix.0

  -- its buffer is there
  pub index-inside : view_index view < length buffers
  index-inside =
      let test = test_fails (nat_le (length buffers) (view_index view)) ViewIndex index_and_range.0 in grind (arith, nat_tests)

  range_inside : view_start view + view_length view ≤ length (buffer_at buffers (view_index view))
  range_inside =
      let test = test_fails (nat_lt (length (buffer_at buffers (view_index view))) (view_start view + view_length view)) BufferSlice index_and_range.1 in grind (arith, nat_tests)

  many : 12 < view_length view
  many = grind (arith, nat_tests)

  content_count : length (long_content view buffers) ≡ view_length view
  content_count =
      let ends = range_inside in
      length-take-le (view_length view) (drop (view_start view) (buffer_at buffers (view_index view))) (rw length-drop (omega arith))

  same_prefix : sublist view 4 4 ≡ take 4 (long_content view buffers)
  same_prefix =
      let test = test_fails (not (bytes_eq (sublist view 4 4) (take 4 (long_content view buffers)))) PrefixMismatch place_and_prefix.1 in
      let holds : bytes_eq (sublist view 4 4) (take 4 (long_content view buffers)) ≡ true = not_fails (bytes_eq (sublist view 4 4) (take 4 (long_content view buffers))) test in
      (bytes_eq-Decides (sublist view 4 4) (take 4 (long_content view buffers))).0 holds

  -- its prefix is there
  pub prefix-inside : 8 ≤ length view
  prefix-inside =
      let above = many in
      let prefix : length (take 4 (long_content view buffers)) ≡ 4 = length-take-le 4 (long_content view buffers) (let count = content_count in omega arith) in
      omega (arith, ap length same_prefix, length-take 4 (drop 4 view), length-drop 4 view)

-- ---- the same view over other buffers

front_part : (front rest : List ℕ) (from n : ℕ) → from + n ≤ length front → sublist (front ++ rest) from n ≡ sublist front from n
front_part front rest from n within =
    ap (take n) (drop-append-le from front rest (omega arith))
    ∙ take-append-le n (drop from front) rest (rw length-drop (omega arith))

module _ (view : List ℕ) (index : ℕ) (enough : 8 ≤ length view) where
  eight : length (take 8 view) ≡ 8
  eight = length-take-le 8 view enough

  same_part : (from n : ℕ) → from + n ≤ 8 → sublist (with_index view index) from n ≡ sublist view from n
  unfolding with_index
  same_part from n within =
      ap (λ (ys : List ℕ). sublist ys from n) (append_assoc (take 8 view) (to_le_bytes w32 index) (drop 12 view))
      ∙ front_part (take 8 view) (to_le_bytes w32 index ++ drop 12 view) from n (rw eight within)
      ∙ sym (front_part (take 8 view) (drop 8 view) from n (rw eight within))
      ∙ ap (λ (ys : List ℕ). sublist ys from n) (take-append-drop 8 view)

  after_prefix : drop 8 (with_index view index) ≡ to_le_bytes w32 index ++ drop 12 view
  unfolding with_index
  after_prefix =
      ap (drop 8) (append_assoc (take 8 view) (to_le_bytes w32 index) (drop 12 view))
      ∙ drop_at (take 8 view) (to_le_bytes w32 index ++ drop 12 view) 8 eight

  pub same-length : view_length (with_index view index) ≡ view_length view
  unfolding view_length
  same-length = ap (from_le_bytes w32) (same_part 0 4 (omega arith))

  same_start : view_start (with_index view index) ≡ view_start view
  unfolding view_start
  same_start =
      ap (λ (ys : List ℕ). from_le_bytes w32 (take 4 ys)) (sym (drop-drop 4 8 (with_index view index)) ∙ ap (drop 4) after_prefix)

  pub new-index : index < 2 ^ 32 → view_index (with_index view index) ≡ index
  unfolding view_index
  new-index small =
      ap (λ (ys : List ℕ). from_le_bytes w32 (take 4 ys)) after_prefix ∙ from_le_bytes-to_le_bytes_4 index small

  -- where the buffer at the new place is that at the old one
  module _ (small : index < 2 ^ 32) (old new : List (List ℕ)) (there : index < length new) (same : buffer_at new index ≡ buffer_at old (view_index view)) (long : is_long view ≡ true) where
    long_still : is_long (with_index view index) ≡ true
    long_still = rw same-length long

    same_range : long_content (with_index view index) new ≡ long_content view old
    same_range = rw (same-length, new-index small, same_start, same) refl

    pub same-content : view_content (with_index view index) new ≡ view_content view old
    unfolding view_content
    same-content = rw (long_still, long) same_range

    pub still-fine : layout_fault view old ≡ None → layout_fault (with_index view index) new ≡ None
    unfolding layout_fault
    still-fine fine =
        let inside : nat_le (length new) index ≡ false = grind (arith, nat_tests) in
        let inside_before : nat_le (length old) (view_index view) ≡ false = let h = index-inside view old long fine in grind (arith, nat_tests) in
        rw (long_still, same_part 4 4 (omega arith), same_range, same-length, new-index small, same_start, same, inside)
        (rw (long, inside_before) at fine)

-- ---- views that are renamed

-- What a view says over buffers, and another one over others: the same, where neither has a fault of layout.
pub record SaysAlike (view : List ℕ) (buffers : List (List ℕ)) (other : List ℕ) (others : List (List ℕ)) : Type 0 where
  pub content : view_content view buffers ≡ view_content other others
  pub fine : layout_fault view buffers ≡ None

module _ (names : List ℕ) (buffers : List (List ℕ)) (view : List ℕ) (fine : layout_fault view buffers ≡ None) where
  abbrev kept : List (List ℕ)
  kept = map (buffer_at buffers) names

  long_alike : is_long view ≡ true → is_among names (view_index view) ≡ true → length names < 2 ^ 32 → SaysAlike (with_index view (place_among names (view_index view))) kept view buffers
  long_alike long among few =
      let place = place_among names (view_index view) in
      let within : place < length names = place-within names (view_index view) among in
      let enough = prefix-inside view buffers long fine in
      let there : place < length kept = let count = length-map names (buffer_at buffers) in omega arith in
      let same : buffer_at kept place ≡ buffer_at buffers (view_index view) = get_or-map (buffer_at buffers) names place 0 [] within ∙ ap (buffer_at buffers) (at-place names (view_index view) among) in
      record {
        content = same-content view place enough (omega arith) buffers kept there same long;
        fine = still-fine view place enough (omega arith) buffers kept there same long fine;
      }

  short_alike : is_long view ≡ false → SaysAlike view kept view buffers
  unfolding view_content layout_fault
  short_alike short = record { content = rw short refl; fine = rw short (rw short at fine) }

  alike_if : (long : Bool) → is_long view ≡ long → (is_long view ≡ true → is_among names (view_index view) ≡ true) → length names < 2 ^ 32
      → SaysAlike (if long then with_index view (place_among names (view_index view)) else view) kept view buffers
  alike_if true is among few = long_alike is (among is) few
  alike_if false is among few = short_alike is

content_alike : (text : Bool) (view other : List ℕ) (buffers others : List (List ℕ)) → view_content view buffers ≡ view_content other others → content_fault text view buffers ≡ content_fault text other others
unfolding content_fault
content_alike text view other buffers others same = rw same refl

-- a view that is renamed says the same, and has no fault
renamed_alike : (text : Bool) (names : List ℕ) (buffers : List (List ℕ)) (view : List ℕ) → length names < 2 ^ 32 → (is_long view ≡ true → is_among names (view_index view) ≡ true) → view_fault text view buffers ≡ None
    → (view_content (renamed names view) (map (buffer_at buffers) names) ≡ view_content view buffers) × (view_fault text (renamed names view) (map (buffer_at buffers) names) ≡ None)
renamed_alike text names buffers view few among fine =
    let parts = none_both (layout_fault view buffers) (content_fault text view buffers) fine in
    let alike = alike_if names buffers view parts.0 (is_long view) refl among few in (
      alike.content,
      both_none (layout_fault (renamed names view) (map (buffer_at buffers) names)) (content_fault text (renamed names view) (map (buffer_at buffers) names)) alike.fine
          (content_alike text (renamed names view) view (map (buffer_at buffers) names) buffers alike.content ∙ parts.1),
    )

views_alike : (text : Bool) (names : List ℕ) (buffers views : List (List ℕ)) → length names < 2 ^ 32 → AllNamed names views → views_fault text views buffers ≡ None
    → (contents (map (renamed names) views) (map (buffer_at buffers) names) ≡ contents views buffers) × (views_fault text (map (renamed names) views) (map (buffer_at buffers) names) ≡ None)
views_alike text names buffers [] few all fine = (refl, refl)
views_alike text names buffers (view ∷ views) few all fine =
    let parts = none_both (view_fault text view buffers) (views_fault text views buffers) fine in
    let one = renamed_alike text names buffers view few all.0 parts.0 in
    let rest = views_alike text names buffers views few all.1 parts.1 in (
      ap (λ (content : List ℕ). content ∷ contents (map (renamed names) views) (map (buffer_at buffers) names)) one.0 ∙ ap (λ (values : List (List ℕ)). view_content view buffers ∷ values) rest.0,
      both_none (view_fault text (renamed names view) (map (buffer_at buffers) names)) (views_fault text (map (renamed names) views) (map (buffer_at buffers) names)) one.1 rest.1,
    )

-- long views without a fault name buffers that are there
pub fine-inside : (text : Bool) (view : List ℕ) (buffers : List (List ℕ)) → view_fault text view buffers ≡ None → is_long view ≡ true → view_index view < length buffers
fine-inside text view buffers fine long = index-inside view buffers long (none_both (layout_fault view buffers) (content_fault text view buffers) fine).0

pub all-inside : (text : Bool) (views buffers : List (List ℕ)) → views_fault text views buffers ≡ None → AllInside views buffers
all-inside text [] buffers fine = tt
all-inside text (view ∷ views) buffers fine =
    let parts = none_both (view_fault text view buffers) (views_fault text views buffers) fine in (fine-inside text view buffers parts.0, all-inside text views buffers parts.1)

-- ---- sound lists

module _ (text : Bool) (lists : ViewLists) (sound : AreSoundViews text lists) where
  names_are : AreNames (named lists.views) lists.views lists.buffers
  names_are = names-of lists.views lists.buffers (all-inside text lists.views lists.buffers sound.fine)

  few_names : length (named lists.views) ≤ length lists.buffers
  few_names = names-few (named lists.views) lists.views lists.buffers names_are

  small_names : length (named lists.views) < 2 ^ 32
  small_names = let few = few_names in let most = sound.few in omega arith

  alike : (contents (map (renamed (named lists.views)) lists.views) (map (buffer_at lists.buffers) (named lists.views)) ≡ contents lists.views lists.buffers)
      × (views_fault text (map (renamed (named lists.views)) lists.views) (map (buffer_at lists.buffers) (named lists.views)) ≡ None)
  alike = views_alike text (named lists.views) lists.buffers lists.views small_names names_are.all sound.fine

  pub slots-deduped : view_slots (deduped lists) ≡ view_slots lists
  unfolding view_slots deduped
  slots-deduped = ap (flagged_slots lists.flags) alike.0

  pub fewer-deduped : length (deduped lists).buffers ≤ length lists.buffers
  unfolding deduped
  fewer-deduped = rw length-map few_names

  pub sound-deduped : AreSoundViews text (deduped lists)
  sound-deduped = record {
    fine = unfold deduped in alike.1;
    flagged = unfold deduped in subst (λ (n : ℕ). AreFlagsOf n lists.flags) (sym (length-map lists.views (renamed (named lists.views)))) sound.flagged;
    few = let fewer = fewer-deduped in let most = sound.few in omega arith;
  }

-- ---- lists without buffers

empty : {X : Type 0} (xs : List X) → length xs ≡ 0 → xs ≡ []
empty [] none = refl
empty (x ∷ xs) none = absurd (omega arith)

short_if : (long : Bool) (view other : List ℕ) → (long ≡ true → false ≡ true) → (if long then other else view) ≡ view
short_if true view other never = absurd (let wrong = never refl in cc)
short_if false view other never = refl

short_stay : (views : List (List ℕ)) → AllNamed [] views → map (renamed []) views ≡ views
short_stay [] all = refl
short_stay (view ∷ views) all =
    ap (λ (v : List ℕ). v ∷ map (renamed []) views) (short_if (is_long view) view (with_index view (place_among [] (view_index view))) all.0)
    ∙ ap (λ (vs : List (List ℕ)). view ∷ vs) (short_stay views all.1)

-- they stay as they are
pub deduped-none : (text : Bool) (lists : ViewLists) → AreSoundViews text lists → length lists.buffers ≡ 0 → deduped lists ≡ lists
unfolding deduped
deduped-none text lists sound none =
    let few = few_names text lists sound in
    let no_names : named lists.views ≡ [] = empty (named lists.views) (omega arith) in
    let all : AllNamed [] lists.views = subst (λ (names : List ℕ). AllNamed names lists.views) no_names (names_are text lists sound).all in
    ap (λ (names : List ℕ). view_lists (map (renamed names) lists.views) (map (buffer_at lists.buffers) names) lists.flags) no_names
    ∙ ap (λ (views : List (List ℕ)). view_lists views [] lists.flags) (short_stay lists.views all)
    ∙ ap (λ (buffers : List (List ℕ)). view_lists lists.views buffers lists.flags) (sym (empty lists.buffers none))

-- ---- the names of the answer

-- what a renamed view adds to the first numbers
index_after : (count : ℕ) (view : List ℕ) (place : ℕ) → 8 ≤ length view → place < 2 ^ 32 → is_long view ≡ true
    → named_with (range_with_len 0 count) (with_index view place) ≡ (if not (is_among (range_with_len 0 count) place) then range_with_len 0 count ++ place ∷ [] else range_with_len 0 count)
index_after count view place enough small long =
    let still : is_long (with_index view place) ≡ true = rw (same-length view place enough) long in
    rw (still, new-index view place enough small) refl

turn_if : (long among : Bool) (names final : List ℕ) (view : List ℕ) → is_long view ≡ long → is_among names (view_index view) ≡ among → (is_long view ≡ true → 8 ≤ length view) → length final < 2 ^ 32
    → Keeps (if long && not among then names ++ view_index view ∷ [] else names) final
    → named_with (range_with_len 0 (length names)) (if long then with_index view (place_among final (view_index view)) else view) ≡ range_with_len 0 (length (if long && not among then names ++ view_index view ∷ [] else names))
turn_if false among names final view is found enough small keeps = rw is refl
turn_if true true names final view is found enough small keeps =
    let there = keeps (view_index view) found in
    let inside = place-within names (view_index view) found in
    let low : place_among final (view_index view) < length names = let e = there.1 in omega arith in
    let last = place-within final (view_index view) there.0 in
    let fits : place_among final (view_index view) < 2 ^ 32 = omega arith in
    let old = among-numbers 0 (length names) (place_among final (view_index view)) (omega arith) (omega arith) in
    index_after (length names) view (place_among final (view_index view)) (enough is) fits is ∙ rw old refl
turn_if true false names final view is found enough small keeps =
    let there = keeps (view_index view) (among-last names (view_index view)) in
    let place : place_among final (view_index view) ≡ length names = there.1 ∙ place-last names (view_index view) found in
    let last = place-within final (view_index view) there.0 in
    let fits : place_among final (view_index view) < 2 ^ 32 = omega arith in
    let fresh = past-numbers 0 (length names) (length names) (omega arith) in
    let next : 0 + length names ≡ length names = omega arith in
    let more : length (names ++ view_index view ∷ []) ≡ suc (length names) = omega (arith, length-append names (view_index view ∷ [])) in
    index_after (length names) view (place_among final (view_index view)) (enough is) fits is
    ∙ ap (λ (p : ℕ). if not (is_among (range_with_len 0 (length names)) p) then range_with_len 0 (length names) ++ p ∷ [] else range_with_len 0 (length names)) place
    ∙ rw fresh (ap (λ (p : ℕ). range_with_len 0 (length names) ++ p ∷ []) (sym next) ∙ sym (numbers-last 0 (length names)) ∙ ap (range_with_len 0) (sym more))

prefix_there : (text : Bool) (view : List ℕ) (buffers : List (List ℕ)) → view_fault text view buffers ≡ None → is_long view ≡ true → 8 ≤ length view
prefix_there text view buffers fine long = prefix-inside view buffers long (none_both (layout_fault view buffers) (content_fault text view buffers) fine).0

numbered : (text : Bool) (names final : List ℕ) (views buffers : List (List ℕ)) → views_fault text views buffers ≡ None → length final < 2 ^ 32 → final ≡ fold named_with names views
    → fold named_with (range_with_len 0 (length names)) (map (renamed final) views) ≡ range_with_len 0 (length final)
numbered text names final [] buffers fine small is = ap (λ (xs : List ℕ). range_with_len 0 (length xs)) (sym is)
numbered text names final (view ∷ views) buffers fine small is =
    let parts = none_both (view_fault text view buffers) (views_fault text views buffers) fine in
    let keeps : Keeps (named_with names view) final = subst (Keeps (named_with names view)) (sym is) (keeps-fold (named_with names view) views) in
    ap (λ (xs : List ℕ). fold named_with xs (map (renamed final) views)) (turn_if (is_long view) (is_among names (view_index view)) names final view refl refl (prefix_there text view buffers parts.0) small keeps)
    ∙ numbered text (named_with names view) final views buffers parts.1 small is

-- long views name the buffers, each in its turn
pub names-deduped : (text : Bool) (lists : ViewLists) → AreSoundViews text lists → named (deduped lists).views ≡ range_with_len 0 (length (deduped lists).buffers)
unfolding deduped
names-deduped text lists sound =
    numbered text [] (named lists.views) lists.views lists.buffers sound.fine (small_names text lists sound) refl
    ∙ ap (range_with_len 0) (sym (length-map (named lists.views) (buffer_at lists.buffers)))
