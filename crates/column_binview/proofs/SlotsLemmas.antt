-- Laws of slots behind views: the contents of a part are a part of the contents, and what follows of flags beside them.
use Rattle.std.proofs.Common.{◌≡◌, ◌↔◌, ℕ, zero, suc, ◌+◌, ◌-◌, ◌<◌, ◌≤◌, Bool, true, false, not, List, [], ◌∷◌, ◌++◌, length, take, drop, replicate, get_or, Option, Some, None, refl, sym, ◌∙◌, ap, subst, arith, count_by, if◌then◌else◌}
use Rattle.std.specs.List.{filter_map}
use Rattle.std.proofs.lemmas.List.{length-take, length-map, length-replicate, map-append, get_or-map}
use Rattle.column_base.specs.Kinds.{Slot}
use Rattle.column_base.specs.Lists.{sublist}
use Rattle.column_base.specs.Slots.{slot_at, values_of, row_of, rows_of}
use Rattle.column_base.specs.Utf8.{CanHold}
use Rattle.column_base.proofs.ListsLemmas.{length-sublist, map-sublist, sublist-sublist}
use Rattle.column_storage.specs.Bits.{flags_of, sliced_flags, given_bits, optional_values, valid_values}
use Rattle.column_storage.specs.Slots.{flagged_slots}
use Rattle.column_storage.specs.Validity.{AreFlagsOf, flags_fault, is_valid_at}
use Rattle.column_storage.specs.declared.data_buffers.TheConstants.{MAX_BUFFERS}
use Rattle.column_storage.proofs.FlagsLemmas as flags
use Rattle.column_storage.proofs.SlotsLemmas as storage
use Rattle.column_view.specs.Views.{view_length, view_index, view_start, is_long, buffer_at, inline_content, long_content, view_content, inline_view}
use Rattle.column_view.specs.ViewFaults.{layout_fault, content_fault, view_fault, views_fault, contents_fault}
use Rattle.column_view.proofs.FaultsLemmas.{says_inline, first_none, rest_none, none_both, held, texts_fault, strings_fault}
use Rattle.column_binview.specs.Slots.{ViewLists, view_lists, view_count, contents, view_slots, view_array_fault, AreSoundViews, sliced_views, IsViewPart, AreSums}

-- ---- contents

length-contents : (views buffers : List (List ℕ)) → length (contents views buffers) ≡ length views
length-contents views buffers = length-map views (λ view. view_content view buffers)

-- Flags that are given are as many as the contents. Here and below `all` says that they are as many as the views.
flagged : (lists : ViewLists) → AreFlagsOf (view_count lists) lists.flags → AreFlagsOf (length (contents lists.views lists.buffers)) lists.flags
flagged lists all = subst (λ (n : ℕ). AreFlagsOf n lists.flags) (sym (length-contents lists.views lists.buffers)) all

pub length-view_slots : (lists : ViewLists) → AreFlagsOf (view_count lists) lists.flags → length (view_slots lists) ≡ view_count lists
unfolding view_slots
length-view_slots lists all =
    storage.length-flagged_slots lists.flags (contents lists.views lists.buffers) (flagged lists all) ∙ length-contents lists.views lists.buffers

pub values_of-view_slots : (lists : ViewLists) → AreFlagsOf (view_count lists) lists.flags → values_of (view_slots lists) ≡ contents lists.views lists.buffers
unfolding view_slots
values_of-view_slots lists all = storage.values_of-flagged_slots lists.flags (contents lists.views lists.buffers) (flagged lists all)

inside : (lists : ViewLists) (i : ℕ) → i < view_count lists → i < length (contents lists.views lists.buffers)
inside lists i within = let count = length-contents lists.views lists.buffers in omega arith

within_contents : (lists : ViewLists) (end : ℕ) → end ≤ view_count lists → end ≤ length (contents lists.views lists.buffers)
within_contents lists end within = let count = length-contents lists.views lists.buffers in omega arith

-- ---- slices

pub view_slots-sliced : (text : Bool) (lists : ViewLists) (from n : ℕ) → AreSoundViews text lists → from + n ≤ view_count lists → view_slots (sliced_views lists from n) ≡ sublist (view_slots lists) from n
unfolding view_slots sliced_views
view_slots-sliced text lists from n sound within =
    ap (flagged_slots (sliced_flags lists.flags from n)) (map-sublist (λ (view : List ℕ). view_content view lists.buffers) lists.views from n)
    ∙ storage.flagged_slots-sliced lists.flags (contents lists.views lists.buffers) from n (flagged lists sound.flagged) (within_contents lists (from + n) within)

pub view_count-sliced : (lists : ViewLists) (from n : ℕ) → from + n ≤ view_count lists → view_count (sliced_views lists from n) ≡ n
unfolding sliced_views
view_count-sliced lists from n within = length-sublist lists.views from n within

pub views_fault-take : (text : Bool) (views buffers : List (List ℕ)) (n : ℕ) → views_fault text views buffers ≡ None → views_fault text (take n views) buffers ≡ None
views_fault-take text views buffers zero fine = refl
views_fault-take text [] buffers (suc n) fine = refl
views_fault-take text (view ∷ views) buffers (suc n) fine =
    none_both (view_fault text view buffers) (views_fault text (take n views) buffers)
    (first_none (view_fault text view buffers) (views_fault text views buffers) fine)
    (views_fault-take text views buffers n (rest_none (view_fault text view buffers) (views_fault text views buffers) fine))

pub views_fault-drop : (text : Bool) (views buffers : List (List ℕ)) (n : ℕ) → views_fault text views buffers ≡ None → views_fault text (drop n views) buffers ≡ None
views_fault-drop text views buffers zero fine = fine
views_fault-drop text [] buffers (suc n) fine = refl
views_fault-drop text (view ∷ views) buffers (suc n) fine =
    views_fault-drop text views buffers n (rest_none (view_fault text view buffers) (views_fault text views buffers) fine)

pub AreSoundViews-sliced : (text : Bool) (lists : ViewLists) (from n : ℕ) → AreSoundViews text lists → from + n ≤ view_count lists → AreSoundViews text (sliced_views lists from n)
unfolding sliced_views
AreSoundViews-sliced text lists from n sound within = record {
  fine = views_fault-take text (drop from lists.views) lists.buffers n (views_fault-drop text lists.views lists.buffers from sound.fine);
  flagged = subst (λ (m : ℕ). AreFlagsOf m (sliced_flags lists.flags from n)) (sym (length-sublist lists.views from n within)) (flags.length-sliced_flags lists.flags (length lists.views) from n sound.flagged within);
  few = sound.few;
}

pub part_is : (text : Bool) (lists : ViewLists) (from n : ℕ) → AreSoundViews text lists → from + n ≤ view_count lists → IsViewPart text lists from n (sliced_views lists from n)
part_is text lists from n sound within = record {
  part = refl;
  slots = view_slots-sliced text lists from n sound within;
  count = view_count-sliced lists from n within;
  sound = AreSoundViews-sliced text lists from n sound within;
}

-- a part keeps the buffers, and its slots are not counted
pub sums-sliced : (lists : ViewLists) (bytes : Option ℕ) (buffer_bytes from n : ℕ) → AreSums lists bytes buffer_bytes → AreSums (sliced_views lists from n) None buffer_bytes
unfolding sliced_views
sums-sliced lists bytes buffer_bytes from n sums = record { slots = tt; buffers = sums.buffers }

-- ---- a slot at a place

view_fine : (text : Bool) (views buffers : List (List ℕ)) (i : ℕ) (d : List ℕ) → views_fault text views buffers ≡ None → i < length views → view_fault text (get_or views i d) buffers ≡ None
view_fine text [] buffers i d fine within = absurd (omega arith)
view_fine text (view ∷ views) buffers zero d fine within = first_none (view_fault text view buffers) (views_fault text views buffers) fine
view_fine text (view ∷ views) buffers (suc i) d fine within =
    view_fine text views buffers i d (rest_none (view_fault text view buffers) (views_fault text views buffers) fine) (omega arith)

-- the view that is read at a place
pub fine_at : (text : Bool) (lists : ViewLists) (i : ℕ) (view : List ℕ) → view ≡ get_or lists.views i view → AreSoundViews text lists → i < view_count lists → view_fault text view lists.buffers ≡ None
fine_at text lists i view at sound within =
    subst (λ (v : List ℕ). view_fault text v lists.buffers ≡ None) (sym at) (view_fine text lists.views lists.buffers i view sound.fine within)

pub layout_at : (text : Bool) (lists : ViewLists) (i : ℕ) (view : List ℕ) → view ≡ get_or lists.views i view → AreSoundViews text lists → i < view_count lists → layout_fault view lists.buffers ≡ None
layout_at text lists i view at sound within =
    first_none (layout_fault view lists.buffers) (content_fault text view lists.buffers) (fine_at text lists i view at sound within)

pub bytes_at : (lists : ViewLists) (i : ℕ) (view : List ℕ) → view ≡ get_or lists.views i view → AreFlagsOf (view_count lists) lists.flags → i < view_count lists → (slot_at (view_slots lists) i).bytes ≡ view_content view lists.buffers
unfolding view_slots
bytes_at lists i view at all within =
    storage.bytes-flagged_slots lists.flags (contents lists.views lists.buffers) i (flagged lists all) (inside lists i within)
    ∙ get_or-map (λ (v : List ℕ). view_content v lists.buffers) lists.views i view [] within
    ∙ ap (λ (v : List ℕ). view_content v lists.buffers) (sym at)

pub held_at : (text : Bool) (lists : ViewLists) (i : ℕ) (view : List ℕ) → view ≡ get_or lists.views i view → AreSoundViews text lists → i < view_count lists → CanHold text (view_content view lists.buffers)
held_at text lists i view at sound within = held text view lists.buffers (fine_at text lists i view at sound within)

content_if : (long : Bool) (view : List ℕ) (buffers : List (List ℕ)) → length (if long then long_content view buffers else inline_content view) ≤ view_length view
content_if true view buffers = let count = length-take (view_length view) (drop (view_start view) (buffer_at buffers (view_index view))) in omega arith
content_if false view buffers = let count = length-take (view_length view) (drop 4 view) in omega arith

-- no view says more bytes than it counts
pub length-content : (view : List ℕ) (buffers : List (List ℕ)) → length (view_content view buffers) ≤ view_length view
unfolding view_content
length-content view buffers = content_if (is_long view) view buffers

pub valid_at : (lists : ViewLists) (i : ℕ) → AreFlagsOf (view_count lists) lists.flags → i < view_count lists → (slot_at (view_slots lists) i).valid ≡ is_valid_at lists.flags i
unfolding view_slots
valid_at lists i all within =
    storage.valid-flagged_slots lists.flags (contents lists.views lists.buffers) i (flagged lists all) (inside lists i within)

-- ---- null slots

pub null_slots_are : (lists : ViewLists) → AreFlagsOf (view_count lists) lists.flags → count_by (λ (slot : Slot). not slot.valid) (view_slots lists) ≡ count_by not (given_bits lists.flags)
unfolding view_slots
null_slots_are lists all = storage.nulls-flagged_slots lists.flags (contents lists.views lists.buffers) (flagged lists all)

-- ---- rows

pub rows_are : (lists : ViewLists) → AreFlagsOf (view_count lists) lists.flags → rows_of (view_slots lists) ≡ optional_values (given_bits lists.flags) (values_of (view_slots lists))
unfolding view_slots
rows_are lists all =
    storage.rows_of-flagged_slots lists.flags (contents lists.views lists.buffers) (flagged lists all)
    ∙ ap (λ (vs : List (List ℕ)). optional_values (given_bits lists.flags) vs) (sym (values_of-view_slots lists all))

pub valid_are : (lists : ViewLists) → AreFlagsOf (view_count lists) lists.flags → filter_map row_of (view_slots lists) ≡ valid_values (flags_of (view_count lists) lists.flags) (values_of (view_slots lists))
unfolding view_slots
valid_are lists all =
    storage.valid_rows-flagged_slots lists.flags (contents lists.views lists.buffers) (flagged lists all)
    ∙ ap (λ (n : ℕ). valid_values (flags_of n lists.flags) (contents lists.views lists.buffers)) (length-contents lists.views lists.buffers)
    ∙ ap (λ (vs : List (List ℕ)). valid_values (flags_of (view_count lists) lists.flags) vs) (sym (values_of-view_slots lists all))

-- ---- sound lists

pub sound_where_fine : (text : Bool) (lists : ViewLists) → length lists.buffers ≤ MAX_BUFFERS → view_array_fault text lists ≡ None → AreSoundViews text lists
sound_where_fine text lists few none =
    let fine = first_none (views_fault text lists.views lists.buffers) (flags_fault (view_count lists) lists.flags) none in
    let same = rest_none (views_fault text lists.views lists.buffers) (flags_fault (view_count lists) lists.flags) none in
    record {
      fine = fine;
      flagged = (flags.no_flags_fault (view_count lists) lists.flags).0 same;
      few = few;
    }

pub fine_where_sound : (text : Bool) (lists : ViewLists) → AreSoundViews text lists → view_array_fault text lists ≡ None
fine_where_sound text lists sound =
    none_both (views_fault text lists.views lists.buffers) (flags_fault (view_count lists) lists.flags)
    sound.fine ((flags.no_flags_fault (view_count lists) lists.flags).1 sound.flagged)

pub no_fault_is_sound : (text : Bool) (lists : ViewLists) → length lists.buffers ≤ MAX_BUFFERS → (view_array_fault text lists ≡ None) ↔ AreSoundViews text lists
no_fault_is_sound text lists few = (sound_where_fine text lists few, fine_where_sound text lists)

-- ---- the law of slices

pub flags-sliced : (text : Bool) (lists : ViewLists) (from n : ℕ) → AreSoundViews text lists → from + n ≤ view_count lists → flags_of n (sliced_views lists from n).flags ≡ sublist (flags_of (view_count lists) lists.flags) from n
unfolding sliced_views
flags-sliced text lists from n sound within = flags.flags_of-sliced lists.flags (view_count lists) from n sound.flagged within

pub slot_of_slice : (text : Bool) (lists : ViewLists) (from n i : ℕ) → AreSoundViews text lists → from + n ≤ view_count lists → i < n → slot_at (view_slots (sliced_views lists from n)) i ≡ slot_at (view_slots lists) (from + i)
slot_of_slice text lists from n i sound within inside =
    ap (λ (slots : List Slot). slot_at slots i) (view_slots-sliced text lists from n sound within)
    ∙ storage.slot_at-sublist (view_slots lists) from n i inside

pub slices_are_one : (text : Bool) (lists : ViewLists) (from n start m : ℕ) → AreSoundViews text lists → from + n ≤ view_count lists → start + m ≤ n → sliced_views (sliced_views lists from n) start m ≡ sliced_views lists (from + start) m
unfolding sliced_views
slices_are_one text lists from n start m sound within inside =
    ap (λ (views : List (List ℕ)). view_lists views lists.buffers (sliced_flags (sliced_flags lists.flags from n) start m)) (sublist-sublist lists.views from n start m inside)
    ∙ ap (view_lists (sublist lists.views (from + start) m) lists.buffers) (flags.sliced_flags-sliced lists.flags (view_count lists) from n start m sound.flagged within inside)

pub split_is_whole : (text : Bool) (lists : ViewLists) (place : ℕ) → AreSoundViews text lists → place ≤ view_count lists → view_slots (sliced_views lists 0 place) ++ view_slots (sliced_views lists place (view_count lists - place)) ≡ view_slots lists
split_is_whole text lists place sound within =
    let back = view_count lists - place in
    let count = length-view_slots lists sound.flagged in
    ap (λ (front : List Slot). front ++ view_slots (sliced_views lists place back)) (view_slots-sliced text lists 0 place sound (omega arith))
    ∙ ap (λ (rest : List Slot). sublist (view_slots lists) 0 place ++ rest) (view_slots-sliced text lists place back sound (omega arith))
    ∙ storage.front_and_back (view_slots lists) place back (omega arith)

-- ---- texts

-- byte strings without a fault of contents are texts
pub texts_where_fine : (lists : ViewLists) → AreSoundViews false lists → contents_fault lists.views lists.buffers ≡ None → AreSoundViews true lists
texts_where_fine lists sound fine = record {
  fine = texts_fault lists.views lists.buffers sound.fine ∙ fine;
  flagged = sound.flagged;
  few = sound.few;
}

-- texts are byte strings
pub strings_are_sound : (text : Bool) (lists : ViewLists) → AreSoundViews text lists → AreSoundViews false lists
strings_are_sound text lists sound = record {
  fine = strings_fault text lists.views lists.buffers sound.fine;
  flagged = sound.flagged;
  few = sound.few;
}

-- texts have no fault of contents
pub no_contents_fault : (lists : ViewLists) → AreSoundViews true lists → contents_fault lists.views lists.buffers ≡ None
no_contents_fault lists sound =
    sym (texts_fault lists.views lists.buffers (strings_fault true lists.views lists.buffers sound.fine)) ∙ sound.fine

-- ---- null slots without bytes

pub zero_view : replicate 16 0 ≡ inline_view []
unfolding inline_view
zero_view = refl

zero_fine : (text : Bool) → view_fault text (replicate 16 0) [] ≡ None
zero_fine text =
    subst (λ (view : List ℕ). view_fault text view [] ≡ None) (sym zero_view) ((says_inline [] [] (omega arith)).fine text (λ is. refl))

zeros_fine : (text : Bool) (n : ℕ) → views_fault text (replicate n (replicate 16 0)) [] ≡ None
zeros_fine text zero = refl
zeros_fine text (suc n) =
    none_both (view_fault text (replicate 16 0) []) (views_fault text (replicate n (replicate 16 0)) []) (zero_fine text) (zeros_fine text n)

pub empty_is_sound : (text : Bool) → AreSoundViews text (view_lists [] [] None)
empty_is_sound text = record { fine = refl; flagged = tt; few = omega arith }

pub nulls_are_sound : (text : Bool) (n : ℕ) → AreSoundViews text (view_lists (replicate n (replicate 16 0)) [] (Some (replicate n false)))
nulls_are_sound text n = record {
  fine = zeros_fine text n;
  flagged = length-replicate n false ∙ sym (length-replicate n (replicate 16 0));
  few = omega arith;
}

pub ruleset nulls = (empty_is_sound, nulls_are_sound)

pub ruleset slices = (AreSoundViews-sliced, part_is)

pub ruleset places = (layout_at, bytes_at, held_at, valid_at, length-content)

pub ruleset counts = (length-view_slots, null_slots_are)

pub ruleset values = (length-view_slots, storage.length-values_of, storage.value_at, rows_are, valid_are)

pub ruleset fine = (sound_where_fine)

pub ruleset texts = (texts_where_fine, strings_are_sound)

pub ruleset round = (no_contents_fault)

pub ruleset lengths = (map-append, length-map)
