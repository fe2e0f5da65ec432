-- Laws of a builder that takes, of one source, the buffers that views name.
use Rattle.std.proofs.Common.{◌≡◌, ◌≢◌, ℕ, zero, suc, ◌+◌, ◌<◌, ◌≤◌, Bool, true, false, not, ◌&&◌, nat_le, List, [], ◌∷◌, ◌++◌, length, map, take, get_or, set, replicate, slice_index_or, Option, Some, None, Err, refl, sym, ◌∙◌, ap, subst, arith, if◌then◌else◌, ◌==◌, length-set, get_or-set_same, get_or-set_other, unwrap_or, take_all}
use Rattle.std.proofs.lemmas.Bool.Decides.{nat_tests}
use Rattle.std.proofs.lemmas.List.{length-map, length-replicate, map-append, take_more}
use Rattle.std.proofs.lemmas.List.Sums.{fold-append}
use Rattle.column_base.specs.declared.errors.Cause.{Cause}
use Rattle.column_base.specs.declared.errors.PolarsError.{PolarsError}
use Rattle.column_base.specs.declared.errors.PolarsError.TheVariants.{ComputeError, OutOfBounds, NoMemory}
use Rattle.column_base.specs.Answers.{Answers}
use Rattle.column_storage.specs.Validity.{AreFlagsOf}
use Rattle.column_storage.specs.declared.data_buffers.TheConstants.{MAX_BUFFERS}
use Rattle.column_view.specs.Views.{view_index, is_long, buffer_at, with_index}
use Rattle.column_view.specs.ViewFaults.{view_fault, views_fault}
use Rattle.column_blocks.specs.Blocks.{ByteBlocks, blocks_of, buffers_of, block_finished, buffer_pushed, full_fault}
use Rattle.column_blocks.specs.Rows.{flagged_views, pushed_view}
use Rattle.column_blocks.specs.Sources.{SourceBuffers, no_sources, source_added, source_at, places_at, place_of, place_noted, builder_bytes, take_fault, buffer_taken, view_take_fault}
use Rattle.column_binview.specs.Slots.{ViewLists, view_lists, view_count}
use Rattle.column_binview.specs.Builders.{ViewBuilder, view_builder, lists_of, no_slots, with_source, pushed_source_view}
use Rattle.column_deduped.specs.Deduped.{is_among, place_among, named_with, named, renamed, deduped}
use Rattle.column_deduped.proofs.NamesLemmas.{among-more, among-last, among-other, place-more, place-last, AllNamed, AreNames, names-none, names-kept, names-new, names-free}
use Rattle.column_deduped.proofs.DedupedLemmas.{fine-at, fine-inside}

-- ---- finished buffers

buffers_are : (buffers : List (List ℕ)) → buffers_of (blocks_of buffers) ≡ buffers
unfolding buffers_of
buffers_are buffers = refl

-- ---- the place of a name, if it is one

abbrev name_place : List ℕ → ℕ → Option ℕ
name_place names n = if is_among names n then Some (place_among names n) else None

other_place : (among : Bool) (names : List ℕ) (name n : ℕ) → is_among names n ≡ among → (n == name) ≡ false → name_place (names ++ name ∷ []) n ≡ name_place names n
other_place true names name n is other =
    rw (among-more names (name ∷ []) n is, is, place-more names (name ∷ []) n is) refl
other_place false names name n is other =
    let still : is_among (names ++ name ∷ []) n ≡ false = among-other names name n other ∙ is in rw (still, is) refl

-- a new name comes last, and the others keep their places
place_after : (here : Bool) (names : List ℕ) (name n : ℕ) → (n == name) ≡ here → is_among names name ≡ false → name_place (names ++ name ∷ []) n ≡ (if here then Some (length names) else name_place names n)
place_after true names name n is new =
    let same : n ≡ name = grind (arith, nat_tests) in
    ap (name_place (names ++ name ∷ [])) same ∙ rw (among-last names name, place-last names name new) refl
place_after false names name n is new = other_place (is_among names n) names name n refl is

-- ---- the places that are noted

noted_if : (here : Bool) (row : List (Option ℕ)) (name n place : ℕ) → (n == name) ≡ here → name < length row → get_or (set row name (Some place)) n None ≡ (if here then Some place else get_or row n None)
noted_if true row name n place is within =
    let same : n ≡ name = grind (arith, nat_tests) in
    ap (λ (k : ℕ). get_or (set row name (Some place)) k None) same ∙ get_or-set_same row name (Some place) None within
noted_if false row name n place is within =
    let other : n ≢ name = grind (arith, nat_tests) in get_or-set_other row name n (Some place) None other

noted_row : (taken : SourceBuffers) (name place : ℕ) → 0 < length taken.places → places_at (place_noted taken 0 name place) 0 ≡ set (places_at taken 0) name (Some place)
unfolding place_noted
noted_row taken name place some = get_or-set_same taken.places 0 (set (places_at taken 0) name (Some place)) [] some

place_noted_at : (taken : SourceBuffers) (name place n : ℕ) → 0 < length taken.places → name < length (places_at taken 0) → place_of (place_noted taken 0 name place) 0 n ≡ (if n == name then Some place else place_of taken 0 n)
unfolding place_of
place_noted_at taken name place n some within =
    ap (λ (row : List (Option ℕ)). get_or row n None) (noted_row taken name place some) ∙ noted_if (n == name) (places_at taken 0) name n place refl within

-- The one source has these buffers, and of each of them that is named its place among the names is noted.
pub record AreNoted (names : List ℕ) (buffers : List (List ℕ)) (taken : SourceBuffers) : Type 0 where
  pub source : source_at taken 0 ≡ buffers
  pub row : length (places_at taken 0) ≡ length buffers
  pub some : 0 < length taken.places
  pub registered : 0 < length taken.sources
  pub places : (n : ℕ) → place_of taken 0 n ≡ name_place names n

noted_more : (names : List ℕ) (buffers : List (List ℕ)) (taken : SourceBuffers) (name : ℕ) → AreNoted names buffers taken → is_among names name ≡ false → name < length buffers → AreNoted (names ++ name ∷ []) buffers (place_noted taken 0 name (length names))
noted_more names buffers taken name noted new within = record {
  source = unfold place_noted in noted.source;
  row = ap length (noted_row taken name (length names) noted.some) ∙ length-set (places_at taken 0) name (Some (length names)) ∙ noted.row;
  some = unfold place_noted in subst (λ (k : ℕ). 0 < k) (sym (length-set taken.places 0 (set (places_at taken 0) name (Some (length names))))) noted.some;
  registered = unfold place_noted in noted.registered;
  places = λ n.
      let inside : name < length (places_at taken 0) = let e = noted.row in omega arith in
      place_noted_at taken name (length names) n noted.some inside
      ∙ ap (λ (rest : Option ℕ). if n == name then Some (length names) else rest) (noted.places n)
      ∙ sym (place_after (n == name) names name n refl new);
}

none_there : (n i : ℕ) → get_or {A = Option ℕ} (replicate n None) i None ≡ None
none_there zero i = refl
none_there (suc n) zero = refl
none_there (suc n) (suc i) = none_there n i

none_noted : (buffers : List (List ℕ)) (n : ℕ) → place_of (source_added no_sources buffers) 0 n ≡ None
unfolding place_of
none_noted buffers n = none_there (length buffers) n

-- ---- the builder after some views

-- views over the buffers that they name
abbrev builder_with : List ℕ → List (List ℕ) → List (List ℕ) → SourceBuffers → ViewBuilder
builder_with names views buffers taken = view_builder
    (flagged_views (map (renamed names) views) None)
    (builder_bytes (blocks_of (map (buffer_at buffers) names)) taken)

-- A builder that has taken views of its one source, and the buffers that they name.
pub record HasTaken (names : List ℕ) (views buffers : List (List ℕ)) (builder : ViewBuilder) : Type 0 where
  pub are : AreNames names views buffers
  pub builder_is : builder ≡ builder_with names views buffers builder.bytes.taken
  pub noted : AreNoted names buffers builder.bytes.taken

-- the same after one view more, which is not refused
record TakesOne (names : List ℕ) (views buffers : List (List ℕ)) (builder : ViewBuilder) (fault : Option Cause) : Type 0 where
  after : HasTaken names views buffers builder
  free : fault ≡ None

renamed_push : (names : List ℕ) (views : List (List ℕ)) (view pushed : List ℕ) → renamed names view ≡ pushed → map (renamed names) (views ++ view ∷ []) ≡ map (renamed names) views ++ pushed ∷ []
renamed_push names views view pushed is = map-append (renamed names) views (view ∷ []) ∙ ap (λ (v : List ℕ). map (renamed names) views ++ v ∷ []) is

renamed_if : (long : Bool) (names more : List ℕ) (view : List ℕ) → (long ≡ true → is_among names (view_index view) ≡ true)
    → (if long then with_index view (place_among (names ++ more) (view_index view)) else view) ≡ (if long then with_index view (place_among names (view_index view)) else view)
renamed_if true names more view among = ap (with_index view) (place-more names more (view_index view) (among refl))
renamed_if false names more view among = refl

-- views whose names are there are renamed alike where there are more
renamed_more : (names more : List ℕ) (views : List (List ℕ)) → AllNamed names views → map (renamed (names ++ more)) views ≡ map (renamed names) views
renamed_more names more [] all = refl
renamed_more names more (view ∷ views) all =
    ap (λ (v : List ℕ). v ∷ map (renamed (names ++ more)) views) (renamed_if (is_long view) names more view all.0)
    ∙ ap (λ (vs : List (List ℕ)). renamed names view ∷ vs) (renamed_more names more views all.1)

module _ (names : List ℕ) (views buffers : List (List ℕ)) (taken : SourceBuffers) (view : List ℕ) (are : AreNames names views buffers) (noted : AreNoted names buffers taken)
    (few : length buffers ≤ MAX_BUFFERS) (inside : is_long view ≡ true → view_index view < length buffers) where
  abbrev named_buffers : List (List ℕ)
  named_buffers = map (buffer_at buffers) names

  abbrev blocks : ByteBlocks
  blocks = blocks_of named_buffers

  -- one view more, where the buffer that it names stands at a place or is to be taken
  abbrev taken_at : Option ℕ → ViewBuilder
  taken_at found = view_builder
      (pushed_view (flagged_views (map (renamed names) views) None) (with_index view (unwrap_or found (length (buffers_of blocks)))) true)
      (buffer_taken found (builder_bytes blocks taken) 0 (view_index view))

  abbrev unchanged : ViewBuilder
  unchanged = view_builder (pushed_view (flagged_views (map (renamed names) views) None) view true) (builder_bytes blocks taken)

  takes_short : is_long view ≡ false → TakesOne names (views ++ view ∷ []) buffers unchanged None
  takes_short short = record {
    after = record {
      are = names-kept names views buffers view are (λ long. absurd (let wrong : true ≡ false = sym long ∙ short in cc));
      builder_is = ap (λ (vs : List (List ℕ)). view_builder (flagged_views vs None) (builder_bytes blocks taken)) (sym (renamed_push names views view view (rw short refl)));
      noted = noted;
    };
    free = refl;
  }

  takes_old : is_long view ≡ true → is_among names (view_index view) ≡ true → TakesOne names (views ++ view ∷ []) buffers (taken_at (Some (place_among names (view_index view)))) None
  takes_old long among = record {
    after = record {
      are = names-kept names views buffers view are (λ is. among);
      builder_is =
          ap (λ (vs : List (List ℕ)). view_builder (flagged_views vs None) (builder_bytes (block_finished blocks) taken)) (sym (renamed_push names views view (with_index view (place_among names (view_index view))) (rw long refl)))
          ∙ ap (λ (bs : List (List ℕ)). view_builder (flagged_views (map (renamed names) (views ++ view ∷ [])) None) (builder_bytes (blocks_of bs) taken)) (buffers_are named_buffers);
      noted = noted;
    };
    free = refl;
  }

  abbrev new_names : List ℕ
  new_names = names ++ view_index view ∷ []

  count_now : length (buffers_of blocks) ≡ length names
  count_now = ap length (buffers_are named_buffers) ∙ length-map names (buffer_at buffers)

  blocks_now : buffer_pushed blocks (buffer_at (source_at taken 0) (view_index view)) ≡ blocks_of (map (buffer_at buffers) new_names)
  blocks_now =
      ap (λ (bs : List (List ℕ)). blocks_of (bs ++ buffer_at (source_at taken 0) (view_index view) ∷ [])) (buffers_are named_buffers)
      ∙ ap (λ (source : List (List ℕ)). blocks_of (named_buffers ++ buffer_at source (view_index view) ∷ [])) noted.source
      ∙ ap (λ (bs : List (List ℕ)). blocks_of bs) (sym (map-append (buffer_at buffers) names (view_index view ∷ [])))

  views_now : is_long view ≡ true → is_among names (view_index view) ≡ false → map (renamed names) views ++ with_index view (length names) ∷ [] ≡ map (renamed new_names) (views ++ view ∷ [])
  views_now long new =
      ap (λ (vs : List (List ℕ)). vs ++ with_index view (length names) ∷ []) (sym (renamed_more names (view_index view ∷ []) views are.all))
      ∙ sym (renamed_push new_names views view (with_index view (length names)) (rw (long, place-last names (view_index view) new) refl))

  takes_new : is_long view ≡ true → is_among names (view_index view) ≡ false → TakesOne new_names (views ++ view ∷ []) buffers (taken_at None) (full_fault blocks)
  takes_new long new =
      let name = view_index view in
      let noted_now : SourceBuffers = place_noted taken 0 name (length (buffers_of blocks)) in
      let free = names-free names views buffers view are new (inside long) in
      record {
        after = record {
          are = names-new names views buffers view are new (inside long);
          builder_is =
              ap (λ (n : ℕ). view_builder (flagged_views (map (renamed names) views ++ with_index view n ∷ []) None) (builder_bytes (buffer_pushed blocks (buffer_at (source_at taken 0) name)) noted_now)) count_now
              ∙ ap (λ (vs : List (List ℕ)). view_builder (flagged_views vs None) (builder_bytes (buffer_pushed blocks (buffer_at (source_at taken 0) name)) noted_now)) (views_now long new)
              ∙ ap (λ (bs : ByteBlocks). view_builder (flagged_views (map (renamed new_names) (views ++ view ∷ [])) None) (builder_bytes bs noted_now)) blocks_now;
          noted = subst (λ (n : ℕ). AreNoted new_names buffers (place_noted taken 0 name n)) (sym count_now) (noted_more names buffers taken name noted new (inside long));
        };
        free = let room : nat_le MAX_BUFFERS (length (buffers_of blocks)) ≡ false = let e = count_now in let less : length (buffers_of blocks) < MAX_BUFFERS = omega arith in grind (arith, nat_tests) in rw room refl;
      }

  by_name : (among : Bool) → is_among names (view_index view) ≡ among → is_long view ≡ true
      → TakesOne (if not among then new_names else names) (views ++ view ∷ []) buffers (taken_at (if among then Some (place_among names (view_index view)) else None)) (take_fault (if among then Some (place_among names (view_index view)) else None) blocks)
  by_name true is long = takes_old long is
  by_name false is long = takes_new long is

  by_length : (long : Bool) → is_long view ≡ long
      → TakesOne (if long && not (is_among names (view_index view)) then new_names else names) (views ++ view ∷ []) buffers
      (if long then taken_at (name_place names (view_index view)) else unchanged) (if long then take_fault (name_place names (view_index view)) blocks else None)
  by_length true is = by_name (is_among names (view_index view)) refl is
  by_length false is = takes_short is

  as_one : (long : Bool) (found : Option ℕ)
      → view_builder (pushed_view (flagged_views (map (renamed names) views) None) (if long then with_index view (unwrap_or found (length (buffers_of blocks))) else view) true)
      (if long then buffer_taken found (builder_bytes blocks taken) 0 (view_index view) else builder_bytes blocks taken) ≡ (if long then taken_at found else unchanged)
  as_one true found = refl
  as_one false found = refl

  takes_one : TakesOne (named_with names view) (views ++ view ∷ []) buffers (pushed_source_view (builder_with names views buffers taken) view 0) (view_take_fault (builder_bytes blocks taken) view 0)
  takes_one =
      subst (λ (b : ViewBuilder). TakesOne (named_with names view) (views ++ view ∷ []) buffers b (view_take_fault (builder_bytes blocks taken) view 0)) (sym (as_one (is_long view) (place_of taken 0 (view_index view))))
      (subst (λ (found : Option ℕ). TakesOne (named_with names view) (views ++ view ∷ []) buffers (if is_long view then taken_at found else unchanged) (if is_long view then take_fault found blocks else None))
      (sym (noted.places (view_index view))) (by_length (is_long view) refl))

taken_step : (names : List ℕ) (views buffers : List (List ℕ)) (builder : ViewBuilder) (view : List ℕ) → length buffers ≤ MAX_BUFFERS → (is_long view ≡ true → view_index view < length buffers) → HasTaken names views buffers builder
    → HasTaken (named_with names view) (views ++ view ∷ []) buffers (pushed_source_view builder view 0) × (view_take_fault builder.bytes view 0 ≡ None)
taken_step names views buffers builder view few inside before =
    let one = takes_one names views buffers builder.bytes.taken view before.are before.noted few inside in
    subst (λ (b : ViewBuilder). HasTaken (named_with names view) (views ++ view ∷ []) buffers (pushed_source_view b view 0) × (view_take_fault b.bytes view 0 ≡ None)) (sym before.builder_is) (one.after, one.free)

-- ---- the loop over views

-- The builder after the first i views: they have been taken, with the buffers that they name.
pub record IsTaking (views buffers : List (List ℕ)) (i : ℕ) (source : ℕ) (builder : ViewBuilder) : Type 0 where
  pub few : length buffers ≤ MAX_BUFFERS
  pub first : source ≡ 0
  pub taken : HasTaken (named (take i views)) (take i views) buffers builder

pub taking-init : (views buffers : List (List ℕ)) (source : ℕ) (builder : ViewBuilder) → length buffers ≤ MAX_BUFFERS → source ≡ 0 → builder ≡ with_source no_slots buffers → IsTaking views buffers 0 source builder
taking-init views buffers source builder few first is = record {
  few = few;
  first = first;
  taken = subst (HasTaken [] [] buffers) (sym is)
      (record {
        are = names-none buffers;
        builder_is = refl;
        noted = record { source = refl; row = length-replicate {A = Option ℕ} (length buffers) None; some = omega arith; registered = omega arith; places = none_noted buffers };
      });
}

module _ (views buffers : List (List ℕ)) (builder : ViewBuilder) (i source : ℕ) (taking : IsTaking views buffers i source builder) where
  pub taking-registered : source < length builder.bytes.taken.sources
  taking-registered = subst (λ (s : ℕ). s < length builder.bytes.taken.sources) (sym taking.first) taking.taken.noted.registered

  pub taking-unflagged : builder.rows.flags ≡ None
  taking-unflagged = ap (λ (b : ViewBuilder). b.rows.flags) taking.taken.builder_is

  module _ (text : Bool) (fine : views_fault text views buffers ≡ None) (view : List ℕ) (at : view ≡ slice_index_or views i view) (within : i < length views) where
    view_fine : view_fault text view buffers ≡ None
    view_fine = ap (λ (v : List ℕ). view_fault text v buffers) at ∙ fine-at text views buffers i view fine within

    pub taking-fine : view_fault text view (source_at builder.bytes.taken source) ≡ None
    taking-fine =
        ap (λ (s : ℕ). view_fault text view (source_at builder.bytes.taken s)) taking.first
        ∙ ap (λ (bs : List (List ℕ)). view_fault text view bs) taking.taken.noted.source
        ∙ view_fine

    step : HasTaken (named_with (named (take i views)) view) (take i views ++ view ∷ []) buffers (pushed_source_view builder view 0) × (view_take_fault builder.bytes view 0 ≡ None)
    step = taken_step (named (take i views)) (take i views) buffers builder view taking.few (fine-inside text view buffers view_fine) taking.taken

    -- no view is refused
    pub taking-free : view_take_fault builder.bytes view source ≡ None
    taking-free = ap (view_take_fault builder.bytes view) taking.first ∙ step.1

    pub taking-more : (new : ViewBuilder) → new ≡ pushed_source_view builder view source → IsTaking views buffers (i + 1) source new
    taking-more new is =
        let more : take (i + 1) views ≡ take i views ++ view ∷ [] = take_more views i view within ∙ ap (λ (v : List ℕ). take i views ++ v ∷ []) (sym at) in
        let names : named (take (i + 1) views) ≡ named_with (named (take i views)) view = ap named more ∙ fold-append named_with [] (take i views) (view ∷ []) in
        let new_is : new ≡ pushed_source_view builder view 0 = is ∙ ap (pushed_source_view builder view) taking.first in
        record {
          few = taking.few;
          first = taking.first;
          taken = subst (λ (b : ViewBuilder). HasTaken (named (take (i + 1) views)) (take (i + 1) views) buffers b) (sym new_is)
              (subst (λ (ns : List ℕ). HasTaken ns (take (i + 1) views) buffers (pushed_source_view builder view 0)) (sym names)
              (subst (λ (vs : List (List ℕ)). HasTaken (named_with (named (take i views)) view) vs buffers (pushed_source_view builder view 0)) (sym more) step.0));
        }

  -- after all views
  pub taking-done : length views ≤ i → lists_of builder ≡ deduped (view_lists views buffers None)
  unfolding deduped
  taking-done past =
      let done : HasTaken (named views) views buffers builder = subst (λ (vs : List (List ℕ)). HasTaken (named vs) vs buffers builder) (take_all i views past) taking.taken in
      ap lists_of done.builder_is ∙ ap (λ (bs : List (List ℕ)). view_lists (map (renamed (named views)) views) bs None) (buffers_are (map (buffer_at buffers) (named views)))

-- ---- refusals

memory_if : {X Y : Type 0} (P : X → Type 0) (Q : Y → Type 0) (error : PolarsError) → Answers (Err error) None P → Answers (Err error) None Q
memory_if P Q (ComputeError cause) told = absurd (cc)
memory_if P Q (OutOfBounds cause) told = absurd (cc)
memory_if P Q NoMemory told = tt

-- where there is no fault, memory ran out
pub memory-alone : {X Y : Type 0} (P : X → Type 0) (Q : Y → Type 0) (error : PolarsError) (fault : Option Cause) → fault ≡ None → Answers (Err error) fault P → Answers (Err error) None Q
memory-alone P Q error fault none told = memory_if P Q error (subst (λ (f : Option Cause). Answers (Err error) f P) none told)

-- ---- the array

-- What was made of views and buffers of an array, without flags, is to have the array's flags.
module _ (lists made : ViewLists) (builder : ViewBuilder) (views buffers : List (List ℕ)) (flags : Option (List Bool)) (same_views : views ≡ lists.views) (same_buffers : buffers ≡ lists.buffers) (same_flags : flags ≡ lists.flags)
    (built : lists_of builder ≡ deduped (view_lists views buffers None)) (is : made ≡ lists_of builder) where
  made_is : made ≡ deduped (view_lists lists.views lists.buffers None)
  made_is = is ∙ built ∙ ap (λ (vs : List (List ℕ)). deduped (view_lists vs buffers None)) same_views ∙ ap (λ (bs : List (List ℕ)). deduped (view_lists lists.views bs None)) same_buffers

  pub flags-fit : AreFlagsOf (view_count lists) lists.flags → AreFlagsOf (view_count made) flags
  unfolding deduped
  flags-fit flagged =
      let count : length lists.views ≡ view_count made = sym (ap view_count made_is ∙ length-map lists.views (renamed (named lists.views))) in
      subst (λ (n : ℕ). AreFlagsOf n flags) count (subst (AreFlagsOf (view_count lists)) (sym same_flags) flagged)

  pub with-flags : (new : ViewLists) → new ≡ view_lists made.views made.buffers flags → new ≡ deduped lists
  unfolding deduped
  with-flags new new_is =
      new_is
      ∙ ap (λ (m : ViewLists). view_lists m.views m.buffers flags) made_is
      ∙ ap (λ (fs : Option (List Bool)). view_lists (map (renamed (named lists.views)) lists.views) (map (buffer_at lists.buffers) (named lists.views)) fs) same_flags
