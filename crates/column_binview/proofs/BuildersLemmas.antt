-- Laws of builders of views.
use Rattle.std.proofs.Common.{◌≡◌, ℕ, Bool, true, false, List, [], ◌∷◌, ◌++◌, length, map, Option, Some, None, refl, sym, ◌∙◌, ap, subst, arith, length-append}
use Rattle.std.proofs.lemmas.List.{append-nil, append_assoc, take_at, take_all, map-append, length-map}
use Rattle.std.proofs.lemmas.List.Concat.{flat_map-cons}
use Rattle.column_base.specs.Kinds.{Slot}
use Rattle.column_base.specs.Pushes.{grown, growth_fault}
use Rattle.column_base.specs.Utf8.{CanHold}
use Rattle.column_storage.specs.Bits.{pushed_flag}
use Rattle.column_storage.specs.Slots.{flagged_slots}
use Rattle.column_storage.specs.Validity.{AreFlagsOf}
use Rattle.column_storage.proofs.GrowingFlagsLemmas.{are_flags-pushed, flagged_slots-pushed}
use Rattle.column_view.specs.Views.{IsView, view_content}
use Rattle.column_view.specs.ViewFaults.{Says, view_fault, views_fault}
use Rattle.column_view.proofs.FaultsLemmas.{first_none, rest_none, none_both, says_inline}
use Rattle.column_blocks.specs.Blocks.{ByteBlocks, buffers_of, block_finished, buffer_pushed, full_fault, stored, stored_view, store_fault, written_values, AppendsBytes}
use Rattle.column_blocks.specs.Rows.{FlaggedViews, null_view, pushed_view}
use Rattle.column_blocks.specs.Sources.{SourceBuffers, BuilderBytes, builder_bytes, AreSoundBytes, AreSoundSources, source_at, source_added, view_taken, taken_view, view_take_fault, taken_buffers}
use Rattle.column_blocks.proofs.BlocksLemmas.{buffers_of-blocks_of, sound-blocks_of, sound-finished, sound-pushed, sound-stored}
use Rattle.column_blocks.proofs.AppendsLemmas.{prefix_trans, appends-refl, appends-trans, appends-finished, appends-pushed, appends-stored}
use Rattle.column_blocks.proofs.GrowthLemmas.{views_fault-grown, contents-grown, says-stored}
use Rattle.column_blocks.proofs.SourcesLemmas.{taken-none, taken-source_added, fine-taken, same-taken, sound-taken, appends-taken, sound-appended}
use Rattle.column_binview.specs.Slots.{ViewLists, view_lists, contents, view_slots, AreSoundViews}
use Rattle.column_binview.specs.Builders.{ViewBuilder, view_builder, lists_of, builder_of, no_slots, IsSoundBuilder, pushed_value, pushed_null, pushed_row, row_fault, row_growth, finished_builder, with_buffer, with_source, source_content, pushed_source_view, slot_of, written_row, written_rows, Appends}
use Rattle.column_binview.proofs.SlotsLemmas.{strings_are_sound, zero_view}

-- ---- one more view over what the blocks are then

views_fault-push : (text : Bool) (views : List (List ℕ)) (view : List ℕ) (buffers : List (List ℕ)) → views_fault text views buffers ≡ None → view_fault text view buffers ≡ None → views_fault text (views ++ view ∷ []) buffers ≡ None
views_fault-push text [] view buffers fine one = none_both (view_fault text view buffers) None one refl
views_fault-push text (v ∷ views) view buffers fine one =
    none_both (view_fault text v buffers) (views_fault text (views ++ view ∷ []) buffers)
    (first_none (view_fault text v buffers) (views_fault text views buffers) fine)
    (views_fault-push text views view buffers (rest_none (view_fault text v buffers) (views_fault text views buffers) fine) one)

module _ (text : Bool) (builder : ViewBuilder) (sound : IsSoundBuilder text builder) (after : BuilderBytes) (added : List (List ℕ))
    (appends : AppendsBytes builder.bytes.blocks after.blocks added) (behind : AreSoundBytes after) where
  abbrev old : List (List ℕ)
  old = buffers_of builder.bytes.blocks

  abbrev new : List (List ℕ)
  new = buffers_of after.blocks

  pub still_fine : views_fault text builder.rows.views new ≡ None
  still_fine = views_fault-grown text old new builder.rows.views appends.grown sound.array.fine

  pub same_contents : contents builder.rows.views new ≡ contents builder.rows.views old
  same_contents = contents-grown text old new builder.rows.views appends.grown sound.array.fine

  -- no view more
  pub sound-kept : IsSoundBuilder text (view_builder builder.rows after)
  sound-kept = record {
    array = record { fine = still_fine; flagged = sound.array.flagged; few = behind.blocks.few };
    bytes = behind;
  }

  pub appends-kept : Appends builder (view_builder builder.rows after) [] added
  unfolding view_slots
  appends-kept = record {
    slots = ap (flagged_slots builder.rows.flags) same_contents ∙ sym (append-nil (view_slots (lists_of builder)));
    views = take_all (length builder.rows.views) builder.rows.views (omega arith);
    bytes = appends;
  }

  -- one more
  module _ (view : List ℕ) (valid : Bool) (fine : view_fault text view new ≡ None) where
    pub sound-more : IsSoundBuilder text (view_builder (pushed_view builder.rows view valid) after)
    sound-more = record {
      array = record {
        fine = views_fault-push text builder.rows.views view new still_fine fine;
        flagged = subst (λ (n : ℕ). AreFlagsOf n (pushed_flag (length builder.rows.views) builder.rows.flags valid)) (sym (length-append builder.rows.views (view ∷ []))) (are_flags-pushed (length builder.rows.views) builder.rows.flags valid sound.array.flagged);
        few = behind.blocks.few;
      };
      bytes = behind;
    }

    slots-more : view_slots (view_lists (builder.rows.views ++ view ∷ []) new (pushed_flag (length builder.rows.views) builder.rows.flags valid)) ≡ view_slots (lists_of builder) ++ record { valid = valid; bytes = view_content view new } ∷ []
    unfolding view_slots
    slots-more =
        let f = λ (v : List ℕ). view_content v new in
        let count = length-map builder.rows.views (λ (v : List ℕ). view_content v old) in
        ap (flagged_slots (pushed_flag (length builder.rows.views) builder.rows.flags valid)) (map-append f builder.rows.views (view ∷ []) ∙ ap (λ (values : List (List ℕ)). values ++ view_content view new ∷ []) same_contents)
        ∙ ap (λ (n : ℕ). flagged_slots (pushed_flag n builder.rows.flags valid) (contents builder.rows.views old ++ view_content view new ∷ [])) (sym count)
        ∙ flagged_slots-pushed builder.rows.flags (contents builder.rows.views old) valid (view_content view new) (subst (λ (n : ℕ). AreFlagsOf n builder.rows.flags) (sym count) sound.array.flagged)

    pub appends-more : Appends builder (view_builder (pushed_view builder.rows view valid) after) (record { valid = valid; bytes = view_content view new } ∷ []) added
    appends-more = record {
      slots = slots-more;
      views = take_at builder.rows.views (view ∷ []) (length builder.rows.views) refl;
      bytes = appends;
    }

-- ---- a value, a null, a row

module _ (text : Bool) (builder : ViewBuilder) (value : List ℕ) (sound : IsSoundBuilder text builder) (held : CanHold text value) (fine : store_fault builder.bytes.blocks value ≡ None) where
  abbrev pub after_value : BuilderBytes
  after_value = builder_bytes (stored builder.bytes.blocks value) builder.bytes.taken

  pub says : Says (stored_view builder.bytes.blocks value) (buffers_of (stored builder.bytes.blocks value)) value
  says = says-stored builder.bytes.blocks value sound.bytes.blocks fine

  pub behind_value : AreSoundBytes after_value
  behind_value =
      sound-appended builder.bytes (stored builder.bytes.blocks value) (written_values value) sound.bytes
      (sound-stored builder.bytes.blocks value sound.bytes.blocks fine) (appends-stored builder.bytes.blocks value)

  pub sound-value : IsSoundBuilder text (pushed_value builder value)
  sound-value =
      sound-more text builder sound after_value (written_values value) (appends-stored builder.bytes.blocks value) behind_value
      (stored_view builder.bytes.blocks value) true (says.fine text held)

  pub appends-value : Appends builder (pushed_value builder value) (slot_of (Some value) ∷ []) (written_values value)
  appends-value =
      subst (λ (bytes : List ℕ). Appends builder (pushed_value builder value) (record { valid = true; bytes = bytes } ∷ []) (written_values value)) says.content
      (appends-more text builder sound after_value (written_values value) (appends-stored builder.bytes.blocks value) behind_value
      (stored_view builder.bytes.blocks value) true (says.fine text held))

pub null_says : (buffers : List (List ℕ)) → Says null_view buffers []
null_says buffers = subst (λ (view : List ℕ). Says view buffers []) (sym zero_view) (says_inline [] buffers (omega arith))

module _ (text : Bool) (builder : ViewBuilder) (sound : IsSoundBuilder text builder) where
  pub null_fine : view_fault text null_view (buffers_of builder.bytes.blocks) ≡ None
  null_fine = (null_says (buffers_of builder.bytes.blocks)).fine text (λ is. refl)

  pub sound-null : IsSoundBuilder text (pushed_null builder)
  sound-null = sound-more text builder sound builder.bytes [] (appends-refl builder.bytes.blocks) sound.bytes null_view false null_fine

  pub appends-null : Appends builder (pushed_null builder) (slot_of None ∷ []) []
  appends-null =
      subst (λ (bytes : List ℕ). Appends builder (pushed_null builder) (record { valid = false; bytes = bytes } ∷ []) []) (null_says (buffers_of builder.bytes.blocks)).content
      (appends-more text builder sound builder.bytes [] (appends-refl builder.bytes.blocks) sound.bytes null_view false null_fine)

-- byte strings: each row can be held
pub sound-row : (builder : ViewBuilder) (row : Option (List ℕ)) → IsSoundBuilder false builder → row_fault builder row ≡ None → IsSoundBuilder false (pushed_row builder row)
sound-row builder None sound fine = sound-null false builder sound
sound-row builder (Some value) sound fine = sound-value false builder value sound (λ is. absurd (cc)) fine

pub appends-row : (builder : ViewBuilder) (row : Option (List ℕ)) → IsSoundBuilder false builder → row_fault builder row ≡ None → Appends builder (pushed_row builder row) (slot_of row ∷ []) (written_row row)
appends-row builder None sound fine = appends-null false builder sound
appends-row builder (Some value) sound fine = appends-value false builder value sound (λ is. absurd (cc)) fine

-- texts are byte strings
pub sound-strings : (text : Bool) (builder : ViewBuilder) → IsSoundBuilder text builder → IsSoundBuilder false builder
sound-strings text builder sound = record { array = strings_are_sound text (lists_of builder) sound.array; bytes = sound.bytes }

-- ---- the block finished, a buffer, a source

pub sound-finished_builder : (text : Bool) (builder : ViewBuilder) → IsSoundBuilder text builder → IsSoundBuilder text (finished_builder builder)
sound-finished_builder text builder sound =
    let blocks = block_finished builder.bytes.blocks in
    let appends = appends-finished builder.bytes.blocks in
    sound-kept text builder sound (builder_bytes blocks builder.bytes.taken) [] appends (sound-appended builder.bytes blocks [] sound.bytes (sound-finished builder.bytes.blocks sound.bytes.blocks) appends)

pub appends-finished_builder : (text : Bool) (builder : ViewBuilder) → IsSoundBuilder text builder → Appends builder (finished_builder builder) [] []
appends-finished_builder text builder sound =
    let blocks = block_finished builder.bytes.blocks in
    let appends = appends-finished builder.bytes.blocks in
    appends-kept text builder sound (builder_bytes blocks builder.bytes.taken) [] appends (sound-appended builder.bytes blocks [] sound.bytes (sound-finished builder.bytes.blocks sound.bytes.blocks) appends)

module _ (text : Bool) (builder : ViewBuilder) (buffer : List ℕ) (sound : IsSoundBuilder text builder) (fine : full_fault builder.bytes.blocks ≡ None) where
  behind_buffer : AreSoundBytes (builder_bytes (buffer_pushed builder.bytes.blocks buffer) builder.bytes.taken)
  behind_buffer =
      sound-appended builder.bytes (buffer_pushed builder.bytes.blocks buffer) (buffer ∷ []) sound.bytes
      (sound-pushed builder.bytes.blocks buffer fine) (appends-pushed builder.bytes.blocks buffer)

  pub sound-buffer : IsSoundBuilder text (with_buffer builder buffer)
  sound-buffer =
      sound-kept text builder sound (builder_bytes (buffer_pushed builder.bytes.blocks buffer) builder.bytes.taken) (buffer ∷ []) (appends-pushed builder.bytes.blocks buffer) behind_buffer

  pub appends-buffer : Appends builder (with_buffer builder buffer) [] (buffer ∷ [])
  appends-buffer =
      appends-kept text builder sound (builder_bytes (buffer_pushed builder.bytes.blocks buffer) builder.bytes.taken) (buffer ∷ []) (appends-pushed builder.bytes.blocks buffer) behind_buffer

pub sound-source : (text : Bool) (builder : ViewBuilder) (buffers : List (List ℕ)) → AreSoundSources builder.bytes.taken → IsSoundBuilder text builder → IsSoundBuilder text (with_source builder buffers)
sound-source text builder buffers sources sound = record {
  array = sound.array;
  bytes = record { blocks = sound.bytes.blocks; taken = taken-source_added builder.bytes.taken builder.bytes.blocks.finished buffers sources sound.bytes.taken };
}

pub appends-with_source : (builder : ViewBuilder) (buffers : List (List ℕ)) → Appends builder (with_source builder buffers) [] []
appends-with_source builder buffers = record {
  slots = sym (append-nil (view_slots (lists_of builder)));
  views = take_all (length builder.rows.views) builder.rows.views (omega arith);
  bytes = appends-refl builder.bytes.blocks;
}

-- ---- a view of a source

module _ (text : Bool) (builder : ViewBuilder) (view : List ℕ) (source : ℕ) (is_view : IsView view) (sound : IsSoundBuilder text builder)
    (fine : view_fault text view (source_at builder.bytes.taken source) ≡ None) (free : view_take_fault builder.bytes view source ≡ None) where
  pub sound-source_view : IsSoundBuilder text (pushed_source_view builder view source)
  sound-source_view =
      sound-more text builder sound (view_taken builder.bytes view source) (taken_buffers builder.bytes view source) (appends-taken builder.bytes view source)
      (sound-taken builder.bytes view source sound.bytes free)
      (taken_view builder.bytes view source) true (fine-taken text builder.bytes view source is_view sound.bytes fine free)

  pub appends-source_view : Appends builder (pushed_source_view builder view source) (slot_of (Some (source_content builder view source)) ∷ []) (taken_buffers builder.bytes view source)
  appends-source_view =
      subst (λ (bytes : List ℕ). Appends builder (pushed_source_view builder view source) (record { valid = true; bytes = bytes } ∷ []) (taken_buffers builder.bytes view source)) (same-taken text builder.bytes view source is_view sound.bytes fine free)
      (appends-more text builder sound (view_taken builder.bytes view source) (taken_buffers builder.bytes view source) (appends-taken builder.bytes view source)
      (sound-taken builder.bytes view source sound.bytes free)
      (taken_view builder.bytes view source) true (fine-taken text builder.bytes view source is_view sound.bytes fine free))

-- ---- the builder of an array

pub sound-builder_of : (text : Bool) (lists : ViewLists) → AreSoundViews text lists → IsSoundBuilder text (builder_of lists)
sound-builder_of text lists sound =
    let same = sym (buffers_of-blocks_of lists.buffers) in
    record {
      array = subst (λ (buffers : List (List ℕ)). AreSoundViews text (view_lists lists.views buffers lists.flags)) same sound;
      bytes = record { blocks = sound-blocks_of lists.buffers sound.few; taken = taken-none lists.buffers };
    }

pub sound-no_slots : (text : Bool) → IsSoundBuilder text no_slots
sound-no_slots text = sound-builder_of text (view_lists [] [] None) (record { fine = refl; flagged = tt; few = omega arith })

pub lists_of-builder_of : (lists : ViewLists) → lists_of (builder_of lists) ≡ lists
lists_of-builder_of lists = ap (λ (buffers : List (List ℕ)). view_lists lists.views buffers lists.flags) (buffers_of-blocks_of lists.buffers)

-- ---- calls one after another

pub appends-none : (builder : ViewBuilder) → Appends builder builder [] []
appends-none builder = record {
  slots = sym (append-nil (view_slots (lists_of builder)));
  views = take_all (length builder.rows.views) builder.rows.views (omega arith);
  bytes = appends-refl builder.bytes.blocks;
}

pub appends-both : (a b c : ViewBuilder) (one two : List Slot) (first second : List (List ℕ)) → Appends a b one first → Appends b c two second → Appends a c (one ++ two) (first ++ second)
appends-both a b c one two first second before next = record {
  slots = next.slots ∙ ap (λ (slots : List Slot). slots ++ two) before.slots ∙ append_assoc (view_slots (lists_of a)) one two;
  views = prefix_trans a.rows.views b.rows.views c.rows.views before.views next.views;
  bytes = appends-trans a.bytes.blocks b.bytes.blocks c.bytes.blocks first second before.bytes next.bytes;
}

-- ---- rows one after another

pub sound-rows : (builder : ViewBuilder) (rows : List (Option (List ℕ))) → IsSoundBuilder false builder → growth_fault row_growth builder rows ≡ None → IsSoundBuilder false (grown row_growth builder rows)
sound-rows builder [] sound fine = sound
sound-rows builder (row ∷ rows) sound fine =
    let one = first_none (row_fault builder row) (growth_fault row_growth (pushed_row builder row) rows) fine in
    let rest = rest_none (row_fault builder row) (growth_fault row_growth (pushed_row builder row) rows) fine in
    sound-rows (pushed_row builder row) rows (sound-row builder row sound one) rest

pub appends-rows : (builder : ViewBuilder) (rows : List (Option (List ℕ))) → IsSoundBuilder false builder → growth_fault row_growth builder rows ≡ None → Appends builder (grown row_growth builder rows) (map slot_of rows) (written_rows rows)
appends-rows builder [] sound fine = appends-none builder
appends-rows builder (row ∷ rows) sound fine =
    let one = first_none (row_fault builder row) (growth_fault row_growth (pushed_row builder row) rows) fine in
    let rest = rest_none (row_fault builder row) (growth_fault row_growth (pushed_row builder row) rows) fine in
    subst (Appends builder (grown row_growth (pushed_row builder row) rows) (slot_of row ∷ map slot_of rows)) (sym (flat_map-cons written_row row rows))
    (appends-both builder (pushed_row builder row) (grown row_growth (pushed_row builder row) rows) (slot_of row ∷ []) (map slot_of rows) (written_row row) (written_rows rows)
    (appends-row builder row sound one)
    (appends-rows (pushed_row builder row) rows (sound-row builder row sound one) rest))

-- ---- the parts of a builder after a call

pub value_after : (text : Bool) (builder : ViewBuilder) (value view : List ℕ) (kept rows : FlaggedViews) (blocks : ByteBlocks) → IsSoundBuilder text builder → CanHold text value → store_fault builder.bytes.blocks value ≡ None
    → view ≡ stored_view builder.bytes.blocks value → kept ≡ builder.rows → rows ≡ pushed_view kept view true → blocks ≡ stored builder.bytes.blocks value → IsSoundBuilder text (view_builder rows (builder_bytes blocks builder.bytes.taken))
value_after text builder value view kept rows blocks sound held fine view_is same rows_is blocks_is =
    rw (rows_is, same, view_is, blocks_is) (sound-value text builder value sound held fine)

pub null_after : (text : Bool) (builder : ViewBuilder) (rows : FlaggedViews) → IsSoundBuilder text builder → rows ≡ pushed_view builder.rows null_view false → IsSoundBuilder text (view_builder rows builder.bytes)
null_after text builder rows sound rows_is = rw rows_is (sound-null text builder sound)

pub finished_after : (text : Bool) (builder : ViewBuilder) (blocks : ByteBlocks) → IsSoundBuilder text builder → blocks ≡ block_finished builder.bytes.blocks → IsSoundBuilder text (view_builder builder.rows (builder_bytes blocks builder.bytes.taken))
finished_after text builder blocks sound is = rw is (sound-finished_builder text builder sound)

pub buffer_after : (text : Bool) (builder : ViewBuilder) (buffer : List ℕ) (blocks : ByteBlocks) → IsSoundBuilder text builder → full_fault builder.bytes.blocks ≡ None → blocks ≡ buffer_pushed builder.bytes.blocks buffer → IsSoundBuilder text (view_builder builder.rows (builder_bytes blocks builder.bytes.taken))
buffer_after text builder buffer blocks sound fine is = rw is (sound-buffer text builder buffer sound fine)

pub source_after : (text : Bool) (builder : ViewBuilder) (buffers : List (List ℕ)) (taken : SourceBuffers) → IsSoundBuilder text builder → AreSoundSources builder.bytes.taken → taken ≡ source_added builder.bytes.taken buffers → IsSoundBuilder text (view_builder builder.rows (builder_bytes builder.bytes.blocks taken))
source_after text builder buffers taken sound sources is = rw is (sound-source text builder buffers sources sound)

pub source_view_after : (text : Bool) (builder : ViewBuilder) (view moved : List ℕ) (source : ℕ) (kept rows : FlaggedViews) (bytes : BuilderBytes) → IsSoundBuilder text builder → IsView view → view_fault text view (source_at builder.bytes.taken source) ≡ None → view_take_fault builder.bytes view source ≡ None
    → moved ≡ taken_view builder.bytes view source → kept ≡ builder.rows → rows ≡ pushed_view kept moved true → bytes ≡ view_taken builder.bytes view source → IsSoundBuilder text (view_builder rows bytes)
source_view_after text builder view moved source kept rows bytes sound is_view fine free moved_is same rows_is bytes_is =
    rw (rows_is, same, moved_is, bytes_is) (sound-source_view text builder view source is_view sound fine free)
