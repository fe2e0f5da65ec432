-- Laws of slots that are alike, and of slots that are changed.
use Rattle.std.proofs.Common.{◌≡◌, ℕ, zero, suc, Bool, true, false, List, [], ◌∷◌, ◌++◌, length, take, drop, replicate, Option, Some, None, refl, sym, ◌∙◌, ap, subst, arith, length-set}
use Rattle.std.specs.Prelude.{slice_set}
use Rattle.std.proofs.lemmas.List.{map-append, map-set, length-map, length-replicate, take_at}
use Rattle.column_base.specs.Kinds.{Slot}
use Rattle.column_base.specs.Slots.{slots_by, slot_at}
use Rattle.column_base.specs.Utf8.{CanHold}
use Rattle.column_storage.specs.Bits.{flags_of, joined_flags, constant_flags, changed_flag}
use Rattle.column_storage.specs.Slots.{flagged_slots}
use Rattle.column_storage.specs.Validity.{AreFlagsOf}
use Rattle.column_storage.proofs.FlagsLemmas.{length-flags_of}
use Rattle.column_storage.proofs.GrowingFlagsLemmas.{flags_of-constant, are_flags-changed, flags_of-changed, flagged_slots-joined}
use Rattle.column_view.specs.Views.{view_content}
use Rattle.column_view.specs.ViewFaults.{view_fault, views_fault}
use Rattle.column_view.proofs.FaultsLemmas.{first_none, rest_none, none_both, strings_fault}
use Rattle.column_blocks.specs.Blocks.{ByteBlocks, buffers_of, stored, stored_view, store_fault, written_values, AppendsBytes}
use Rattle.column_blocks.specs.Rows.{FlaggedViews, null_view, extended_view, changed_view, with_flag, with_flags}
use Rattle.column_blocks.specs.Sources.{BuilderBytes, builder_bytes, AreSoundBytes}
use Rattle.column_blocks.proofs.AppendsLemmas.{appends-refl, appends-stored}
use Rattle.column_blocks.proofs.RowsLemmas.{flagged-extended}
use Rattle.column_binview.specs.Slots.{contents, view_slots}
use Rattle.column_binview.specs.Builders.{ViewBuilder, view_builder, lists_of, IsSoundBuilder, with_rows, row_fault, extended_row, slot_of, written_row, Appends}
use Rattle.column_binview.proofs.BuildersLemmas.{still_fine, same_contents, after_value, behind_value, says, null_fine, null_says, sound-strings}
use Rattle.column_binview.proofs.SlotsLemmas.{views_fault-take, views_fault-drop}

-- ---- slots that are alike

views_fault-both : (text : Bool) (xs ys buffers : List (List ℕ)) → views_fault text xs buffers ≡ None → views_fault text ys buffers ≡ None → views_fault text (xs ++ ys) buffers ≡ None
views_fault-both text [] ys buffers one two = two
views_fault-both text (x ∷ xs) ys buffers one two =
    none_both (view_fault text x buffers) (views_fault text (xs ++ ys) buffers)
    (first_none (view_fault text x buffers) (views_fault text xs buffers) one)
    (views_fault-both text xs ys buffers (rest_none (view_fault text x buffers) (views_fault text xs buffers) one) two)

views_fault-alike : (text : Bool) (n : ℕ) (view : List ℕ) (buffers : List (List ℕ)) → view_fault text view buffers ≡ None → views_fault text (replicate n view) buffers ≡ None
views_fault-alike text zero view buffers fine = refl
views_fault-alike text (suc n) view buffers fine = none_both (view_fault text view buffers) (views_fault text (replicate n view) buffers) fine (views_fault-alike text n view buffers fine)

contents-alike : (n : ℕ) (view : List ℕ) (buffers : List (List ℕ)) → contents (replicate n view) buffers ≡ replicate n (view_content view buffers)
contents-alike zero view buffers = refl
contents-alike (suc n) view buffers = ap (λ (rest : List (List ℕ)). view_content view buffers ∷ rest) (contents-alike n view buffers)

slots_by-alike : (n : ℕ) (valid : Bool) (bytes : List ℕ) → slots_by (replicate n valid) (replicate n bytes) ≡ replicate n (record { valid = valid; bytes = bytes })
slots_by-alike zero valid bytes = refl
slots_by-alike (suc n) valid bytes = ap (λ (rest : List Slot). record { valid = valid; bytes = bytes } ∷ rest) (slots_by-alike n valid bytes)

flagged_slots-alike : (n : ℕ) (valid : Bool) (bytes : List ℕ) → flagged_slots (constant_flags n valid) (replicate n bytes) ≡ replicate n (record { valid = valid; bytes = bytes })
unfolding flagged_slots
flagged_slots-alike n valid bytes =
    ap (λ (m : ℕ). slots_by (flags_of m (constant_flags n valid)) (replicate n bytes)) (length-replicate n bytes)
    ∙ ap (λ (flags : List Bool). slots_by flags (replicate n bytes)) (flags_of-constant n valid)
    ∙ slots_by-alike n valid bytes

module _ (text : Bool) (builder : ViewBuilder) (sound : IsSoundBuilder text builder) (after : BuilderBytes) (added : List (List ℕ))
    (appends : AppendsBytes builder.bytes.blocks after.blocks added) (behind : AreSoundBytes after)
    (n : ℕ) (view : List ℕ) (valid : Bool) (fine : view_fault text view (buffers_of after.blocks) ≡ None) where
  abbrev values : List (List ℕ)
  values = contents builder.rows.views (buffers_of builder.bytes.blocks)

  abbrev content : List ℕ
  content = view_content view (buffers_of after.blocks)

  abbrev more : Option (List Bool)
  more = constant_flags n valid

  sound-alike : IsSoundBuilder text (view_builder (extended_view builder.rows n view valid) after)
  sound-alike = record {
    array = record {
      fine = views_fault-both text builder.rows.views (replicate n view) (buffers_of after.blocks) (still_fine text builder sound after added appends behind) (views_fault-alike text n view (buffers_of after.blocks) fine);
      flagged = flagged-extended builder.rows.views view builder.rows.flags n valid sound.array.flagged;
      few = behind.blocks.few;
    };
    bytes = behind;
  }

  slots-alike : view_slots (lists_of (view_builder (extended_view builder.rows n view valid) after)) ≡ view_slots (lists_of builder) ++ replicate n (record { valid = valid; bytes = content })
  unfolding view_slots
  slots-alike =
      let f = λ (v : List ℕ). view_content v (buffers_of after.blocks) in
      let count = length-map builder.rows.views (λ (v : List ℕ). view_content v (buffers_of builder.bytes.blocks)) in
      let rest = length-replicate n content in
      ap (flagged_slots (joined_flags (length builder.rows.views) builder.rows.flags n more))
      (map-append f builder.rows.views (replicate n view)
      ∙ ap (λ (vs : List (List ℕ)). vs ++ contents (replicate n view) (buffers_of after.blocks)) (same_contents text builder sound after added appends behind)
      ∙ ap (λ (vs : List (List ℕ)). values ++ vs) (contents-alike n view (buffers_of after.blocks)))
      ∙ ap (λ (m : ℕ). flagged_slots (joined_flags m builder.rows.flags n more) (values ++ replicate n content)) (sym count)
      ∙ ap (λ (m : ℕ). flagged_slots (joined_flags (length values) builder.rows.flags m more) (values ++ replicate n content)) (sym rest)
      ∙ flagged_slots-joined builder.rows.flags values more (replicate n content) (subst (λ (m : ℕ). AreFlagsOf m builder.rows.flags) (sym count) sound.array.flagged)
      ∙ ap (λ (slots : List Slot). flagged_slots builder.rows.flags values ++ slots) (flagged_slots-alike n valid content)

  appends-alike : Appends builder (view_builder (extended_view builder.rows n view valid) after) (replicate n (record { valid = valid; bytes = content })) added
  appends-alike = record {
    slots = slots-alike;
    views = take_at builder.rows.views (replicate n view) (length builder.rows.views) refl;
    bytes = appends;
  }

pub sound-extended_value : (text : Bool) (builder : ViewBuilder) (n : ℕ) (value : List ℕ) → IsSoundBuilder text builder → CanHold text value → store_fault builder.bytes.blocks value ≡ None → IsSoundBuilder text (extended_row builder n (Some value))
sound-extended_value text builder n value sound held fine =
    let said = says text builder value sound held fine in
    sound-alike text builder sound (after_value text builder value sound held fine) (written_values value) (appends-stored builder.bytes.blocks value) (behind_value text builder value sound held fine)
    n (stored_view builder.bytes.blocks value) true (said.fine text held)

pub sound-extended_null : (text : Bool) (builder : ViewBuilder) (n : ℕ) → IsSoundBuilder text builder → IsSoundBuilder text (extended_row builder n None)
sound-extended_null text builder n sound =
    sound-alike text builder sound builder.bytes [] (appends-refl builder.bytes.blocks) sound.bytes n null_view false (null_fine text builder sound)

pub appends-extended : (text : Bool) (builder : ViewBuilder) (n : ℕ) (row : Option (List ℕ)) → IsSoundBuilder text builder → row_fault builder row ≡ None → Appends builder (extended_row builder n row) (replicate n (slot_of row)) (written_row row)
appends-extended text builder n None sound fine =
    subst (λ (bytes : List ℕ). Appends builder (extended_row builder n None) (replicate n (record { valid = false; bytes = bytes })) []) (null_says (buffers_of builder.bytes.blocks)).content
    (appends-alike text builder sound builder.bytes [] (appends-refl builder.bytes.blocks) sound.bytes n null_view false (null_fine text builder sound))
appends-extended text builder n (Some value) sound fine =
    let strings = sound-strings text builder sound in
    let any : CanHold false value = λ is. absurd (cc) in
    let said = says false builder value strings any fine in
    subst (λ (bytes : List ℕ). Appends builder (extended_row builder n (Some value)) (replicate n (record { valid = true; bytes = bytes })) (written_values value)) said.content
    (appends-alike false builder strings (after_value false builder value strings any fine) (written_values value) (appends-stored builder.bytes.blocks value) (behind_value false builder value strings any fine)
    n (stored_view builder.bytes.blocks value) true (said.fine false any))

-- ---- a slot that is changed

views_fault-set : (text : Bool) (views : List (List ℕ)) (i : ℕ) (view : List ℕ) (buffers : List (List ℕ)) → views_fault text views buffers ≡ None → view_fault text view buffers ≡ None → views_fault text (slice_set views i view) buffers ≡ None
views_fault-set text [] i view buffers fine one = refl
views_fault-set text (v ∷ views) zero view buffers fine one =
    none_both (view_fault text view buffers) (views_fault text views buffers) one (rest_none (view_fault text v buffers) (views_fault text views buffers) fine)
views_fault-set text (v ∷ views) (suc i) view buffers fine one =
    none_both (view_fault text v buffers) (views_fault text (slice_set views i view) buffers)
    (first_none (view_fault text v buffers) (views_fault text views buffers) fine)
    (views_fault-set text views i view buffers (rest_none (view_fault text v buffers) (views_fault text views buffers) fine) one)

pub sound-changed_view : (text : Bool) (builder : ViewBuilder) (i : ℕ) (view : List ℕ) → IsSoundBuilder text builder → view_fault text view (buffers_of builder.bytes.blocks) ≡ None → IsSoundBuilder text (with_rows builder (changed_view builder.rows i view))
sound-changed_view text builder i view sound fine = record {
  array = record {
    fine = views_fault-set text builder.rows.views i view (buffers_of builder.bytes.blocks) sound.array.fine fine;
    flagged = subst (λ (n : ℕ). AreFlagsOf n builder.rows.flags) (sym (length-set builder.rows.views i view)) sound.array.flagged;
    few = sound.array.few;
  };
  bytes = sound.bytes;
}

slots_by-value : (flags : List Bool) (values : List (List ℕ)) (i : ℕ) (bytes : List ℕ) → length flags ≡ length values → slots_by flags (slice_set values i bytes) ≡ slice_set (slots_by flags values) i (record { valid = (slot_at (slots_by flags values) i).valid; bytes = bytes })
slots_by-value [] [] i bytes same = refl
slots_by-value [] (value ∷ values) i bytes same = absurd (omega arith)
slots_by-value (flag ∷ flags) [] i bytes same = absurd (omega arith)
slots_by-value (flag ∷ flags) (value ∷ values) zero bytes same = refl
slots_by-value (flag ∷ flags) (value ∷ values) (suc i) bytes same =
    ap (λ (rest : List Slot). record { valid = flag; bytes = value } ∷ rest) (slots_by-value flags values i bytes (omega arith))

slots_by-flag : (flags : List Bool) (values : List (List ℕ)) (i : ℕ) (valid : Bool) → length flags ≡ length values → slots_by (slice_set flags i valid) values ≡ slice_set (slots_by flags values) i (record { valid = valid; bytes = (slot_at (slots_by flags values) i).bytes })
slots_by-flag [] [] i valid same = refl
slots_by-flag [] (value ∷ values) i valid same = absurd (omega arith)
slots_by-flag (flag ∷ flags) [] i valid same = absurd (omega arith)
slots_by-flag (flag ∷ flags) (value ∷ values) zero valid same = refl
slots_by-flag (flag ∷ flags) (value ∷ values) (suc i) valid same =
    ap (λ (rest : List Slot). record { valid = flag; bytes = value } ∷ rest) (slots_by-flag flags values i valid (omega arith))

pub slots-changed_view : (text : Bool) (builder : ViewBuilder) (i : ℕ) (view : List ℕ) → IsSoundBuilder text builder
    → view_slots (lists_of (with_rows builder (changed_view builder.rows i view))) ≡ slice_set (view_slots (lists_of builder)) i (record { valid = (slot_at (view_slots (lists_of builder)) i).valid; bytes = view_content view (buffers_of builder.bytes.blocks) })
unfolding view_slots flagged_slots
slots-changed_view text builder i view sound =
    let buffers = buffers_of builder.bytes.blocks in
    let f = λ (v : List ℕ). view_content v buffers in
    let values = contents builder.rows.views buffers in
    let count = length-map builder.rows.views f in
    let flagged = subst (λ (n : ℕ). AreFlagsOf n builder.rows.flags) (sym count) sound.array.flagged in
    ap (λ (vs : List (List ℕ)). slots_by (flags_of (length vs) builder.rows.flags) vs) (map-set f builder.rows.views i view)
    ∙ ap (λ (n : ℕ). slots_by (flags_of n builder.rows.flags) (slice_set values i (f view))) (length-set values i (f view))
    ∙ slots_by-value (flags_of (length values) builder.rows.flags) values i (f view) (length-flags_of builder.rows.flags (length values) flagged)

-- ---- flags that are changed

pub sound-flags : (text : Bool) (builder : ViewBuilder) (flags : Option (List Bool)) → IsSoundBuilder text builder → AreFlagsOf (length builder.rows.views) flags → IsSoundBuilder text (with_rows builder (with_flags builder.rows flags))
sound-flags text builder flags sound all = record {
  array = record { fine = sound.array.fine; flagged = all; few = sound.array.few };
  bytes = sound.bytes;
}

pub sound-with_flag : (text : Bool) (builder : ViewBuilder) (i : ℕ) (valid : Bool) → IsSoundBuilder text builder → IsSoundBuilder text (with_rows builder (with_flag builder.rows i valid))
sound-with_flag text builder i valid sound =
    let n = length builder.rows.views in
    sound-flags text builder (changed_flag n builder.rows.flags i valid) sound (are_flags-changed n builder.rows.flags i valid sound.array.flagged)

slots-flag : (flags : Option (List Bool)) (values : List (List ℕ)) (i : ℕ) (valid : Bool) → AreFlagsOf (length values) flags
    → flagged_slots (changed_flag (length values) flags i valid) values ≡ slice_set (flagged_slots flags values) i (record { valid = valid; bytes = (slot_at (flagged_slots flags values) i).bytes })
unfolding flagged_slots
slots-flag flags values i valid all =
    ap (λ (bits : List Bool). slots_by bits values) (flags_of-changed (length values) flags i valid)
    ∙ slots_by-flag (flags_of (length values) flags) values i valid (length-flags_of flags (length values) all)

pub slots-with_flag : (text : Bool) (builder : ViewBuilder) (i : ℕ) (valid : Bool) → IsSoundBuilder text builder
    → view_slots (lists_of (with_rows builder (with_flag builder.rows i valid))) ≡ slice_set (view_slots (lists_of builder)) i (record { valid = valid; bytes = (slot_at (view_slots (lists_of builder)) i).bytes })
unfolding view_slots
slots-with_flag text builder i valid sound =
    let buffers = buffers_of builder.bytes.blocks in
    let values = contents builder.rows.views buffers in
    let count = length-map builder.rows.views (λ (v : List ℕ). view_content v buffers) in
    ap (λ (n : ℕ). flagged_slots (changed_flag n builder.rows.flags i valid) values) (sym count)
    ∙ slots-flag builder.rows.flags values i valid (subst (λ (n : ℕ). AreFlagsOf n builder.rows.flags) (sym count) sound.array.flagged)

-- ---- the parts of a builder after a call

pub alike_after : (text : Bool) (builder : ViewBuilder) (n : ℕ) (value view : List ℕ) (kept rows : FlaggedViews) (blocks : ByteBlocks) → IsSoundBuilder text builder → CanHold text value → store_fault builder.bytes.blocks value ≡ None
    → view ≡ stored_view builder.bytes.blocks value → kept ≡ builder.rows → rows ≡ extended_view kept n view true → blocks ≡ stored builder.bytes.blocks value → IsSoundBuilder text (view_builder rows (builder_bytes blocks builder.bytes.taken))
alike_after text builder n value view kept rows blocks sound held fine view_is same rows_is blocks_is =
    rw (rows_is, same, view_is, blocks_is) (sound-extended_value text builder n value sound held fine)

pub nulls_after : (text : Bool) (builder : ViewBuilder) (n : ℕ) (rows : FlaggedViews) → IsSoundBuilder text builder → rows ≡ extended_view builder.rows n null_view false → IsSoundBuilder text (view_builder rows builder.bytes)
nulls_after text builder n rows sound rows_is = rw rows_is (sound-extended_null text builder n sound)

pub view_after : (text : Bool) (builder : ViewBuilder) (i : ℕ) (view : List ℕ) (rows : FlaggedViews) → IsSoundBuilder text builder → view_fault text view (buffers_of builder.bytes.blocks) ≡ None → rows ≡ changed_view builder.rows i view → IsSoundBuilder text (view_builder rows builder.bytes)
view_after text builder i view rows sound fine rows_is = rw rows_is (sound-changed_view text builder i view sound fine)

pub flag_after : (text : Bool) (builder : ViewBuilder) (i : ℕ) (valid : Bool) (rows : FlaggedViews) → IsSoundBuilder text builder → rows ≡ with_flag builder.rows i valid → IsSoundBuilder text (view_builder rows builder.bytes)
flag_after text builder i valid rows sound rows_is = rw rows_is (sound-with_flag text builder i valid sound)

pub flags_after : (text : Bool) (builder : ViewBuilder) (flags : Option (List Bool)) (rows : FlaggedViews) → IsSoundBuilder text builder → AreFlagsOf (length builder.rows.views) flags → rows ≡ with_flags builder.rows flags → IsSoundBuilder text (view_builder rows builder.bytes)
flags_after text builder flags rows sound all rows_is = rw rows_is (sound-flags text builder flags sound all)

-- ---- texts from a place on

pub tail_fine : (text : Bool) (given views buffers : List (List ℕ)) (from n : ℕ) → given ≡ views → views_fault text views buffers ≡ None → views_fault false (take n (drop from given)) buffers ≡ None
tail_fine text given views buffers from n same fine =
    rw same (views_fault-take false (drop from views) buffers n (strings_fault text (drop from views) buffers (views_fault-drop text views buffers from fine)))
