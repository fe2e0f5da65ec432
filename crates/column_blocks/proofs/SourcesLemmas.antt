-- Laws of sources, and of views that name their buffers.
use Rattle.std.proofs.Common.{◌≡◌, ℕ, zero, suc, ◌^◌, ◌<◌, ◌≤◌, ◌⊎◌, inl, inr, Bool, true, false, List, [], ◌∷◌, ◌++◌, length, take, get_or, set, replicate, Option, Some, None, refl, sym, ◌∙◌, ap, subst, arith, if◌then◌else◌, length-append}
use Rattle.std.specs.Prelude.{unwrap_or}
use Rattle.std.proofs.lemmas.List.{take-append-le, length-take, get_or-take, get_or_append_left}
use Rattle.column_base.specs.Utf8.{CanHold}
use Rattle.column_storage.specs.declared.data_buffers.TheConstants.{MAX_BUFFERS}
use Rattle.column_view.specs.Views.{IsView, is_long, view_index, buffer_at, view_content, with_index}
use Rattle.column_view.specs.ViewFaults.{inline_fault, long_fault, layout_fault, content_fault, view_fault}
use Rattle.column_view.proofs.ViewsLemmas.{view_content-with_index, layout_fault-with_index}
use Rattle.column_view.proofs.FaultsLemmas.{first_none, held, fine_where_held}
use Rattle.column_blocks.specs.Blocks.{ByteBlocks, buffers_of, AreSoundBlocks, AppendsBytes}
use Rattle.column_blocks.specs.Sources.{SourceBuffers, AreSoundSources, no_sources, source_added, source_at, places_at, place_of, place_noted, AreTaken, BuilderBytes, builder_bytes, AreSoundBytes, take_fault, buffer_taken, buffers_added, found_place, view_taken, taken_view, view_take_fault, taken_buffers}
use Rattle.column_blocks.proofs.BlocksLemmas.{at_end, buffers_of-blocks_of, sound-finished, sound-pushed}
use Rattle.column_blocks.proofs.AppendsLemmas.{finished-buffers_of, appends-refl, appends-finished, appends-pushed}

-- ---- places

set_cases : {X : Type 0} (xs : List X) (i j : ℕ) (x d : X) → ((j ≡ i) × (get_or (set xs i x) j d ≡ x)) ⊎ (get_or (set xs i x) j d ≡ get_or xs j d)
set_cases [] i j x d = inr refl
set_cases (y ∷ xs) zero zero x d = inl (refl, refl)
set_cases (y ∷ xs) zero (suc j) x d = inr refl
set_cases (y ∷ xs) (suc i) zero x d = inr refl
set_cases (y ∷ xs) (suc i) (suc j) x d = elim (set_cases xs i j x d) [ inl h ↦ inl (ap suc h.0, h.1) | inr h ↦ inr h ]

-- the place that was noted, or one from before
place_of-noted : (taken : SourceBuffers) (source buffer place s b p : ℕ) → place_of (place_noted taken source buffer place) s b ≡ Some p → ((s ≡ source) × (b ≡ buffer) × (p ≡ place)) ⊎ (place_of taken s b ≡ Some p)
unfolding place_of place_noted
place_of-noted taken source buffer place s b p at =
    let row = set (places_at taken source) buffer (Some place) in
    elim (set_cases taken.places source s row []) [
      | inl here ↦ elim (set_cases (places_at taken source) buffer b (Some place) None) [
        | inl found ↦ inl (here.0, found.0, let e : Some p ≡ Some place = sym at ∙ ap (λ (places : List (Option ℕ)). get_or places b None) here.1 ∙ found.1 in cc)
        | inr other ↦ inr (ap (λ (n : ℕ). get_or (places_at taken n) b None) here.0 ∙ sym other ∙ ap (λ (places : List (Option ℕ)). get_or places b None) (sym here.1) ∙ at)
      ]
      | inr there ↦ inr (ap (λ (places : List (Option ℕ)). get_or places b None) (sym there) ∙ at)
    ]

-- ---- taken buffers

-- a finished buffer that stays
prefix_at : (xs ys : List (List ℕ)) (i : ℕ) → take (length xs) ys ≡ xs → i < length xs → (i < length ys) × (buffer_at ys i ≡ buffer_at xs i)
prefix_at xs ys i same within = (
  omega (arith, length-take (length xs) ys, ap length same),
  sym (ap (λ (zs : List (List ℕ)). buffer_at zs i) (sym same) ∙ get_or-take (length xs) ys i [] within),
)

pub taken-longer : (taken : SourceBuffers) (old new : List (List ℕ)) → take (length old) new ≡ old → AreTaken taken old → AreTaken taken new
taken-longer taken old new same all = λ source buffer place at.
    let before = all source buffer place at in
    let after = prefix_at old new place same before.0 in
    (after.0, after.1 ∙ before.1)

prefix_more : (xs ys zs : List (List ℕ)) → take (length xs) ys ≡ xs → take (length xs) (ys ++ zs) ≡ xs
prefix_more xs ys zs same =
    let within : length xs ≤ length ys = omega (arith, length-take (length xs) ys, ap length same) in
    take-append-le (length xs) ys zs within ∙ same

pub taken-none : (finished : List (List ℕ)) → AreTaken no_sources finished
unfolding place_of
taken-none finished = λ source buffer place at. absurd (cc)

taken-noted : (taken : SourceBuffers) (finished buffers : List (List ℕ)) (source buffer : ℕ) → take (length finished) buffers ≡ finished → AreTaken taken finished
    → AreTaken (place_noted taken source buffer (length buffers)) (buffers ++ buffer_at (source_at taken source) buffer ∷ [])
unfolding place_noted
taken-noted taken finished buffers source buffer same all = λ s b p at.
    let bytes = buffer_at (source_at taken source) buffer in
    elim (place_of-noted taken source buffer (length buffers) s b p at) [
      | inl here ↦ (
        rw here.2 (omega (arith, length-append buffers (bytes ∷ []))),
        ap (buffer_at (buffers ++ bytes ∷ [])) here.2 ∙ at_end buffers bytes ∙ ap (λ (n : ℕ). buffer_at (source_at taken source) n) (sym here.1) ∙ ap (λ (n : ℕ). buffer_at (source_at taken n) b) (sym here.0),
      )
      | inr before ↦ taken-longer taken finished (buffers ++ bytes ∷ []) (prefix_more finished buffers (bytes ∷ []) same) all s b p before
    ]

none_at : (n b p : ℕ) → get_or (replicate n None) b None ≡ Some p → ⊥
none_at zero b p at = cc
none_at (suc n) zero p at = cc
none_at (suc n) (suc b) p at = none_at n b p at

-- a place that is there comes from before
place_before : (places : List (List (Option ℕ))) (n s b p : ℕ) → get_or (get_or (places ++ replicate n None ∷ []) s []) b None ≡ Some p → (s < length places) × (get_or (get_or places s []) b None ≡ Some p)
place_before [] n zero b p at = absurd (none_at n b p at)
place_before [] n (suc s) b p at = absurd (cc)
place_before (row ∷ places) n zero b p at = (omega arith, at)
place_before (row ∷ places) n (suc s) b p at = let rest = place_before places n s b p at in (omega arith, rest.1)

pub taken-source_added : (taken : SourceBuffers) (finished buffers : List (List ℕ)) → AreSoundSources taken → AreTaken taken finished → AreTaken (source_added taken buffers) finished
unfolding place_of
taken-source_added taken finished buffers sound all = λ s b p at.
    let before = place_before taken.places (length buffers) s b p at in
    let within : s < length taken.sources = let here = before.0 in let same = sound.same in omega arith in
    let found = all s b p before.1 in
    (found.0, found.1 ∙ ap (λ (source : List (List ℕ)). buffer_at source b) (sym (get_or_append_left taken.sources (buffers ∷ []) [] s within)))

-- ---- a buffer that is taken

taken_by : (found : Option ℕ) (bytes : BuilderBytes) (source buffer : ℕ) → AreSoundBytes bytes → take_fault found bytes.blocks ≡ None → AreSoundBytes (buffer_taken found bytes source buffer)
taken_by (Some place) bytes source buffer sound fine = record {
  blocks = sound-finished bytes.blocks sound.blocks;
  taken = taken-longer bytes.taken bytes.blocks.finished (buffers_of bytes.blocks) (finished-buffers_of bytes.blocks) sound.taken;
}
taken_by None bytes source buffer sound fine = record {
  blocks = sound-pushed bytes.blocks (buffer_at (source_at bytes.taken source) buffer) fine;
  taken = taken-noted bytes.taken bytes.blocks.finished (buffers_of bytes.blocks) source buffer (finished-buffers_of bytes.blocks) sound.taken;
}

appends_by : (found : Option ℕ) (bytes : BuilderBytes) (source buffer : ℕ) → AppendsBytes bytes.blocks (buffer_taken found bytes source buffer).blocks (buffers_added found (buffer_at (source_at bytes.taken source) buffer))
appends_by (Some place) bytes source buffer = appends-finished bytes.blocks
appends_by None bytes source buffer = appends-pushed bytes.blocks (buffer_at (source_at bytes.taken source) buffer)

-- a buffer stands at a place
record StandsThere (buffer : List ℕ) (place : ℕ) (buffers : List (List ℕ)) : Type 0 where
  pub there : place < length buffers
  pub same : buffer_at buffers place ≡ buffer

there_by : (found : Option ℕ) (bytes : BuilderBytes) (source buffer : ℕ) → place_of bytes.taken source buffer ≡ found → AreSoundBytes bytes
    → StandsThere (buffer_at (source_at bytes.taken source) buffer) (unwrap_or found (length (buffers_of bytes.blocks))) (buffers_of (buffer_taken found bytes source buffer).blocks)
there_by (Some place) bytes source buffer at sound =
    let before = sound.taken source buffer place at in
    let inside = prefix_at bytes.blocks.finished (buffers_of bytes.blocks) place (finished-buffers_of bytes.blocks) before.0 in
    subst (StandsThere (buffer_at (source_at bytes.taken source) buffer) place) (sym (buffers_of-blocks_of (buffers_of bytes.blocks)))
    (record { there = inside.0; same = inside.1 ∙ before.1 })
there_by None bytes source buffer at sound =
    let added = buffer_at (source_at bytes.taken source) buffer in
    subst (StandsThere added (length (buffers_of bytes.blocks))) (sym (buffers_of-blocks_of (buffers_of bytes.blocks ++ added ∷ [])))
    (record { there = omega (arith, length-append (buffers_of bytes.blocks) (added ∷ [])); same = at_end (buffers_of bytes.blocks) added })

-- ---- a view that is taken

-- a view that holds its content says the same over all buffers
short_layout : (long : Bool) (view : List ℕ) (old new : List (List ℕ)) → long ≡ false → (if long then long_fault view old else inline_fault view) ≡ (if long then long_fault view new else inline_fault view)
short_layout true view old new short = absurd (cc)
short_layout false view old new short = refl

layout_fault-short : (view : List ℕ) (old new : List (List ℕ)) → is_long view ≡ false → layout_fault view old ≡ layout_fault view new
unfolding layout_fault
layout_fault-short view old new short = short_layout (is_long view) view old new short

view_content-short : (view : List ℕ) (old new : List (List ℕ)) → is_long view ≡ false → view_content view new ≡ view_content view old
unfolding view_content
view_content-short view old new short = rw short refl

-- what a view that is taken says
record SaysTheSame (text : Bool) (moved : List ℕ) (new : List (List ℕ)) (view : List ℕ) (old : List (List ℕ)) : Type 0 where
  pub fine : view_fault text moved new ≡ None
  pub same : view_content moved new ≡ view_content view old

module _ (text : Bool) (bytes : BuilderBytes) (view : List ℕ) (source : ℕ) (is_view : IsView view) (sound : AreSoundBytes bytes) (fine : view_fault text view (source_at bytes.taken source) ≡ None) where
  abbrev old : List (List ℕ)
  old = source_at bytes.taken source

  layout : layout_fault view old ≡ None
  layout = first_none (layout_fault view old) (content_fault text view old) fine

  says_by : (moved : List ℕ) (new : List (List ℕ)) → view_content moved new ≡ view_content view old → layout_fault moved new ≡ None → SaysTheSame text moved new view old
  says_by moved new same still = record {
    fine = fine_where_held text moved new still (subst (CanHold text) (sym same) (held text view old fine));
    same = same;
  }

  long_says : (found : Option ℕ) → found_place bytes view source ≡ found → is_long view ≡ true → take_fault found bytes.blocks ≡ None
      → SaysTheSame text (with_index view (unwrap_or found (length (buffers_of bytes.blocks)))) (buffers_of (buffer_taken found bytes source (view_index view)).blocks) view old
  long_says found at long free =
      let place = unwrap_or found (length (buffers_of bytes.blocks)) in
      let after = buffer_taken found bytes source (view_index view) in
      let stands = there_by found bytes source (view_index view) at sound in
      let still = taken_by found bytes source (view_index view) sound free in
      let few : length (buffers_of after.blocks) ≤ MAX_BUFFERS = still.blocks.few in
      let inside : place < length (buffers_of after.blocks) = stands.there in
      let small : place < 2 ^ 32 = omega arith in
      says_by (with_index view place) (buffers_of after.blocks)
      (view_content-with_index view place is_view.count small old (buffers_of after.blocks) inside stands.same long)
      (layout_fault-with_index view place is_view.count small old (buffers_of after.blocks) inside stands.same long layout)

  says_if : (long : Bool) → is_long view ≡ long → (if long then take_fault (found_place bytes view source) bytes.blocks else None) ≡ None
      → SaysTheSame text
      (if long then with_index view (unwrap_or (found_place bytes view source) (length (buffers_of bytes.blocks))) else view)
      (buffers_of (if long then buffer_taken (found_place bytes view source) bytes source (view_index view) else bytes).blocks) view old
  says_if true is free = long_says (found_place bytes view source) refl is free
  says_if false is free =
      says_by view (buffers_of bytes.blocks) (view_content-short view old (buffers_of bytes.blocks) is) (layout_fault-short view (buffers_of bytes.blocks) old is ∙ layout)

  says_same : view_take_fault bytes view source ≡ None → SaysTheSame text (taken_view bytes view source) (buffers_of (view_taken bytes view source).blocks) view old
  says_same free = says_if (is_long view) refl free

pub fine-taken : (text : Bool) (bytes : BuilderBytes) (view : List ℕ) (source : ℕ) → IsView view → AreSoundBytes bytes → view_fault text view (source_at bytes.taken source) ≡ None → view_take_fault bytes view source ≡ None
    → view_fault text (taken_view bytes view source) (buffers_of (view_taken bytes view source).blocks) ≡ None
fine-taken text bytes view source is_view sound fine free = (says_same text bytes view source is_view sound fine free).fine

pub same-taken : (text : Bool) (bytes : BuilderBytes) (view : List ℕ) (source : ℕ) → IsView view → AreSoundBytes bytes → view_fault text view (source_at bytes.taken source) ≡ None → view_take_fault bytes view source ≡ None
    → view_content (taken_view bytes view source) (buffers_of (view_taken bytes view source).blocks) ≡ view_content view (source_at bytes.taken source)
same-taken text bytes view source is_view sound fine free = (says_same text bytes view source is_view sound fine free).same

sound_if : (long : Bool) (bytes : BuilderBytes) (view : List ℕ) (source : ℕ) → AreSoundBytes bytes → (if long then take_fault (found_place bytes view source) bytes.blocks else None) ≡ None
    → AreSoundBytes (if long then buffer_taken (found_place bytes view source) bytes source (view_index view) else bytes)
sound_if true bytes view source sound free = taken_by (found_place bytes view source) bytes source (view_index view) sound free
sound_if false bytes view source sound free = sound

pub sound-taken : (bytes : BuilderBytes) (view : List ℕ) (source : ℕ) → AreSoundBytes bytes → view_take_fault bytes view source ≡ None → AreSoundBytes (view_taken bytes view source)
sound-taken bytes view source sound free = sound_if (is_long view) bytes view source sound free

appends_if : (long : Bool) (bytes : BuilderBytes) (view : List ℕ) (source : ℕ)
    → AppendsBytes bytes.blocks (if long then buffer_taken (found_place bytes view source) bytes source (view_index view) else bytes).blocks
    (if long then buffers_added (found_place bytes view source) (buffer_at (source_at bytes.taken source) (view_index view)) else [])
appends_if true bytes view source = appends_by (found_place bytes view source) bytes source (view_index view)
appends_if false bytes view source = appends-refl bytes.blocks

pub appends-taken : (bytes : BuilderBytes) (view : List ℕ) (source : ℕ) → AppendsBytes bytes.blocks (view_taken bytes view source).blocks (taken_buffers bytes view source)
appends-taken bytes view source = appends_if (is_long view) bytes view source

-- blocks that keep their finished buffers
pub sound-appended : (bytes : BuilderBytes) (blocks : ByteBlocks) (added : List (List ℕ)) → AreSoundBytes bytes → AreSoundBlocks blocks → AppendsBytes bytes.blocks blocks added → AreSoundBytes (builder_bytes blocks bytes.taken)
sound-appended bytes blocks added sound blocks_sound appends = record {
  blocks = blocks_sound;
  taken = taken-longer bytes.taken bytes.blocks.finished blocks.finished appends.finished sound.taken;
}
