-- Laws of views over buffers that grow, and of the view of a value that is stored.
use Rattle.std.proofs.Common.{◌≡◌, ℕ, zero, suc, ◌+◌, ◌-◌, ◌^◌, ◌<◌, ◌≤◌, Bool, true, false, List, [], ◌∷◌, length, map, take, drop, None, refl, sym, ◌∙◌, ap, arith, if◌then◌else◌}
use Rattle.std.specs.Prelude.{nat_le, nat_lt}
use Rattle.std.proofs.lemmas.List.{length-take, drop-take, take-take}
use Rattle.std.proofs.lemmas.Bool.Decides.{nat_tests}
use Rattle.column_base.specs.declared.errors.Cause.TheVariants.{Overflow}
use Rattle.column_base.specs.Answers.{cause_if, ◌or_else◌}
use Rattle.column_base.specs.Lists.{sublist}
use Rattle.column_storage.specs.declared.data_buffers.TheConstants.{MAX_BUFFERS}
use Rattle.column_view.specs.Views.{view_length, view_index, view_start, is_long, buffer_at, inline_content, long_content, view_content, inline_view, long_view}
use Rattle.column_view.specs.ViewFaults.{Says, inline_fault, long_fault, layout_fault, content_fault, view_fault, views_fault}
use Rattle.column_view.proofs.ViewsLemmas.{names_buffer, names_range}
use Rattle.column_view.proofs.FaultsLemmas.{first_none, rest_none, none_both, says_inline, says_long}
use Rattle.column_blocks.specs.Blocks.{GrowTo, ByteBlocks, buffers_of, written, full_fault, is_short_value, stored, stored_view, store_fault, AreSoundBlocks}
use Rattle.column_blocks.proofs.BlocksLemmas.{stands-written, sound-written}

-- ---- views over buffers that grow

grow_at : (old new : List (List ℕ)) (i : ℕ) → GrowTo old new → i < length old → (i < length new) × (take (length (buffer_at old i)) (buffer_at new i) ≡ buffer_at old i)
grow_at [] new i grown within = absurd (omega arith)
grow_at (before ∷ old) [] i grown within = absurd grown
grow_at (before ∷ old) (after ∷ new) zero grown within = (omega arith, grown.0)
grow_at (before ∷ old) (after ∷ new) (suc i) grown within =
    let rest = grow_at old new i grown.1 (omega arith) in (omega arith, rest.1)

longer : (before after : List ℕ) → take (length before) after ≡ before → length before ≤ length after
longer before after same = omega (arith, length-take (length before) after, ap length same)

part_of_longer : (before after : List ℕ) (from n : ℕ) → take (length before) after ≡ before → from + n ≤ length before → sublist after from n ≡ sublist before from n
part_of_longer before after from n same within =
    let m = length before - from in
    let parts : length before ≡ from + m = omega arith in
    sym (ap (λ (ys : List ℕ). sublist ys from n) (sym same)
    ∙ ap (λ (k : ℕ). take n (drop from (take k after))) parts
    ∙ ap (take n) (drop-take from m after)
    ∙ take-take n m (drop from after) (omega arith))

module _ (old new : List (List ℕ)) (grown : GrowTo old new) (view : List ℕ) (sound : layout_fault view old ≡ None) where
  there : 12 < view_length view → view_index view < length new
  there long = (grow_at old new (view_index view) grown (names_buffer view old long sound)).0

  begins : 12 < view_length view → take (length (buffer_at old (view_index view))) (buffer_at new (view_index view)) ≡ buffer_at old (view_index view)
  begins long = (grow_at old new (view_index view) grown (names_buffer view old long sound)).1

  long_content-grown : 12 < view_length view → long_content view new ≡ long_content view old
  long_content-grown long =
      part_of_longer (buffer_at old (view_index view)) (buffer_at new (view_index view)) (view_start view) (view_length view) (begins long) (names_range view old long sound)

  content_by : (long : Bool) → is_long view ≡ long → (if long then long_content view new else inline_content view) ≡ (if long then long_content view old else inline_content view)
  content_by true is = long_content-grown (grind (arith, nat_tests))
  content_by false is = refl

  pub view_content-grown : view_content view new ≡ view_content view old
  unfolding view_content
  view_content-grown = content_by (is_long view) refl

  layout_by : (long : Bool) → is_long view ≡ long → (if long then long_fault view old else inline_fault view) ≡ None → (if long then long_fault view new else inline_fault view) ≡ None
  layout_by false is fine = fine
  layout_by true is fine =
      let big : 12 < view_length view = grind (arith, nat_tests) in
      let index : view_index view < length old = names_buffer view old big sound in
      let range : view_start view + view_length view ≤ length (buffer_at old (view_index view)) = names_range view old big sound in
      let still : view_index view < length new = there big in
      let more : length (buffer_at old (view_index view)) ≤ length (buffer_at new (view_index view)) = longer (buffer_at old (view_index view)) (buffer_at new (view_index view)) (begins big) in
      let index_test : nat_le (length old) (view_index view) ≡ false = grind (arith, nat_tests) in
      let range_test : nat_lt (length (buffer_at old (view_index view))) (view_start view + view_length view) ≡ false = grind (arith, nat_tests) in
      let new_index_test : nat_le (length new) (view_index view) ≡ false = grind (arith, nat_tests) in
      let new_range_test : nat_lt (length (buffer_at new (view_index view))) (view_start view + view_length view) ≡ false = grind (arith, nat_tests) in
      rw (new_index_test, new_range_test, long_content-grown big) (rw (index_test, range_test) at fine)

  pub layout_fault-grown : layout_fault view new ≡ None
  unfolding layout_fault
  layout_fault-grown = layout_by (is_long view) refl sound

  content_fault-grown : (text : Bool) → content_fault text view new ≡ content_fault text view old
  unfolding content_fault
  content_fault-grown text = rw view_content-grown refl

pub view_fault-grown : (text : Bool) (old new : List (List ℕ)) (view : List ℕ) → GrowTo old new → view_fault text view old ≡ None → view_fault text view new ≡ None
view_fault-grown text old new view grown fine =
    let layout = first_none (layout_fault view old) (content_fault text view old) fine in
    none_both (layout_fault view new) (content_fault text view new) (layout_fault-grown old new grown view layout)
    (content_fault-grown old new grown view layout text ∙ rest_none (layout_fault view old) (content_fault text view old) fine)

pub views_fault-grown : (text : Bool) (old new views : List (List ℕ)) → GrowTo old new → views_fault text views old ≡ None → views_fault text views new ≡ None
views_fault-grown text old new [] grown fine = refl
views_fault-grown text old new (view ∷ views) grown fine =
    let one = first_none (view_fault text view old) (views_fault text views old) fine in
    let rest = rest_none (view_fault text view old) (views_fault text views old) fine in
    none_both (view_fault text view new) (views_fault text views new) (view_fault-grown text old new view grown one) (views_fault-grown text old new views grown rest)

pub contents-grown : (text : Bool) (old new views : List (List ℕ)) → GrowTo old new → views_fault text views old ≡ None
    → map (λ view. view_content view new) views ≡ map (λ view. view_content view old) views
contents-grown text old new [] grown fine = refl
contents-grown text old new (view ∷ views) grown fine =
    let one = first_none (view_fault text view old) (views_fault text views old) fine in
    let layout = first_none (layout_fault view old) (content_fault text view old) one in
    let rest = rest_none (view_fault text view old) (views_fault text views old) fine in
    ap (λ (bytes : List ℕ). bytes ∷ map (λ v. view_content v new) views) (view_content-grown old new grown view layout)
    ∙ ap (λ (more : List (List ℕ)). view_content view old ∷ more) (contents-grown text old new views grown rest)

-- ---- the view of a value that is stored

less_than_room : (blocks : ByteBlocks) → AreSoundBlocks blocks → length blocks.block < 2 ^ 32
less_than_room blocks sound = let within = sound.within in let small = sound.small in omega arith

says_if : (short : Bool) (blocks : ByteBlocks) (bytes : List ℕ) → is_short_value bytes ≡ short → AreSoundBlocks blocks → (if short then None else (cause_if (nat_le (2 ^ 32) (length bytes)) Overflow or_else full_fault blocks)) ≡ None
    → Says (if short then inline_view bytes else long_view bytes (length (if short then blocks else written blocks bytes).finished) (length (if short then blocks else written blocks bytes).block - length bytes)) (buffers_of (if short then blocks else written blocks bytes)) bytes
says_if true blocks bytes is sound fine = says_inline bytes (buffers_of blocks) (grind (arith, nat_tests))
says_if false blocks bytes is sound fine =
    let after = written blocks bytes in
    let long : 12 < length bytes = grind (arith, nat_tests) in
    let fits : length bytes < 2 ^ 32 = grind (arith, nat_tests) in
    let free : length (buffers_of blocks) < MAX_BUFFERS = grind (arith, nat_tests) in
    let stands = stands-written blocks bytes (omega arith) in
    let still = sound-written blocks bytes sound fits free in
    let few : length (buffers_of after) ≤ MAX_BUFFERS = still.few in
    let here : length after.finished < length (buffers_of after) = stands.there in
    let low : length after.block < 2 ^ 32 = less_than_room after still in
    says_long bytes (length after.finished) (length after.block - length bytes) (buffers_of after) long fits (omega arith) (omega arith) stands

pub says-stored : (blocks : ByteBlocks) (bytes : List ℕ) → AreSoundBlocks blocks → store_fault blocks bytes ≡ None → Says (stored_view blocks bytes) (buffers_of (stored blocks bytes)) bytes
says-stored blocks bytes sound fine = says_if (is_short_value bytes) blocks bytes refl sound fine
