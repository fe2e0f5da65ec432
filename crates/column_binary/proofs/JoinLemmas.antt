-- Laws of slots after others.
use Rattle.std.proofs.Common.{◌≡◌, ℕ, suc, ◌+◌, ◌-◌, ◌<◌, ◌≤◌, ℤ, pos, List, [], ◌∷◌, ◌++◌, length, map, slice_range, refl, sym, ◌∙◌, ap, subst, arith, append_assoc}
use Rattle.std.specs.Prelude.{◌+ℤ◌, sum}
use Rattle.std.specs.List.{concat}
use Rattle.std.proofs.lemmas.List.Sums.{sum_by-cons}
use Rattle.std.proofs.lemmas.List.{length-append, append-nil}
use Rattle.std.proofs.lemmas.Int.{ints}
use Rattle.column_storage.specs.Bits.{joined_flags}
use Rattle.column_storage.specs.Slots.{flagged_slots}
use Rattle.column_storage.specs.Validity.{AreFlagsOf}
use Rattle.column_storage.proofs.RangesLemmas.{range-length}
use Rattle.column_offset.specs.Offsets.{AreSoundOffsets, last_of, offset_at, nat_of}
use Rattle.column_offset.specs.Growth.{pushed, extended, lengths_of}
use Rattle.column_offset.specs.Text.{pieces}
use Rattle.column_offset.proofs.GrowthLemmas.{sound_extended, last_of-push, length-extended}
use Rattle.column_offset.proofs.OffsetsLemmas.{place_below_last}
use Rattle.column_offset.proofs.SlotsLemmas.{length-lengths_of}
use Rattle.column_offset.proofs.TextLemmas.{covered_is}
use Rattle.column_binary.specs.Slots.{OffsetLists, slot_count, offset_slots}
use Rattle.column_binary.specs.Rows.{AreFullLists, joined_lists}
use Rattle.column_storage.proofs.GrowingFlagsLemmas.{are_flags-joined, flags-joined, flagged_slots-joined}
use Rattle.column_binary.proofs.RowsLemmas.{pieces-pushed}
use Rattle.column_binary.proofs.SlotsLemmas.{flagged, length-pieces}

-- ---- pieces

lengths-pieces : (ns : List ℤ) (vs : List ℕ) → ((i : ℕ) → i < length ns → nat_of (offset_at ns i) ≤ length vs) → lengths_of ns ≡ map length (pieces ns vs)
lengths-pieces [] vs within = refl
lengths-pieces (a ∷ []) vs within = refl
lengths-pieces (a ∷ b ∷ ns) vs within =
    ap (λ (n : ℕ). n ∷ lengths_of (b ∷ ns)) (sym (range-length vs (nat_of a) (nat_of b) (within 1 (omega arith))))
    ∙ ap (λ (ls : List ℕ). length (slice_range vs (nat_of a) (nat_of b)) ∷ ls) (lengths-pieces (b ∷ ns) vs (λ i below. within (suc i) (omega arith)))

pub lengths-full : (lists : OffsetLists) → AreFullLists lists → lengths_of lists.offsets ≡ map length (pieces lists.offsets lists.values)
lengths-full lists full =
    let end : nat_of (last_of lists.offsets) ≡ length lists.values = ap nat_of full.full in
    lengths-pieces lists.offsets lists.values (λ i below. let order = place_below_last lists.offsets i full.sound.sound below in omega arith)

sum_lengths : (z : ℤ) (n m k : ℕ) → z ≡ pos n → k ≡ n + m → z +ℤ pos m ≡ pos k
sum_lengths z n m k e f = omega (arith, ints)

extended_pieces : (ps : List (List ℕ)) (ns : List ℤ) (vs : List ℕ) → AreSoundOffsets ns → last_of ns ≡ pos (length vs)
    → (pieces (extended ns (map length ps)) (vs ++ concat ps) ≡ pieces ns vs ++ ps) × (last_of (extended ns (map length ps)) ≡ pos (length (vs ++ concat ps)))
extended_pieces [] ns vs sound full = (
  ap (pieces ns) (append-nil vs) ∙ sym (append-nil (pieces ns vs)),
  full ∙ ap (λ (xs : List ℕ). pos (length xs)) (sym (append-nil vs)),
)
extended_pieces (p ∷ ps) ns vs sound full =
    let next : ℤ = last_of ns +ℤ pos (length p) in
    let last : last_of (pushed ns (length p)) ≡ pos (length (vs ++ p)) = last_of-push ns next ∙ sum_lengths (last_of ns) (length vs) (length p) (length (vs ++ p)) full (length-append vs p) in
    let rest = extended_pieces ps (pushed ns (length p)) (vs ++ p) (sound_extended ns (length p ∷ []) sound) last in
    let values : vs ++ (p ++ concat ps) ≡ (vs ++ p) ++ concat ps = sym (append_assoc vs p (concat ps)) in (
      ap (pieces (extended (pushed ns (length p)) (map length ps))) values
          ∙ rest.0
          ∙ ap (λ (qs : List (List ℕ)). qs ++ ps) (pieces-pushed ns next vs p sound full refl)
          ∙ append_assoc (pieces ns vs) (p ∷ []) ps,
      rest.1 ∙ ap (λ (xs : List ℕ). pos (length xs)) (sym values),
    )

sum-lengths : (ps : List (List ℕ)) → sum (map length ps) ≡ length (concat ps)
sum-lengths [] = refl
sum-lengths (p ∷ ps) =
    let rest = sum-lengths ps in
    let size = length-append p (concat ps) in
    let more = sum_by-cons (λ k. k) (length p) (map length ps) in
    omega arith

-- the bytes of the slots are as many as their lengths say
pub sum-full : (lists : OffsetLists) → AreFullLists lists → sum (lengths_of lists.offsets) ≡ length (concat (pieces lists.offsets lists.values))
sum-full lists full = ap sum (lengths-full lists full) ∙ sum-lengths (pieces lists.offsets lists.values)

-- ---- slots after others

pub full_joined : (lists others : OffsetLists) → AreFullLists lists → AreFullLists others → AreFullLists (joined_lists lists others)
unfolding joined_lists
full_joined lists others full rest =
    let ps = pieces others.offsets others.values in
    let lengths : lengths_of others.offsets ≡ map length ps = lengths-full others rest in
    let last : last_of (extended lists.offsets (lengths_of others.offsets)) ≡ pos (length (lists.values ++ concat ps)) =
    ap (λ (ls : List ℕ). last_of (extended lists.offsets ls)) lengths ∙ (extended_pieces ps lists.offsets lists.values full.sound.sound full.full).1 in
    let some = full.sound.sound.not_empty in
    let size = length-extended lists.offsets (lengths_of others.offsets) in
    let count : length (lengths_of others.offsets) ≡ slot_count others = length-lengths_of others.offsets in
    let slots : slot_count lists + slot_count others ≡ length (extended lists.offsets (lengths_of others.offsets)) - 1 = omega arith in
    record {
      sound = record {
        sound = sound_extended lists.offsets (lengths_of others.offsets) full.sound.sound;
        within = rw last (omega (arith, ints));
        flagged = subst (λ (n : ℕ). AreFlagsOf n (joined_flags (slot_count lists) lists.flags (slot_count others) others.flags)) slots (are_flags-joined (slot_count lists) lists.flags (slot_count others) others.flags full.sound.flagged rest.sound.flagged);
      };
      full = last;
    }

pub slots-joined : (lists others : OffsetLists) → AreFullLists lists → AreFullLists others → offset_slots (joined_lists lists others) ≡ offset_slots lists ++ offset_slots others
unfolding joined_lists offset_slots
slots-joined lists others full rest =
    let front = pieces lists.offsets lists.values in
    let ps = pieces others.offsets others.values in
    let lengths : lengths_of others.offsets ≡ map length ps = lengths-full others rest in
    let values = lists.values ++ concat ps in
    ap (λ (ls : List ℕ). flagged_slots (joined_flags (slot_count lists) lists.flags (slot_count others) others.flags) (pieces (extended lists.offsets ls) values)) lengths
    ∙ ap (flagged_slots (joined_flags (slot_count lists) lists.flags (slot_count others) others.flags)) (extended_pieces ps lists.offsets lists.values full.sound.sound full.full).0
    ∙ ap (λ (n : ℕ). flagged_slots (joined_flags n lists.flags (slot_count others) others.flags) (front ++ ps)) (sym (length-pieces lists.offsets lists.values))
    ∙ ap (λ (n : ℕ). flagged_slots (joined_flags (length front) lists.flags n others.flags) (front ++ ps)) (sym (length-pieces others.offsets others.values))
    ∙ flagged_slots-joined lists.flags front others.flags ps (flagged lists full.sound)

pub bytes_from : (lists : OffsetLists) (start end : ℕ) → AreFullLists lists → pos start ≡ offset_at lists.offsets 0 → end ≡ length lists.values → slice_range lists.values start end ≡ concat (pieces lists.offsets lists.values)
bytes_from lists start end full at all =
    let first : start ≡ nat_of (offset_at lists.offsets 0) = ap nat_of at in
    let last : end ≡ nat_of (last_of lists.offsets) = all ∙ sym (ap nat_of full.full) in
    rw (first, last) (covered_is lists.offsets lists.values full.sound.sound)

pub start_within : (lists : OffsetLists) (start : ℕ) → AreFullLists lists → pos start ≡ offset_at lists.offsets 0 → start ≤ length lists.values
start_within lists start full at =
    let first : start ≡ nat_of (offset_at lists.offsets 0) = ap nat_of at in
    let end : nat_of (last_of lists.offsets) ≡ length lists.values = ap nat_of full.full in
    let order = place_below_last lists.offsets 0 full.sound.sound full.sound.sound.not_empty in
    omega arith

pub ruleset joining = (full_joined, flags-joined, start_within, sum-full)
