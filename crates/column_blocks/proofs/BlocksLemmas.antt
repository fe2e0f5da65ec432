-- Laws of blocks.
use Rattle.std.proofs.Common.{◌≡◌, ℕ, suc, ◌+◌, ◌-◌, ◌^◌, ◌<◌, ◌≤◌, Bool, true, false, List, [], ◌∷◌, ◌++◌, length, take, sum_by, None, refl, sym, ◌∙◌, ap, subst, arith, if◌then◌else◌, ◌==◌, length-append}
use Rattle.std.specs.Prelude.{nat_le}
use Rattle.std.proofs.lemmas.List.{drop_at, take_all, get_or_append_left}
use Rattle.std.proofs.lemmas.List.Sums.{sum_by-append, sum_by-cons}
use Rattle.std.proofs.lemmas.Bool.Decides.{nat_tests}
use Rattle.column_base.specs.Lists.{sublist}
use Rattle.column_base.specs.declared.errors.Cause.TheVariants.{Overflow}
use Rattle.column_base.specs.Answers.{cause_if, ◌or_else◌}
use Rattle.column_storage.specs.declared.data_buffers.TheConstants.{MAX_BUFFERS}
use Rattle.column_view.specs.Views.{StandsAt, buffer_at}
use Rattle.column_blocks.specs.Blocks.{ByteBlocks, byte_blocks, blocks_of, buffers_of, block_bytes, room_for, written, block_finished, buffer_pushed, full_fault, is_short_value, stored, store_fault, AreSoundBlocks}

-- ---- the buffers, by whether the block is empty

abbrev pub buffers_with : List (List ℕ) → List ℕ → List (List ℕ)
buffers_with finished block = if length block == 0 then finished else finished ++ block ∷ []

pub some_block : (finished : List (List ℕ)) (byte : ℕ) (block : List ℕ) → buffers_with finished (byte ∷ block) ≡ finished ++ (byte ∷ block) ∷ []
some_block finished byte block = let some : (suc (length block) == 0) ≡ false = grind (arith, nat_tests) in rw some refl

-- ---- counts

pub count_if : (none : Bool) (finished : List (List ℕ)) (block : List ℕ) → length (if none then finished else finished ++ block ∷ []) ≡ length finished + (if none then 0 else 1)
count_if true finished block = omega arith
count_if false finished block = length-append finished (block ∷ [])

pub length-buffers_of : (blocks : ByteBlocks) → length (buffers_of blocks) ≡ length blocks.finished + (if length blocks.block == 0 then 0 else 1)
unfolding buffers_of
length-buffers_of blocks = count_if (length blocks.block == 0) blocks.finished blocks.block

pub ruleset counting = (length-buffers_of, nat_tests)

-- ---- sums

sum_with : (finished : List (List ℕ)) (block : List ℕ) → sum_by length (buffers_with finished block) ≡ sum_by length finished + length block
sum_with finished [] = omega arith
sum_with finished (byte ∷ block) =
    ap (sum_by length) (some_block finished byte block)
    ∙ sum_by-append length finished ((byte ∷ block) ∷ [])
    ∙ ap (λ (n : ℕ). sum_by length finished + n) (sum_by-cons length (byte ∷ block) [])
    ∙ omega arith

pub block_bytes-parts : (blocks : ByteBlocks) → block_bytes blocks ≡ sum_by length blocks.finished + length blocks.block
unfolding buffers_of
block_bytes-parts blocks = sum_with blocks.finished blocks.block

pub ruleset sums = (block_bytes-parts)

-- ---- places

pub at_end : (xs : List (List ℕ)) (y : List ℕ) → buffer_at (xs ++ y ∷ []) (length xs) ≡ y
at_end [] y = refl
at_end (x ∷ xs) y = at_end xs y

at_with : (finished : List (List ℕ)) (block : List ℕ) (i : ℕ) → i < length finished → buffer_at (buffers_with finished block) i ≡ buffer_at finished i
at_with finished [] i within = refl
at_with finished (byte ∷ block) i within = ap (λ (xs : List (List ℕ)). buffer_at xs i) (some_block finished byte block) ∙ get_or_append_left finished ((byte ∷ block) ∷ []) [] i within

pub at_finished : (blocks : ByteBlocks) (i : ℕ) → i < length blocks.finished → buffer_at (buffers_of blocks) i ≡ buffer_at blocks.finished i
unfolding buffers_of
at_finished blocks i within = at_with blocks.finished blocks.block i within

last_with : (finished : List (List ℕ)) (block : List ℕ) (i : ℕ) → length finished ≤ i → i < length (buffers_with finished block) → buffer_at (buffers_with finished block) i ≡ block
last_with finished [] i past within = absurd (omega arith)
last_with finished (byte ∷ block) i past within =
    let count : length (buffers_with finished (byte ∷ block)) ≡ length finished + 1 = ap length (some_block finished byte block) ∙ length-append finished ((byte ∷ block) ∷ []) in
    let last : i ≡ length finished = omega arith in
    ap (λ (xs : List (List ℕ)). buffer_at xs i) (some_block finished byte block)
    ∙ ap (buffer_at (finished ++ (byte ∷ block) ∷ [])) last
    ∙ at_end finished (byte ∷ block)

pub at_block : (blocks : ByteBlocks) (i : ℕ) → length blocks.finished ≤ i → i < length (buffers_of blocks) → buffer_at (buffers_of blocks) i ≡ blocks.block
unfolding buffers_of
at_block blocks i past within = last_with blocks.finished blocks.block i past within

pub ruleset places = (at_finished, at_block)

-- ---- the blocks after a call

pub buffers_of-blocks_of : (buffers : List (List ℕ)) → buffers_of (blocks_of buffers) ≡ buffers
unfolding buffers_of
buffers_of-blocks_of buffers = refl

-- a write, by whether the bytes have room
abbrev pub written_if : Bool → ByteBlocks → List ℕ → ByteBlocks
written_if fits blocks bytes =
    if fits then byte_blocks blocks.finished (blocks.block ++ bytes) blocks.room else byte_blocks (buffers_of blocks) bytes (room_for blocks.room (length bytes))

pub written_by : (blocks : ByteBlocks) (bytes : List ℕ) → written blocks bytes ≡ written_if (nat_le (length blocks.block + length bytes) blocks.room) blocks bytes
unfolding written
written_by blocks bytes = refl

-- ---- where bytes stand

part_at : (front bytes : List ℕ) → sublist (front ++ bytes) (length front) (length bytes) ≡ bytes
part_at front bytes = ap (take (length bytes)) (drop_at front bytes (length front) refl) ∙ take_all (length bytes) bytes (omega arith)

-- bytes at the end of the last buffer
stands_last : (xs : List (List ℕ)) (front bytes : List ℕ) → StandsAt bytes (xs ++ (front ++ bytes) ∷ []) (length xs) (length front)
stands_last xs front bytes = record {
  there = omega (arith, length-append xs ((front ++ bytes) ∷ []));
  within = rw at_end (omega (arith, length-append front bytes));
  same = rw at_end (part_at front bytes);
}

stands_with : (xs : List (List ℕ)) (front bytes : List ℕ) → 0 < length bytes → StandsAt bytes (buffers_with xs (front ++ bytes)) (length xs) (length front)
stands_with xs [] [] some = absurd (omega arith)
stands_with xs [] (byte ∷ bytes) some = subst (λ (buffers : List (List ℕ)). StandsAt (byte ∷ bytes) buffers (length xs) 0) (sym (some_block xs byte bytes)) (stands_last xs [] (byte ∷ bytes))
stands_with xs (byte ∷ front) bytes some = subst (λ (buffers : List (List ℕ)). StandsAt bytes buffers (length xs) (length (byte ∷ front))) (sym (some_block xs byte (front ++ bytes))) (stands_last xs (byte ∷ front) bytes)

stands_if : (fits : Bool) (blocks : ByteBlocks) (bytes : List ℕ) → 0 < length bytes → StandsAt bytes (buffers_of (written_if fits blocks bytes)) (length (written_if fits blocks bytes).finished) (length (written_if fits blocks bytes).block - length bytes)
unfolding buffers_of
stands_if true blocks bytes some =
    let start : length (blocks.block ++ bytes) - length bytes ≡ length blocks.block = omega (arith, length-append blocks.block bytes) in
    rw start (stands_with blocks.finished blocks.block bytes some)
stands_if false blocks bytes some =
    let start : length bytes - length bytes ≡ 0 = omega arith in
    rw start (stands_with (buffers_of blocks) [] bytes some)

pub stands-written : (blocks : ByteBlocks) (bytes : List ℕ) → 0 < length bytes → StandsAt bytes (buffers_of (written blocks bytes)) (length (written blocks bytes).finished) (length (written blocks bytes).block - length bytes)
stands-written blocks bytes some = rw written_by (stands_if (nat_le (length blocks.block + length bytes) blocks.room) blocks bytes some)

-- ---- sound blocks

small_room : (room n : ℕ) → room < 2 ^ 32 → n < 2 ^ 32 → room_for room n < 2 ^ 32
small_room room n low fits = omega arith

enough_room : (room n : ℕ) → n ≤ room_for room n
enough_room room n = omega arith

-- one more buffer at most
count_more : (finished : List (List ℕ)) (block : List ℕ) → length (buffers_with finished block) ≤ length finished + 1
count_more finished [] = omega arith
count_more finished (byte ∷ block) = omega (arith, ap length (some_block finished byte block), length-append finished ((byte ∷ block) ∷ []))

count_less : (finished : List (List ℕ)) (block : List ℕ) → length finished ≤ length (buffers_with finished block)
count_less finished [] = omega arith
count_less finished (byte ∷ block) = omega (arith, ap length (some_block finished byte block), length-append finished ((byte ∷ block) ∷ []))

sound_if : (fits : Bool) (blocks : ByteBlocks) (bytes : List ℕ) → nat_le (length blocks.block + length bytes) blocks.room ≡ fits → AreSoundBlocks blocks → length bytes < 2 ^ 32 → length (buffers_of blocks) < MAX_BUFFERS → AreSoundBlocks (written_if fits blocks bytes)
unfolding buffers_of
sound_if true blocks bytes is sound fits free = record {
  within = rw length-append (grind (arith, nat_tests));
  small = sound.small;
  few = omega (arith, count_more blocks.finished (blocks.block ++ bytes), count_less blocks.finished blocks.block);
}
sound_if false blocks bytes is sound fits free = record {
  within = enough_room blocks.room (length bytes);
  small = small_room blocks.room (length bytes) sound.small fits;
  few = omega (arith, count_more (buffers_of blocks) bytes);
}

pub sound-written : (blocks : ByteBlocks) (bytes : List ℕ) → AreSoundBlocks blocks → length bytes < 2 ^ 32 → length (buffers_of blocks) < MAX_BUFFERS → AreSoundBlocks (written blocks bytes)
sound-written blocks bytes sound fits free =
    subst AreSoundBlocks (sym (written_by blocks bytes)) (sound_if (nat_le (length blocks.block + length bytes) blocks.room) blocks bytes refl sound fits free)

sound_stored_if : (short : Bool) (blocks : ByteBlocks) (bytes : List ℕ) → AreSoundBlocks blocks → (if short then None else (cause_if (nat_le (2 ^ 32) (length bytes)) Overflow or_else full_fault blocks)) ≡ None → AreSoundBlocks (if short then blocks else written blocks bytes)
sound_stored_if true blocks bytes sound fine = sound
sound_stored_if false blocks bytes sound fine = sound-written blocks bytes sound (grind (arith, nat_tests)) (grind (arith, nat_tests))

pub sound-stored : (blocks : ByteBlocks) (bytes : List ℕ) → AreSoundBlocks blocks → store_fault blocks bytes ≡ None → AreSoundBlocks (stored blocks bytes)
sound-stored blocks bytes sound fine = sound_stored_if (is_short_value bytes) blocks bytes sound fine

pub sound-blocks_of : (buffers : List (List ℕ)) → length buffers ≤ MAX_BUFFERS → AreSoundBlocks (blocks_of buffers)
sound-blocks_of buffers few = record {
  within = omega arith;
  small = omega arith;
  few = subst (λ (all : List (List ℕ)). length all ≤ MAX_BUFFERS) (sym (buffers_of-blocks_of buffers)) few;
}

pub sound-finished : (blocks : ByteBlocks) → AreSoundBlocks blocks → AreSoundBlocks (block_finished blocks)
sound-finished blocks sound = sound-blocks_of (buffers_of blocks) sound.few

free_if : (blocks : ByteBlocks) → full_fault blocks ≡ None → length (buffers_of blocks) < MAX_BUFFERS
free_if blocks fine = grind (arith, nat_tests)

pub sound-pushed : (blocks : ByteBlocks) (buffer : List ℕ) → full_fault blocks ≡ None → AreSoundBlocks (buffer_pushed blocks buffer)
sound-pushed blocks buffer fine =
    sound-blocks_of (buffers_of blocks ++ buffer ∷ []) (omega (arith, free_if blocks fine, length-append (buffers_of blocks) (buffer ∷ [])))
