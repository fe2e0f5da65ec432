-- The bytes behind the views of a builder, in blocks: this library's own.
use Rattle.std.specs.Prelude.{◌≡◌, ℕ, ◌+◌, ◌-◌, ◌*◌, ◌^◌, ◌<◌, ◌≤◌, max, min, nat_le, Bool, List, [], ◌∷◌, ◌++◌, length, take, drop, sum_by, Option, None, ◌==◌, if◌then◌else◌}
use Rattle.std.specs.List.{concat, All}
use Rattle.column_base.specs.declared.errors.Cause.{Cause}
use Rattle.column_base.specs.declared.errors.Cause.TheVariants.{Overflow}
use Rattle.column_base.specs.Answers.{cause_if, ◌or_else◌}
use Rattle.column_storage.specs.declared.data_buffers.TheConstants.{MAX_BUFFERS}
use Rattle.column_view.specs.Views.{view_of}
use Rattle.column_blocks.specs.declared.blocks.TheConstants.{DEFAULT_BLOCK_SIZE, MAX_EXP_BLOCK_SIZE}

-- The finished buffers, the block in progress, and how many bytes have room in the block.
pub record ByteBlocks : Type 0 where
  pub finished : List (List ℕ)
  pub block : List ℕ
  pub room : ℕ

abbrev pub byte_blocks : List (List ℕ) → List ℕ → ℕ → ByteBlocks
byte_blocks finished block room = record { finished = finished; block = block; room = room }

-- finished buffers alone: no block in progress
abbrev pub blocks_of : List (List ℕ) → ByteBlocks
blocks_of buffers = byte_blocks buffers [] 0

-- the buffers that views name by their place: the finished ones, and then the block where it is not empty
unfoldable pub buffers_of : ByteBlocks → List (List ℕ)
buffers_of blocks = if length blocks.block == 0 then blocks.finished else blocks.finished ++ blocks.block ∷ []

-- the bytes of all buffers together
abbrev pub block_bytes : ByteBlocks → ℕ
block_bytes blocks = sum_by length (buffers_of blocks)

-- the room of a new block for n bytes after one of a given room: n, or twice the old room between two bounds
abbrev pub room_for : ℕ → ℕ → ℕ
room_for room n = max n (max DEFAULT_BLOCK_SIZE (min (2 * room) MAX_EXP_BLOCK_SIZE))

-- Bytes go to the end of the block where they have room there, and else begin a new one.
unfoldable pub written : ByteBlocks → List ℕ → ByteBlocks
written blocks bytes =
    if nat_le (length blocks.block + length bytes) blocks.room
    then byte_blocks blocks.finished (blocks.block ++ bytes) blocks.room
    else byte_blocks (buffers_of blocks) bytes (room_for blocks.room (length bytes))

-- the block is finished: none is in progress
abbrev pub block_finished : ByteBlocks → ByteBlocks
block_finished blocks = blocks_of (buffers_of blocks)

-- one more finished buffer
abbrev pub buffer_pushed : ByteBlocks → List ℕ → ByteBlocks
buffer_pushed blocks buffer = blocks_of (buffers_of blocks ++ buffer ∷ [])

-- no further buffer may be begun or taken
abbrev pub full_fault : ByteBlocks → Option Cause
full_fault blocks = cause_if (nat_le MAX_BUFFERS (length (buffers_of blocks))) Overflow

-- a value that its view holds
abbrev pub is_short_value : List ℕ → Bool
is_short_value bytes = nat_le (length bytes) 12

-- A short value stands in its view, and a long one is written.
abbrev pub stored : ByteBlocks → List ℕ → ByteBlocks
stored blocks bytes = if is_short_value bytes then blocks else written blocks bytes

-- the view of a value that is stored, of which a long one ends where the block ends
abbrev pub stored_view : ByteBlocks → List ℕ → List ℕ
stored_view blocks bytes =
    let after = stored blocks bytes in
    view_of bytes (length after.finished) (length after.block - length bytes)

-- why a value is refused: it is long, and has 2 ^ 32 bytes or more, or there may be no further buffer
abbrev pub store_fault : ByteBlocks → List ℕ → Option Cause
store_fault blocks bytes =
    if is_short_value bytes
    then None
    else (cause_if (nat_le (2 ^ 32) (length bytes)) Overflow or_else full_fault blocks)

-- Blocks that are sound: the block lies within its room, the room is at most that of a value that a view may name, and
-- the buffers are not too many.
pub record AreSoundBlocks (blocks : ByteBlocks) : Type 0 where
  pub within : length blocks.block ≤ blocks.room
  pub small : blocks.room < 2 ^ 32
  pub few : length (buffers_of blocks) ≤ MAX_BUFFERS

-- each buffer begins the one that stands at its place
abbrev pub GrowTo : List (List ℕ) → List (List ℕ) → Type 0
GrowTo [] new = Unit {0}
GrowTo (before ∷ old) [] = ⊥
GrowTo (before ∷ old) (after ∷ new) = (take (length before) after ≡ before) × GrowTo old new

-- no buffer is empty
abbrev pub AreFilled : List (List ℕ) → Type 0
AreFilled buffers = All (λ bytes. 0 < length bytes) buffers

-- What calls leave of blocks that there were: finished buffers stay, and each buffer begins the one that stands at its
-- place now. Byte strings come after the bytes of the old buffers; there is at most one more buffer for each of them; and
-- where none of them is empty, no buffer is that was not finished before.
pub record AppendsBytes (old new : ByteBlocks) (added : List (List ℕ)) : Type 0 where
  pub finished : take (length old.finished) new.finished ≡ old.finished
  pub grown : GrowTo (buffers_of old) (buffers_of new)
  pub bytes : concat (buffers_of new) ≡ concat (buffers_of old) ++ concat added
  pub count : length (buffers_of new) ≤ length (buffers_of old) + length added
  pub filled : AreFilled added → AreFilled (drop (length old.finished) (buffers_of new))

-- the values that are written behind their views
abbrev pub written_values : List ℕ → List (List ℕ)
written_values bytes = if is_short_value bytes then [] else bytes ∷ []

-- Finished buffers that grow, and how many more have room.
pub record GrowingBuffers : Type 0 where
  pub buffers : List (List ℕ)
  pub spare : ℕ

-- A number that is kept beside buffers is that of their bytes. Each buffer has fewer than 2 ^ 64.
pub record IsByteCount (buffers : List (List ℕ)) (n : ℕ) : Type 0 where
  pub sum : n ≡ sum_by length buffers
  pub bound : n ≤ length buffers * 2 ^ 64
