-- What the 16 bytes of a view mean. Arrow columnar format, "Variable-size Binary View Layout". Its integers are read as
-- unsigned, where Arrow reads them as signed; the two agree below 2 ^ 31.
use Rattle.std.specs.Prelude.{◌≡◌, ℕ, ◌+◌, ◌-◌, ◌<◌, ◌≤◌, nat_le, nat_lt, Bool, List, [], ◌++◌, length, take, drop, replicate, slice_index_or, if◌then◌else◌}
use Rattle.std.specs.Int.{w32, to_le_bytes, from_le_bytes}
use Rattle.column_base.specs.Lists.{sublist}

-- The bytes of a view: 16 of them.
pub record IsView (view : List ℕ) : Type 0 where
  pub count : length view ≡ 16
  pub bytes : (i : ℕ) → slice_index_or view i 0 < 256

-- the little-endian numbers of the four groups of four bytes
unfoldable pub view_length : List ℕ → ℕ
view_length view = from_le_bytes w32 (sublist view 0 4)

unfoldable pub view_prefix : List ℕ → ℕ
view_prefix view = from_le_bytes w32 (sublist view 4 4)

unfoldable pub view_index : List ℕ → ℕ
view_index view = from_le_bytes w32 (sublist view 8 4)

unfoldable pub view_start : List ℕ → ℕ
view_start view = from_le_bytes w32 (sublist view 12 4)

-- a view holds its content where this has at most 12 bytes, and is long otherwise
abbrev pub is_long : List ℕ → Bool
is_long view = nat_lt 12 (view_length view)

-- the buffer at a place; past the end, an empty one
abbrev pub buffer_at : List (List ℕ) → ℕ → List ℕ
buffer_at buffers i = slice_index_or buffers i []

-- the content of a view that holds it
abbrev pub inline_content : List ℕ → List ℕ
inline_content view = sublist view 4 (view_length view)

-- the content of a long view: a range of the buffer that it names
abbrev pub long_content : List ℕ → List (List ℕ) → List ℕ
long_content view buffers = sublist (buffer_at buffers (view_index view)) (view_start view) (view_length view)

unfoldable pub view_content : List ℕ → List (List ℕ) → List ℕ
view_content view buffers = if is_long view then long_content view buffers else inline_content view

-- the view that holds these bytes, at most 12
unfoldable pub inline_view : List ℕ → List ℕ
inline_view bytes = to_le_bytes w32 (length bytes) ++ bytes ++ replicate (12 - length bytes) 0

-- the view of these bytes, more than 12, at a place of a buffer
unfoldable pub long_view : List ℕ → ℕ → ℕ → List ℕ
long_view bytes index start = to_le_bytes w32 (length bytes) ++ take 4 bytes ++ to_le_bytes w32 index ++ to_le_bytes w32 start

-- the view of these bytes: it holds at most 12, and names the place of more
abbrev pub view_of : List ℕ → ℕ → ℕ → List ℕ
view_of bytes index start = if nat_le (length bytes) 12 then inline_view bytes else long_view bytes index start

-- the same view, of the buffer at another place
unfoldable pub with_index : List ℕ → ℕ → List ℕ
with_index view index = take 8 view ++ to_le_bytes w32 index ++ drop 12 view

-- The bytes stand in the buffer at a place, from a start on.
pub record StandsAt (bytes : List ℕ) (buffers : List (List ℕ)) (index start : ℕ) : Type 0 where
  pub there : index < length buffers
  pub within : start + length bytes ≤ length (buffer_at buffers index)
  pub same : sublist (buffer_at buffers index) start (length bytes) ≡ bytes
