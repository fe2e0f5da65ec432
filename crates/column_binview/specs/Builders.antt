-- Arrays of views that grow: this library's own.
use Rattle.std.specs.Prelude.{◌≡◌, ℕ, ◌^◌, ◌<◌, Bool, true, false, List, [], ◌++◌, length, take, Option, Some, None, IfSome}
use Rattle.std.specs.List.{flat_map}
use Rattle.column_base.specs.declared.errors.Cause.{Cause}
use Rattle.column_base.specs.Kinds.{Slot}
use Rattle.column_base.specs.Pushes.{Growth}
use Rattle.column_view.specs.Views.{view_content}
use Rattle.column_blocks.specs.Blocks.{ByteBlocks, blocks_of, buffers_of, block_finished, buffer_pushed, stored, stored_view, store_fault, written_values, AppendsBytes}
use Rattle.column_blocks.specs.Rows.{FlaggedViews, flagged_views, null_view, pushed_view, extended_view}
use Rattle.column_blocks.specs.Sources.{BuilderBytes, builder_bytes, no_sources, source_at, source_added, view_taken, taken_view, AreSoundBytes}
use Rattle.column_binview.specs.Slots.{ViewLists, view_lists, view_slots, AreSoundViews}

-- The views of a builder beside their flags, and what stands behind the views: blocks, and sources of which buffers were
-- taken into them.
pub record ViewBuilder : Type 0 where
  pub rows : FlaggedViews
  pub bytes : BuilderBytes

abbrev pub view_builder : FlaggedViews → BuilderBytes → ViewBuilder
view_builder rows bytes = record { rows = rows; bytes = bytes }

-- the array that it is: its buffers are the finished ones, and then the block where it is not empty
abbrev pub lists_of : ViewBuilder → ViewLists
lists_of builder = view_lists builder.rows.views (buffers_of builder.bytes.blocks) builder.rows.flags

-- the builder of an array: its buffers are finished, and there are no sources
abbrev pub builder_of : ViewLists → ViewBuilder
builder_of lists = view_builder (flagged_views lists.views lists.flags) (builder_bytes (blocks_of lists.buffers) no_sources)

abbrev pub no_slots : ViewBuilder
no_slots = builder_of (view_lists [] [] None)

-- A builder that is sound: the array that it is, and what stands behind its views.
pub record IsSoundBuilder (text : Bool) (builder : ViewBuilder) : Type 0 where
  pub array : AreSoundViews text (lists_of builder)
  pub bytes : AreSoundBytes builder.bytes

-- the same views over other blocks
abbrev pub with_blocks : ViewBuilder → ByteBlocks → ViewBuilder
with_blocks builder blocks = view_builder builder.rows (builder_bytes blocks builder.bytes.taken)

-- other views and flags over the same bytes
abbrev pub with_rows : ViewBuilder → FlaggedViews → ViewBuilder
with_rows builder rows = view_builder rows builder.bytes

-- one more value, which is stored
abbrev pub pushed_value : ViewBuilder → List ℕ → ViewBuilder
pushed_value builder value = view_builder
    (pushed_view builder.rows (stored_view builder.bytes.blocks value) true)
    (builder_bytes (stored builder.bytes.blocks value) builder.bytes.taken)

-- one more null slot, without bytes
abbrev pub pushed_null : ViewBuilder → ViewBuilder
pushed_null builder = view_builder (pushed_view builder.rows null_view false) builder.bytes

-- the slot of one more row
abbrev pub pushed_row : ViewBuilder → Option (List ℕ) → ViewBuilder
pushed_row builder None = pushed_null builder
pushed_row builder (Some value) = pushed_value builder value

-- why a row is refused: its value is
abbrev pub row_fault : ViewBuilder → Option (List ℕ) → Option Cause
row_fault builder None = None
row_fault builder (Some value) = store_fault builder.bytes.blocks value

-- a row whose value has a length that a view can say
abbrev pub FitsView : Option (List ℕ) → Type 0
FitsView row = IfSome row (λ value. length value < 2 ^ 32)

-- how a builder takes rows
abbrev pub row_growth : Growth ViewBuilder (Option (List ℕ))
row_growth = record { fault = row_fault; pushed = pushed_row }

-- n more slots of one row, whose value is stored once
abbrev pub extended_row : ViewBuilder → ℕ → Option (List ℕ) → ViewBuilder
extended_row builder n None = view_builder (extended_view builder.rows n null_view false) builder.bytes
extended_row builder n (Some value) = view_builder
    (extended_view builder.rows n (stored_view builder.bytes.blocks value) true)
    (builder_bytes (stored builder.bytes.blocks value) builder.bytes.taken)

-- the block is finished
abbrev pub finished_builder : ViewBuilder → ViewBuilder
finished_builder builder = with_blocks builder (block_finished builder.bytes.blocks)

-- one more finished buffer
abbrev pub with_buffer : ViewBuilder → List ℕ → ViewBuilder
with_buffer builder buffer = with_blocks builder (buffer_pushed builder.bytes.blocks buffer)

-- one more source
abbrev pub with_source : ViewBuilder → List (List ℕ) → ViewBuilder
with_source builder buffers = view_builder builder.rows (builder_bytes builder.bytes.blocks (source_added builder.bytes.taken buffers))

-- the content of a view of a source
abbrev pub source_content : ViewBuilder → List ℕ → ℕ → List ℕ
source_content builder view source = view_content view (source_at builder.bytes.taken source)

-- one more view of a source, whose buffer is taken
abbrev pub pushed_source_view : ViewBuilder → List ℕ → ℕ → ViewBuilder
pushed_source_view builder view source = view_builder
    (pushed_view builder.rows (taken_view builder.bytes view source) true)
    (view_taken builder.bytes view source)

-- the slot of a row
abbrev pub slot_of : Option (List ℕ) → Slot
slot_of None = record { valid = false; bytes = [] }
slot_of (Some value) = record { valid = true; bytes = value }

-- the values of rows that are written behind their views: the long ones
abbrev pub written_row : Option (List ℕ) → List (List ℕ)
written_row None = []
written_row (Some value) = written_values value

abbrev pub written_rows : List (Option (List ℕ)) → List (List ℕ)
written_rows rows = flat_map written_row rows

-- What calls add to a builder: slots after the old ones, and byte strings after the bytes of the old buffers. Earlier views
-- stay, and what stands behind them.
pub record Appends (old new : ViewBuilder) (added : List Slot) (written : List (List ℕ)) : Type 0 where
  pub slots : view_slots (lists_of new) ≡ view_slots (lists_of old) ++ added
  pub views : take (length old.rows.views) new.rows.views ≡ old.rows.views
  pub bytes : AppendsBytes old.bytes.blocks new.bytes.blocks written
