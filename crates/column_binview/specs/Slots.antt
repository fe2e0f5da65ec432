-- The lists of an array of views, the slots that they mean, and their faults.
use Rattle.std.specs.Prelude.{◌≡◌, ℕ, ◌≤◌, Bool, List, length, map, sum_by, Option, None, IfSome}
use Rattle.column_base.specs.declared.errors.Cause.{Cause}
use Rattle.column_base.specs.Answers.{◌or_else◌}
use Rattle.column_base.specs.Kinds.{Slot}
use Rattle.column_base.specs.Lists.{sublist}
use Rattle.column_storage.specs.Bits.{sliced_flags}
use Rattle.column_storage.specs.Slots.{flagged_slots}
use Rattle.column_storage.specs.Validity.{AreFlagsOf, flags_fault}
use Rattle.column_storage.specs.declared.data_buffers.TheConstants.{MAX_BUFFERS}
use Rattle.column_view.specs.Views.{view_content, view_length}
use Rattle.column_view.specs.ViewFaults.{views_fault}

-- Arrow columnar format, "Variable-size Binary View Layout": the views, the buffers that they name, and the validity where
-- one is given.
pub record ViewLists : Type 0 where
  pub views : List (List ℕ)
  pub buffers : List (List ℕ)
  pub flags : Option (List Bool)

abbrev pub view_lists : List (List ℕ) → List (List ℕ) → Option (List Bool) → ViewLists
view_lists views buffers flags = record { views = views; buffers = buffers; flags = flags }

-- a view for each slot
abbrev pub view_count : ViewLists → ℕ
view_count lists = length lists.views

-- the content of each view
abbrev pub contents : List (List ℕ) → List (List ℕ) → List (List ℕ)
contents views buffers = map (λ view. view_content view buffers) views

-- what the lists mean: each flag beside the content of a view
unfoldable pub view_slots : ViewLists → List Slot
view_slots lists = flagged_slots lists.flags (contents lists.views lists.buffers)

-- the first fault of lists whose buffers are not too many: that of the first view that has one, then of the flags
abbrev pub view_array_fault : Bool → ViewLists → Option Cause
view_array_fault text lists = views_fault text lists.views lists.buffers or_else flags_fault (view_count lists) lists.flags

-- Lists that are sound: no view has a fault, flags that are given are as many as the slots, and the buffers are not too
-- many.
pub record AreSoundViews (text : Bool) (lists : ViewLists) : Type 0 where
  pub fine : views_fault text lists.views lists.buffers ≡ None
  pub flagged : AreFlagsOf (view_count lists) lists.flags
  pub few : length lists.buffers ≤ MAX_BUFFERS

-- n slots from a place on: their views, and all the buffers
unfoldable pub sliced_views : ViewLists → ℕ → ℕ → ViewLists
sliced_views lists from n = view_lists (sublist lists.views from n) lists.buffers (sliced_flags lists.flags from n)

-- A part of lists, of n slots from a place on: which lists it has, which slots they mean and how many, and that they are
-- sound.
pub record IsViewPart (text : Bool) (old : ViewLists) (from n : ℕ) (new : ViewLists) : Type 0 where
  pub part : new ≡ sliced_views old from n
  pub slots : view_slots new ≡ sublist (view_slots old) from n
  pub count : view_count new ≡ n
  pub sound : AreSoundViews text new

-- This library's own: the bytes of all slots together, as their views count them, and those of all buffers.
abbrev pub bytes_len : ViewLists → ℕ
bytes_len lists = sum_by view_length lists.views

abbrev pub buffer_len : ViewLists → ℕ
buffer_len lists = sum_by length lists.buffers

-- Sums that are kept beside lists are theirs. That of the slots may be left out.
pub record AreSums (lists : ViewLists) (bytes : Option ℕ) (buffer_bytes : ℕ) : Type 0 where
  pub slots : IfSome bytes (λ n. n ≡ bytes_len lists)
  pub buffers : buffer_bytes ≡ buffer_len lists
