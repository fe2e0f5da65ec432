-- Views that are made of views and of what they say: this library's own.
use Rattle.std.specs.Prelude.{◌≡◌, ℕ, ◌<◌, List, [], length, slice_index_or}
use Rattle.column_base.specs.Slots.{slot_at}
use Rattle.column_binview.specs.Slots.{ViewLists, view_slots}

-- the view at a place
abbrev pub view_at : List (List ℕ) → ℕ → List ℕ
view_at views i = slice_index_or views i []

-- A view for each of the first n slots, related to the view of the slot and the bytes that this says.
pub record AreMadeOf (R : List ℕ → List ℕ → List ℕ → Type 0) (lists : ViewLists) (n : ℕ) (views : List (List ℕ)) : Type 0 where
  pub count : length views ≡ n
  pub each : (i : ℕ) → i < n → R (view_at lists.views i) (slot_at (view_slots lists) i).bytes (view_at views i)
