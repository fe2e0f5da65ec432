-- Views that grow, and which of them are null: this library's own.
use Rattle.std.specs.Prelude.{◌≡◌, ℕ, ◌^◌, ◌≤◌, Bool, true, false, List, [], ◌∷◌, ◌++◌, length, replicate, slice_set, sum_by, Option, Some, None, option_map}
use Rattle.std.specs.List.{All}
use Rattle.column_storage.specs.Bits.{pushed_flag, joined_flags, constant_flags, changed_flag}
use Rattle.column_view.specs.Views.{view_length}

-- The views of a builder, and a flag for each where a validity is given.
pub record FlaggedViews : Type 0 where
  pub views : List (List ℕ)
  pub flags : Option (List Bool)

abbrev pub flagged_views : List (List ℕ) → Option (List Bool) → FlaggedViews
flagged_views views flags = record { views = views; flags = flags }

-- Views that grow beside their flags, and how many more have room.
pub record GrowingRows : Type 0 where
  pub rows : FlaggedViews
  pub spare : ℕ

-- no views
abbrev pub no_views : FlaggedViews
no_views = flagged_views [] None

-- the bytes of all views together, as the views count them
abbrev pub view_bytes : FlaggedViews → ℕ
view_bytes rows = sum_by view_length rows.views

-- the view of no bytes, which a null slot has
abbrev pub null_view : List ℕ
null_view = replicate 16 0

-- one more view, of a slot that is valid or null
abbrev pub pushed_view : FlaggedViews → List ℕ → Bool → FlaggedViews
pushed_view rows view valid = flagged_views (rows.views ++ view ∷ []) (pushed_flag (length rows.views) rows.flags valid)

-- n more slots that are alike
abbrev pub extended_view : FlaggedViews → ℕ → List ℕ → Bool → FlaggedViews
extended_view rows n view valid = flagged_views
    (rows.views ++ replicate n view)
    (joined_flags (length rows.views) rows.flags n (constant_flags n valid))

-- another view in a slot, which is valid or null as before
abbrev pub changed_view : FlaggedViews → ℕ → List ℕ → FlaggedViews
changed_view rows i view = flagged_views (slice_set rows.views i view) rows.flags

-- a slot that is valid or null, with the same view
abbrev pub with_flag : FlaggedViews → ℕ → Bool → FlaggedViews
with_flag rows i valid = flagged_views rows.views (changed_flag (length rows.views) rows.flags i valid)

-- other flags beside the same views
abbrev pub with_flags : FlaggedViews → Option (List Bool) → FlaggedViews
with_flags rows flags = flagged_views rows.views flags

-- Views whose lengths are counted, and how many more have room.
pub record GrowingViews : Type 0 where
  pub views : List (List ℕ)
  pub spare : ℕ

-- no view says more than 2 ^ 32 bytes
abbrev pub AreBounded : List (List ℕ) → Type 0
AreBounded views = All (λ view. view_length view ≤ 2 ^ 32) views

-- A number that is kept beside views is that of their bytes.
pub record IsLengthCount (views : List (List ℕ)) (n : ℕ) : Type 0 where
  pub sum : n ≡ sum_by view_length views
  pub bounded : AreBounded views
