-- Rows at their places: few bytes in the place itself, and others end to end. This library's own.
use Rattle.std.specs.Prelude.{ℕ, ◌≡◌, ◌+◌, ◌≤◌, ◌++◌, List, length, take, drop, map, Option, None, Some, ⊤}
use Rattle.std.specs.List.{All}
use Rattle.column_base.specs.Lists.{sublist}
use Rattle.column_relayout.specs.declared.rows.TheConstants.{FEW}
use Rattle.column_relayout.specs.declared.rows.Place.{Place}
use Rattle.column_relayout.specs.declared.rows.Place.TheVariants.{Missing, Here, There}

-- the row at a place, among the bytes of longer rows
abbrev pub row_at : List ℕ → Place → Option (List ℕ)
row_at bytes Missing = None
row_at bytes (Here count own) = Some (take count own)
row_at bytes (There start n) = Some (sublist bytes start n)

unfoldable pub rows_at : List ℕ → List Place → List (Option (List ℕ))
rows_at bytes places = map (row_at bytes) places

-- a place ends within so many bytes, or within its own
abbrev pub IsWithin : ℕ → Place → Type 0
IsWithin all Missing = ⊤
IsWithin all (Here count own) = count ≤ FEW
IsWithin all (There start n) = start + n ≤ all

unfoldable pub AreWithin : ℕ → List Place → Type 0
AreWithin all places = All (IsWithin all) places

-- A row is at a place among the new bytes, which are the old ones and maybe more.
pub record IsPlaced (old : List ℕ) (row : Option (List ℕ)) (place : Place) (new : List ℕ) : Type 0 where
  pub placed : row_at new place ≡ row
  pub within : IsWithin (length new) place
  pub kept : new ≡ old ++ drop (length old) new
