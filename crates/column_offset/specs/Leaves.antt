-- Levels of offsets, each into the slots of the next, the last into values. Arrow columnar format, "Variable-size List
-- Layout": the slots of a list of lists are found through the offsets of each level.
use Rattle.std.specs.Prelude.{ℕ, ℤ, Bool, true, false, ◌&&◌, nat_lt, List, [], ◌∷◌, length, map}
use Rattle.std.specs.List.{fold}
use Rattle.column_offset.specs.Offsets.{nat_of, offset_at, last_of}

-- where a place of the first level comes to, through the offsets of each level
abbrev pub leaf_place : List (List ℤ) → ℕ → ℕ
leaf_place levels place = fold (λ at level. nat_of (offset_at level at)) place levels

-- a place lies within the first level, and each level's last offset within the next level
abbrev pub fits_levels : ℕ → List (List ℤ) → Bool
fits_levels place [] = true
fits_levels place (level ∷ levels) = nat_lt place (length level) && fits_levels (nat_of (last_of level)) levels

-- there is a level, and each level's last offset is at most the number of slots of the next
abbrev pub are_levels : List (List ℤ) → Bool
are_levels [] = false
are_levels (level ∷ levels) = fits_levels (nat_of (last_of level)) levels

-- each two neighbours
abbrev pub neighbours : List ℕ → List (ℕ × ℕ)
neighbours [] = []
neighbours (start ∷ []) = []
neighbours (start ∷ end ∷ places) = (start, end) ∷ neighbours (end ∷ places)

-- the range of values of each slot of the first level
abbrev pub leaf_ranges : List ℤ → List (List ℤ) → List (ℕ × ℕ)
leaf_ranges level levels = neighbours (map (λ offset. leaf_place levels (nat_of offset)) level)

-- the range of values of all slots
abbrev pub leaf_full_range : List (List ℤ) → ℕ × ℕ
leaf_full_range [] = (0, 0)
leaf_full_range (level ∷ levels) = (leaf_place levels (nat_of (offset_at level 0)), leaf_place levels (nat_of (last_of level)))

-- the ranges of values of the slots of the first of these levels
abbrev pub all_leaf_ranges : List (List ℤ) → List (ℕ × ℕ)
all_leaf_ranges [] = []
all_leaf_ranges (level ∷ levels) = leaf_ranges level levels
