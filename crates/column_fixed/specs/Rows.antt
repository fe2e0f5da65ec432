-- The lists of a builder of byte strings of one width, and how they take a row.
use Rattle.std.specs.Prelude.{◌≡◌, ℕ, ◌*◌, ◌-◌, ◌==◌, Bool, true, false, not, List, [], ◌∷◌, ◌++◌, length, take, drop, replicate, Option, Some, None, option_map, nat_eq, if◌then◌else◌}
use Rattle.std.specs.Iterator.{YieldsThen}
use Rattle.std.specs.Cmp.Lexicographic.{pointwise}
use Rattle.std.specs.Option.{option_eq}
use Rattle.std.specs.Ordering.{on}
use Rattle.column_base.specs.declared.errors.Cause.{Cause}
use Rattle.column_base.specs.declared.errors.Cause.TheVariants.{WrongLength}
use Rattle.column_base.specs.Answers.{cause_if}
use Rattle.column_base.specs.Kinds.{Slot}
use Rattle.column_base.specs.Pushes.{Growth}
use Rattle.column_base.specs.Slots.{slot_at, row_of, rows_of}
use Rattle.column_storage.specs.Bits.{pushed_flag, joined_flags}
use Rattle.column_fixed.specs.Slots.{FixedLists, fixed_lists, fixed_count, fixed_slots}

-- This library's own: growing lists, and how many more slots they take without further memory.
pub record GrowingFixed : Type 0 where
  pub lists : FixedLists
  pub spare : ℕ

-- lists of a width without slots
abbrev pub no_slots : ℕ → FixedLists
no_slots width = fixed_lists width [] None

-- the slot of a row: a null slot that is written is zeros
abbrev pub slot_of : ℕ → Option (List ℕ) → Slot
slot_of width None = record { valid = false; bytes = replicate width 0 }
slot_of width (Some bytes) = record { valid = true; bytes = bytes }

-- the lists with the slot of one more row
abbrev pub pushed_row : FixedLists → Option (List ℕ) → FixedLists
pushed_row lists None = fixed_lists lists.width (lists.values ++ replicate lists.width 0) (pushed_flag (fixed_count lists) lists.flags false)
pushed_row lists (Some bytes) = fixed_lists lists.width (lists.values ++ bytes) (pushed_flag (fixed_count lists) lists.flags true)

-- a row that lists of a width take: none, or as many bytes as the width says
abbrev pub is_of_width : ℕ → Option (List ℕ) → Bool
is_of_width width None = true
is_of_width width (Some bytes) = length bytes == width

-- why a row is refused: its length is not the width
abbrev pub row_fault : FixedLists → Option (List ℕ) → Option Cause
row_fault lists row = cause_if (not (is_of_width lists.width row)) WrongLength

-- how lists take a row
abbrev pub row_growth : Growth FixedLists (Option (List ℕ))
row_growth = record { fault = row_fault; pushed = pushed_row }

-- no item that an iterator gives is refused
abbrev pub NoneIsRefused : {S T X : Type 0} → (X → Option Cause) → (T → X) → (S → Option T → S → Type 0) → S → Type 0
NoneIsRefused {S} {T} fault shown steps items = (taken : List T) (x : T) (t : S) → YieldsThen steps items taken (Some x) t → fault (shown x) ≡ None

-- the first n slots
unfoldable pub first_slots : FixedLists → ℕ → FixedLists
first_slots lists n = fixed_lists lists.width (take (n * lists.width) lists.values) (option_map (take n) lists.flags)

-- the row of the last slot, where there is one
abbrev pub last_row : FixedLists → Option (List ℕ)
last_row lists = if fixed_count lists == 0 then None else row_of (slot_at (fixed_slots lists) (fixed_count lists - 1))

-- the slots of one after those of the other, of the same width
abbrev pub joined_lists : FixedLists → FixedLists → FixedLists
joined_lists lists others = fixed_lists lists.width (lists.values ++ others.values) (joined_flags (fixed_count lists) lists.flags (fixed_count others) others.flags)

-- two slots are both null or valid with the same bytes
abbrev pub is_same_row : Slot → Slot → Bool
is_same_row slot other = option_eq (pointwise nat_eq) (row_of slot) (row_of other)

-- rows are equal where they are as many, and at each place both null or of the same bytes
abbrev pub are_same_rows : GrowingFixed → GrowingFixed → Bool
are_same_rows = on (λ b. rows_of (fixed_slots b.lists)) (pointwise (option_eq (pointwise nat_eq)))

-- the same builder, over whose bytes others are written from the first on
abbrev pub with_values : GrowingFixed → List ℕ → GrowingFixed
with_values builder values = record builder { lists = fixed_lists builder.lists.width (take (length builder.lists.values) (values ++ drop (length values) builder.lists.values)) builder.lists.flags }
