-- Arrays whose buffers were made anew of the long slots: this library's own.
use Rattle.std.specs.Prelude.{◌≡◌, ℕ, ◌+◌, ◌-◌, ◌*◌, ◌≤◌, nat_le, nat_lt, ◌&&◌, Bool, List, length, map, Option, Some, None, ◌==◌, if◌then◌else◌, MatchBool}
use Rattle.std.specs.List.{concat, flat_map}
use Rattle.column_base.specs.declared.errors.Cause.{Cause}
use Rattle.column_base.specs.Pushes.{growth_fault}
use Rattle.column_base.specs.Slots.{values_of}
use Rattle.column_blocks.specs.Blocks.{AreFilled, written_values}
use Rattle.column_binview.specs.Slots.{ViewLists, view_count, view_slots, bytes_len, buffer_len}
use Rattle.column_binview.specs.Builders.{no_slots, row_growth}

-- the values of the slots of an array that do not stand in their views, those of null slots too
abbrev pub long_slots : ViewLists → List (List ℕ)
long_slots lists = flat_map written_values (values_of (view_slots lists))

-- the same slots and flags, over buffers that are, end to end, the long slots: none is empty, and they are at most as many
pub record IsGathered (old new : ViewLists) : Type 0 where
  pub slots : view_slots new ≡ view_slots old
  pub flags : new.flags ≡ old.flags
  pub bytes : concat new.buffers ≡ concat (long_slots old)
  pub count : length new.buffers ≤ length (long_slots old)
  pub filled : AreFilled new.buffers

-- an array without buffers stays as it is
abbrev pub Gathers : ViewLists → ViewLists → Type 0
Gathers old new = MatchBool (length old.buffers == 0) (new ≡ old) (IsGathered old new)

-- why the long slots are refused: there may be no further buffer
abbrev pub gather_fault : ViewLists → Option Cause
gather_fault lists = if length lists.buffers == 0 then None else growth_fault row_growth no_slots (map Some (values_of (view_slots lists)))

-- the bytes of n views of 16, and of buffers for what passes the 12 that each can hold
abbrev pub least_len : ℕ → ℕ → ℕ
least_len n bytes = 16 * n + (bytes - 12 * n)

-- the bytes of n views and of the buffers that there are
abbrev pub used_len : ℕ → ℕ → ℕ
used_len n buffers = 16 * n + buffers

-- Of n slots with so many bytes over buffers of so many: the buffers have more than 16,384, that many could be spared, and
-- four times as many are used as need be.
abbrev pub is_much_spared : ℕ → ℕ → ℕ → Bool
is_much_spared n bytes buffers =
    nat_lt 16384 buffers && nat_le (least_len n bytes + 16384) (used_len n buffers) && nat_le (4 * least_len n bytes) (used_len n buffers)

abbrev pub is_wasteful : ViewLists → Bool
is_wasteful lists = is_much_spared (view_count lists) (bytes_len lists) (buffer_len lists)
