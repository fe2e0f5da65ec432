-- The ends that stand in memory, and what each of their calls does: this library's own.
use Rattle.std.specs.Prelude.{ℕ, ◌-◌, ◌==◌, ◌++◌, min, Bool, ◌&&◌, nat_lt, List, [], length, take, drop, Result, Ok, Err}
use Rattle.std.specs.List.{list_any}
use Rattle.column_port.specs.Causes.{one_more, counted}

-- How many calls were made, how many of them failed, and the numbers, from 1, of the calls that fail.
pub record Calls : Type 0 where
  pub made : ℕ
  pub faults : ℕ
  pub fails : List ℕ

-- no call yet
abbrev pub no_calls : List ℕ → Calls
no_calls fails = record { made = 0; faults = 0; fails = fails }

-- The next call's number is listed.
abbrev pub is_listed : Calls → Bool
is_listed calls = list_any (λ number. number == one_more calls.made) calls.fails

-- The calls after one that gave this answer.
abbrev pub after_call : {T E : Type 0} → Calls → Result T E → Calls
after_call calls result = record { made = one_more calls.made; faults = counted calls.faults result; fails = calls.fails }

-- A source: what is left, the most bytes that a call gives, and its calls.
pub record Told : Type 0 where
  pub rest : List ℕ
  pub most : ℕ
  pub calls : Calls

-- a source that holds these bytes and was not read
abbrev pub unread : List ℕ → ℕ → List ℕ → Told
unread bytes most fails = record { rest = bytes; most = most; calls = no_calls fails }

-- how many bytes a read gives that does not fail: the least of the piece, the most and the rest
abbrev pub given : Told → List ℕ → ℕ
given told piece = min (length piece) (min told.most (length told.rest))

-- what is left after a read
abbrev pub rest_after : {E : Type 0} → List ℕ → Result ℕ E → List ℕ
rest_after rest (Ok count) = drop count rest
rest_after rest (Err e) = rest

abbrev pub after_read : {E : Type 0} → Told → Result ℕ E → Told
after_read told result = record { rest = rest_after told.rest result; most = told.most; calls = after_call told.calls result }

-- A sink: what it took, how many bytes it can still take, the most that a call takes, and its calls.
pub record Held : Type 0 where
  pub bytes : List ℕ
  pub room : ℕ
  pub most : ℕ
  pub calls : Calls

-- a sink that took nothing
abbrev pub unwritten : ℕ → ℕ → List ℕ → Held
unwritten room most fails = record { bytes = []; room = room; most = most; calls = no_calls fails }

-- how many bytes a write takes that does not fail: the least of the piece, the most and the room
abbrev pub accepted : Held → List ℕ → ℕ
accepted held piece = min (length piece) (min held.most held.room)

-- The piece isn't empty, and meets no room.
abbrev pub is_full : Held → List ℕ → Bool
is_full held piece = nat_lt 0 (length piece) && (held.room == 0)

-- the bytes after a write
abbrev pub bytes_after : {E : Type 0} → List ℕ → List ℕ → Result ℕ E → List ℕ
bytes_after bytes piece (Ok count) = bytes ++ take count piece
bytes_after bytes piece (Err e) = bytes

-- the room after a write
abbrev pub room_after : {E : Type 0} → ℕ → Result ℕ E → ℕ
room_after room (Ok count) = room - count
room_after room (Err e) = room

abbrev pub after_write : {E : Type 0} → Held → List ℕ → Result ℕ E → Held
after_write held piece result = record { bytes = bytes_after held.bytes piece result; room = room_after held.room result; most = held.most; calls = after_call held.calls result }
