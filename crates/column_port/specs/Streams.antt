-- What a whole reading and a whole writing are: this library's own.
use Rattle.std.specs.Prelude.{◌≡◌, ℕ, ◌<◌, ◌≤◌, List, length, take, Result, Err, IfSome, ⊤}
use Rattle.std.specs.declared.option.Option.{Option}
use Rattle.std.specs.Io.KnownBytes.{Consumes, IsAtEnd, Appends}
use Rattle.column_port.specs.declared.transfer.ReadError.{ReadError}
use Rattle.column_port.specs.declared.transfer.ReadError.TheVariants.{NoMemory, Fault, TooLong}
use Rattle.column_port.specs.Causes.{one_more}

-- These bytes are all that the source had, and they are no more than the limit.
pub record IsWhole (before now : Option (List ℕ)) (bytes : List ℕ) (limit : ℕ) : Type 0 where
  pub given : Consumes before now bytes
  pub ended : IsAtEnd now
  pub within : length bytes ≤ limit

-- What the source told is no more than the limit.
abbrev pub IsWithin : Option (List ℕ) → ℕ → Type 0
IsWithin told limit = IfSome told (λ bytes. length bytes ≤ limit)

-- What the source told is more than the limit.
abbrev pub IsPastLimit : Option (List ℕ) → ℕ → Type 0
IsPastLimit told limit = IfSome told (λ bytes. limit < length bytes)

-- This many bytes left the front of what the source told.
abbrev pub Gave : Option (List ℕ) → Option (List ℕ) → ℕ → Type 0
Gave before now count = (bytes : List ℕ) × Consumes before now bytes × (length bytes ≡ count)

-- At most so many bytes left the front of what the source told.
abbrev pub GaveAtMost : Option (List ℕ) → Option (List ℕ) → ℕ → Type 0
GaveAtMost before now most = (count : ℕ) × (count ≤ most) × Gave before now count

-- The sink took a part of the text from its front, and not all of it.
abbrev pub TookPrefix : Option (List ℕ) → Option (List ℕ) → List ℕ → Type 0
TookPrefix before now text = (n : ℕ) × (n < length text) × Appends before now (take n text)

-- the fact, where the reading ended past the limit
abbrev pub OnTooLong : {T : Type 0} → Result T ReadError → Type 0 → Type 0
OnTooLong (Err TooLong) P = P
OnTooLong result P = ⊤

-- The reading ended past the limit, or memory was wanting.
abbrev pub IsTooLongOrNoMemory : {T : Type 0} → Result T ReadError → Type 0
IsTooLongOrNoMemory (Err TooLong) = ⊤
IsTooLongOrNoMemory (Err NoMemory) = ⊤
IsTooLongOrNoMemory result = ⊥

-- The count of a source's faults after a reading: one more where it ended with a fault, and else as it was.
abbrev pub counted_reading : {T : Type 0} → ℕ → Result T ReadError → ℕ
counted_reading faults (Err Fault) = one_more faults
counted_reading faults result = faults
