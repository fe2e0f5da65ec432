-- How a run ends. This library's own.
use Rattle.std.specs.Prelude.{ℕ, ⊤}
use Rattle.column_port.specs.Causes.{one_more}
use Rattle.column_relayout.specs.Columns.{RawLists}
use Rattle.column_relayout.specs.Arrays.{lists_of}
use Rattle.column_tool.specs.declared.outcome.Outcome.{Outcome}
use Rattle.column_tool.specs.declared.outcome.Outcome.TheVariants.{Done, Refused, BadDocument, Usage, ReadFault, WriteFault, TooLong, NoMemory}

-- the status that the program ends with
abbrev pub status_of : Outcome → ℕ
status_of (Done column) = 0
status_of (Refused refusal) = 1
status_of (BadDocument fault) = 2
status_of Usage = 3
status_of ReadFault = 4
status_of WriteFault = 5
status_of TooLong = 6
status_of NoMemory = 7

-- the fact, of the lists of the column that was done
abbrev pub IfDone : Outcome → (RawLists → Type 0) → Type 0
IfDone (Done column) P = P (lists_of column)
IfDone outcome P = ⊤

-- The run ended well, or memory was wanting.
abbrev pub IsDoneOrNoMemory : Outcome → Type 0
IsDoneOrNoMemory (Done column) = ⊤
IsDoneOrNoMemory NoMemory = ⊤
IsDoneOrNoMemory outcome = ⊥

-- The run ended well, or an end failed, or memory was wanting.
abbrev pub MayEndSound : Outcome → Type 0
MayEndSound (Done column) = ⊤
MayEndSound ReadFault = ⊤
MayEndSound WriteFault = ⊤
MayEndSound NoMemory = ⊤
MayEndSound outcome = ⊥

-- An outcome before which nothing is written.
abbrev pub IsSilent : Outcome → Type 0
IsSilent Usage = ⊤
IsSilent ReadFault = ⊤
IsSilent TooLong = ⊤
IsSilent NoMemory = ⊤
IsSilent outcome = ⊥

-- how often the source has failed after a run: once more where a read ended it, and else as often as before
abbrev pub failed_reads : ℕ → Outcome → ℕ
failed_reads before ReadFault = one_more before
failed_reads before outcome = before

-- how often the sink has failed after a run: once more where a write ended it, and else as often as before
abbrev pub failed_writes : ℕ → Outcome → ℕ
failed_writes before WriteFault = one_more before
failed_writes before outcome = before
