-- What the outcome of a run says. This library's own.
use Rattle.std.specs.Prelude.{◌≡◌, ◌⊎◌, ℕ, ◌+◌, ◌<◌, ◌≤◌, List, [], ◌∷◌, codes, map, length, IfSome, None, Ok, Err, String, string_bytes, ⊤}
use Rattle.std.specs.declared.option.Option.{Option}
use Rattle.std.specs.declared.alloc.Global.{Global}
use Rattle.std.specs.Io.KnownBytes.{Appends}
use Rattle.column_base.specs.Kinds.{Slot, ColumnKind}
use Rattle.column_port.specs.Streams.{IsWhole, IsPastLimit, Gave, TookPrefix}
use Rattle.column_relayout.specs.declared.columns.ColumnError.{ColumnError}
use Rattle.column_relayout.specs.Columns.{RawLists, parts_fault}
use Rattle.column_relayout.specs.Arrays.{lists_of}
use Rattle.column_relayout.specs.Plans.{leads, plan_meaning, IsLight, light_lists}
use Rattle.column_relayout.specs.Buffers.{IsSmall}
use Rattle.column_document.specs.declared.field.DocFault.{DocFault}
use Rattle.column_document.specs.Document.{Document, document_in}
use Rattle.column_tool.specs.declared.outcome.Outcome.{Outcome}
use Rattle.column_tool.specs.declared.outcome.Outcome.TheVariants as outcomes
use Rattle.column_tool.specs.Text.{printed, refusal_line, fault_line}
use Rattle.column_tool.specs.Outcomes.{MayEndSound}
use Rattle.column_tool.specs.Ends.{Ends}
use Rattle.column_tool.specs.Replies.{IsMadeOf, IsRefusedWith, IsDue, AnswersExactly, parts_in}

-- the longest document, in bytes
abbrev pub limit : ℕ
limit = 16777216

-- the words ask for a relayout, and for nothing else
abbrev pub IsAsked : List (String Global) → Type 0
IsAsked words = map string_bytes words ≡ codes "relayout" ∷ []

-- ---- by outcome: what was read, and what was written for it

-- The whole rest at entry was the document, the column is what its plan leads to, and the sink took exactly its text.
pub record Done (e : Ends) (column : RawLists) : Type 0 where
  pub bytes : List ℕ
  pub whole : IsWhole e.told e.left bytes limit
  pub made : IsMadeOf bytes column
  pub took : Appends e.held e.holds (printed column)

-- The whole rest at entry was the document, its parts or a step of its plan are refused so, and the sink took exactly
-- the line of the refusal.
pub record Refused (e : Ends) (refusal : ColumnError) : Type 0 where
  pub bytes : List ℕ
  pub whole : IsWhole e.told e.left bytes limit
  pub refused : IsRefusedWith bytes refusal
  pub took : Appends e.held e.holds (refusal_line refusal)

-- The whole rest at entry is a document of this fault, and the sink took exactly the line of the fault.
pub record BadDocument (e : Ends) (fault : DocFault) : Type 0 where
  pub bytes : List ℕ
  pub whole : IsWhole e.told e.left bytes limit
  pub read : document_in bytes ≡ Err fault
  pub took : Appends e.held e.holds (fault_line fault)

-- The whole rest at entry was the document, and the sink took a part, from its front and not all of it, of a text that
-- is due for it.
pub record WriteFault (e : Ends) : Type 0 where
  pub bytes : List ℕ
  pub whole : IsWhole e.told e.left bytes limit
  pub text : List ℕ
  pub due : IsDue (document_in bytes) text
  pub took : TookPrefix e.held e.holds text

-- The rest at entry had more bytes than the limit, and as many as the limit and one left it.
pub record TooLong (e : Ends) : Type 0 where
  pub past : IsPastLimit e.told limit
  pub gave : Gave e.told e.left (limit + 1)

-- What each outcome says. The others say nothing of these bytes.
abbrev pub Says : Ends → Outcome → Type 0
Says e (outcomes.Done column) = Done e (lists_of column)
Says e (outcomes.Refused refusal) = Refused e refusal
Says e (outcomes.BadDocument fault) = BadDocument e fault
Says e outcomes.WriteFault = WriteFault e
Says e outcomes.TooLong = TooLong e
Says e outcome = ⊤

-- ---- light plans

-- Where the source told its rest, that is a document, and where its plan is light, the column has the lists of its
-- parts, cut.
abbrev pub KeepsLists : Option (List ℕ) → RawLists → Type 0
KeepsLists told column = IfSome told (λ bytes. (document : Document) → document_in bytes ≡ Ok document → IsLight document.plan → column ≡ light_lists (parts_in document) document.plan)

-- ---- by what the source told

-- Where the source told a rest within the limit, the outcome is the one that is due for it, or memory was wanting.
abbrev pub IsExact : Option (List ℕ) → Outcome → Type 0
IsExact told outcome = IfSome told (λ bytes. length bytes ≤ limit → AnswersExactly (document_in bytes) outcome)

-- Where the source told more than the limit, the document was too long, or memory was wanting.
abbrev pub IsExactlyTooLong : Option (List ℕ) → Outcome → Type 0
IsExactlyTooLong told outcome = IfSome told (λ bytes. limit < length bytes → (outcome ≡ outcomes.TooLong) ⊎ (outcome ≡ outcomes.NoMemory))

-- A document that leads to a column: bytes within the limit that have parts and a plan, in which no fault is found, and
-- whose steps write no more buffers than there may be.
pub record IsSoundDocument (bytes : List ℕ) : Type 0 where
  pub within : length bytes ≤ limit
  pub document : Document
  pub read : document_in bytes ≡ Ok document
  pub parts : parts_fault (parts_in document) ≡ None
  pub kind : ColumnKind
  pub slots : List Slot
  pub plan : plan_meaning (parts_in document) document.plan ≡ leads kind slots
  pub small : IsSmall (parts_in document) document.plan

-- Where the source told its rest, that is a sound document, the run ended well, or an end failed, or memory was
-- wanting.
abbrev pub IsComplete : Option (List ℕ) → Outcome → Type 0
IsComplete told outcome = IfSome told (λ bytes. IsSoundDocument bytes → MayEndSound outcome)
