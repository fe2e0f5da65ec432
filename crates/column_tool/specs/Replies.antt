-- What is answered to a document, and the text that is due for it. This library's own.
use Rattle.std.specs.Prelude.{◌≡◌, ◌≢◌, ◌⊎◌, ℕ, List, None, Some, Result, Ok, Err}
use Rattle.std.specs.declared.option.Option.{Option}
use Rattle.column_base.specs.declared.errors.Cause.{Cause}
use Rattle.column_base.specs.declared.errors.Cause.TheVariants.{Overflow}
use Rattle.column_relayout.specs.declared.columns.ColumnError.{ColumnError}
use Rattle.column_relayout.specs.declared.columns.ColumnError.TheVariants as refusals
use Rattle.column_relayout.specs.Columns.{RawLists, parts_fault}
use Rattle.column_relayout.specs.Arrays.{lists_of, lists_of_parts}
use Rattle.column_relayout.specs.Plans.{Meaning, leads, faults, plan_meaning, IsLight, light_lists}
use Rattle.column_relayout.specs.Buffers.{Passes}
use Rattle.column_relayout.specs.Relayouts.{IsAnswered, Relayouts}
use Rattle.column_document.specs.declared.field.DocFault.{DocFault}
use Rattle.column_document.specs.Document.{Document, document_in}
use Rattle.column_tool.specs.declared.outcome.Outcome.{Outcome}
use Rattle.column_tool.specs.declared.outcome.Outcome.TheVariants.{Done, Refused, BadDocument, NoMemory}
use Rattle.column_tool.specs.Outcomes.{IsDoneOrNoMemory}
use Rattle.column_tool.specs.Text.{printed, refusal_line, fault_line}

-- the raw lists of a document's parts
abbrev pub parts_in : Document → RawLists
parts_in document = lists_of_parts document.parts

-- The document of these bytes leads to this column: it is well formed, its kind and slots are the plan's meaning, each
-- step left what it promises, and a light plan keeps the parts' lists, cut.
pub record IsMadeOf (bytes : List ℕ) (column : RawLists) : Type 0 where
  pub document : Document
  pub read : document_in bytes ≡ Ok document
  pub answered : IsAnswered (parts_in document) document.plan column

-- The document of these bytes is refused: its parts, or a step of its plan.
pub record IsRefusedWith (bytes : List ℕ) (refusal : ColumnError) : Type 0 where
  pub document : Document
  pub read : document_in bytes ≡ Ok document
  pub refused : Relayouts (parts_in document) document.plan (Err refusal)
  pub cause : refusal ≢ refusals.NoMemory

-- An outcome that these bytes come to, with the text that is due for it.
abbrev pub IsReply : List ℕ → Outcome → List ℕ → Type 0
IsReply bytes (Done column) text = IsMadeOf bytes (lists_of column) × (text ≡ printed (lists_of column))
IsReply bytes (Refused refusal) text = IsRefusedWith bytes refusal × (text ≡ refusal_line refusal)
IsReply bytes (BadDocument fault) text = (document_in bytes ≡ Err fault) × (text ≡ fault_line fault)
IsReply bytes outcome text = ⊥

-- ---- the text that is due

-- the text of a column that the plan leads to; of a light plan, the text of the parts' lists, cut
pub record IsColumnText (parts : RawLists) (document : Document) (text : List ℕ) : Type 0 where
  pub column : RawLists
  pub answered : IsAnswered parts document.plan column
  pub is : text ≡ printed column
  pub light : IsLight document.plan → text ≡ printed (light_lists parts document.plan)

-- the line for a step that passes the bound on buffers
abbrev pub IsBoundText : Document → List ℕ → Type 0
IsBoundText document text = (at : ℕ) × (text ≡ refusal_line (refusals.Step at Overflow)) × Passes (parts_in document) document.plan at

-- The text for a document whose parts have this fault, if any, and whose plan has this meaning. Where a step passes the bound
-- on buffers it may be that step's line.
abbrev pub IsDueAfter : Document → Option Cause → Meaning → List ℕ → Type 0
IsDueAfter document (Some cause) meaning text = text ≡ refusal_line (refusals.Parts cause)
IsDueAfter document None (faults at cause) text = (text ≡ refusal_line (refusals.Step at cause)) ⊎ IsBoundText document text
IsDueAfter document None (leads kind slots) text = IsColumnText (parts_in document) document text ⊎ IsBoundText document text

-- The text is due for a document: the line of its fault, of the first fault of its parts or of its plan, or the text
-- of a column.
abbrev pub IsDue : Result Document DocFault → List ℕ → Type 0
IsDue (Err fault) text = text ≡ fault_line fault
IsDue (Ok document) text = IsDueAfter document (parts_fault (parts_in document)) (plan_meaning (parts_in document) document.plan) text

-- ---- the outcome that is due

-- a step is refused that passes the bound on buffers
abbrev pub IsBoundRefusal : Document → Outcome → Type 0
IsBoundRefusal document outcome = (at : ℕ) × (outcome ≡ Refused (refusals.Step at Overflow)) × Passes (parts_in document) document.plan at

-- The outcome for a document whose parts have this fault, if any, and whose plan has this meaning; or memory was wanting.
-- Where a step passes the bound on buffers it may be refused.
abbrev pub AnswersAfter : Document → Option Cause → Meaning → Outcome → Type 0
AnswersAfter document (Some cause) meaning outcome = (outcome ≡ Refused (refusals.Parts cause)) ⊎ (outcome ≡ NoMemory)
AnswersAfter document None (faults at cause) outcome = (outcome ≡ Refused (refusals.Step at cause)) ⊎ (outcome ≡ NoMemory) ⊎ IsBoundRefusal document outcome
AnswersAfter document None (leads kind slots) outcome = IsDoneOrNoMemory outcome ⊎ IsBoundRefusal document outcome

-- The outcome is due for a document: its fault, the first fault of its parts or of its plan, or a column; or memory was
-- wanting.
abbrev pub AnswersExactly : Result Document DocFault → Outcome → Type 0
AnswersExactly (Err fault) outcome = (outcome ≡ BadDocument fault) ⊎ (outcome ≡ NoMemory)
AnswersExactly (Ok document) outcome = AnswersAfter document (parts_fault (parts_in document)) (plan_meaning (parts_in document) document.plan) outcome
