-- What bytes, and a JSON value, say as a document: raw parts and a plan, or its fault. This library's own.
use Rattle.std.specs.Prelude.{◌≡◌, ℕ, Bool, true, false, List, [], Option, None, Some, option_map, option_and_then, Result, Ok, Err, ⊤}
use Rattle.std.specs.Option.{ok_or}
use Rattle.serde_json.specs.Data.{Data, null}
use Rattle.serde_json.specs.Find.{get, as_bool}
use Rattle.column_relayout.specs.declared.columns.RawColumn.{RawColumn}
use Rattle.column_relayout.specs.declared.columns.RawColumn.TheVariants as raw
use Rattle.column_relayout.specs.declared.kind.Kind.{Kind}
use Rattle.column_relayout.specs.declared.kind.Kind.TheVariants.{Binary32, Binary64, Utf8_32, Utf8_64, BinView, Utf8View, Fixed, Int64}
use Rattle.column_relayout.specs.declared.steps.Step.{Step}
use Rattle.column_document.specs.declared.field.Field.{Field}
use Rattle.column_document.specs.declared.field.Field.TheVariants as field
use Rattle.column_document.specs.declared.field.DocFault.{DocFault}
use Rattle.column_document.specs.declared.field.DocFault.TheVariants.{Json, BadField}
use Rattle.column_document.specs.declared.field.DocError.{DocError}
use Rattle.column_document.specs.declared.field.DocError.TheVariants as error
use Rattle.column_document.specs.declared.from_json.Unread.{Unread}
use Rattle.column_document.specs.declared.from_json.Unread.TheVariants as unread
use Rattle.column_document.specs.Fields.{field_name}
use Rattle.column_document.specs.Json.{json_of}
use Rattle.column_document.specs.Values.{list_of, i32_of, i64_of, u64_of, hex_of, view_of, buffers_of, kind_from}
use Rattle.column_document.specs.Steps.{step_of}

-- ---- answers

-- What a reader of fields answers for what they say, or for their fault; want of memory may come for any.
abbrev pub ReadsFieldsAs : {T D : Type 0} → (T → D) → Result T DocError → Result D DocFault → Type 0
ReadsFieldsAs seen (Ok read) said = said ≡ Ok (seen read)
ReadsFieldsAs seen (Err error.NoMemory) said = ⊤
ReadsFieldsAs seen (Err (error.Fault fault)) said = said ≡ Err fault

-- The same, for a reader whose answer is what the fields say.
abbrev pub ReadsFields : {T : Type 0} → Result T DocError → Result T DocFault → Type 0
ReadsFields = ReadsFieldsAs (λ read. read)

-- the error of a field whose value was not read
abbrev pub error_at : Field → Unread → DocError
error_at field unread.NoMemory = error.NoMemory
error_at field unread.Bad = error.Fault (BadField field)

-- ---- fields

-- the next field, where those before it are good
infixl 10 ◌>>=◌
abbrev pub ◌>>=◌ : {A B : Type 0} → Result A DocFault → (A → Result B DocFault) → Result B DocFault
Ok x >>= f = f x
Err fault >>= f = Err fault

-- a field that has to be there
abbrev pub needed : {T : Type 0} → Field → (Data → Option T) → Data → Result T DocFault
needed field of document = ok_or (option_and_then of (get (field_name field) document)) (BadField field)

-- `validity`: missing, null, or a flag for each slot
abbrev pub optional_flags : Option Data → Option (Option (List Bool))
optional_flags None = Some None
optional_flags (Some null) = Some None
optional_flags (Some value) = option_map Some (list_of as_bool value)

-- the flags, or that the field is bad
abbrev pub validity_of : Data → Result (Option (List Bool)) DocFault
validity_of document = ok_or (optional_flags (get (field_name field.Validity) document)) (BadField field.Validity)

-- `plan`: missing, or an array of steps
abbrev pub optional_steps : Option Data → Option (List Step)
optional_steps None = Some []
optional_steps (Some value) = list_of step_of value

-- the steps, or that the field is bad
abbrev pub plan_of : Data → Result (List Step) DocFault
plan_of document = ok_or (optional_steps (get (field_name field.Plan) document)) (BadField field.Plan)

-- ---- the document

-- parts with offsets: `offsets`, each such a number, `values` and `validity`
abbrev pub offset_parts : {O : Type 0} → (Data → Option O) → (List O → List ℕ → Option (List Bool) → RawColumn) → Data → Result RawColumn DocFault
offset_parts number made document = do
  offsets ← needed field.Offsets (list_of number) document
  values ← needed field.Values hex_of document
  validity ← validity_of document
  Ok (made offsets values validity)

-- parts with views, of texts where the flag is true: `views`, `buffers` and `validity`
abbrev pub view_parts : Bool → Data → Result RawColumn DocFault
view_parts text document = do
  views ← needed field.Views (list_of view_of) document
  buffers ← needed field.Buffers buffers_of document
  validity ← validity_of document
  Ok (raw.View text views buffers validity)

-- parts of one width: `values`, `width` and `validity`
abbrev pub fixed_parts : Data → Result RawColumn DocFault
fixed_parts document = do
  values ← needed field.Values hex_of document
  width ← needed field.Width u64_of document
  validity ← validity_of document
  Ok (raw.Fixed width values validity)

-- parts of numbers: `numbers` and `validity`
abbrev pub number_parts : Data → Result RawColumn DocFault
number_parts document = do
  numbers ← needed field.Numbers (list_of i64_of) document
  validity ← validity_of document
  Ok (raw.Int64 numbers validity)

-- the fields that a kind has, as its parts
abbrev pub parts_of : Kind → Data → Result RawColumn DocFault
parts_of Binary32 document = offset_parts i32_of (raw.Offset32 false) document
parts_of Binary64 document = offset_parts i64_of (raw.Offset64 false) document
parts_of Utf8_32 document = offset_parts i32_of (raw.Offset32 true) document
parts_of Utf8_64 document = offset_parts i64_of (raw.Offset64 true) document
parts_of BinView document = view_parts false document
parts_of Utf8View document = view_parts true document
parts_of (Fixed unread) document = fixed_parts document
parts_of Int64 document = number_parts document

-- raw parts of a column, and the steps to take
pub record Document : Type 0 where
  pub parts : RawColumn
  pub plan : List Step

-- a document of these parts and these steps
abbrev pub document : RawColumn → List Step → Document
document parts plan = record { parts = parts; plan = plan }

-- What a JSON value says: the fields in their order, to the first that is missing or bad.
unfoldable pub document_of : Data → Result Document DocFault
document_of value = do
  kind ← needed field.Kind kind_from value
  parts ← parts_of kind value
  plan ← plan_of value
  Ok (document parts plan)

-- What bytes say. Those that are no JSON say nothing else.
unfoldable pub document_in : List ℕ → Result Document DocFault
document_in bytes = ok_or (json_of bytes) Json >>= document_of
