-- The JSON value that bytes are: this library's own, over the JSON crate's own reading of texts.
use Rattle.std.specs.Prelude.{◌≡◌, ℕ, List, if◌then◌else◌, Option, None, Some, Result, Ok, Err, ⊤}
use Rattle.serde_json.specs.Data.{Data}
use Rattle.serde_json.specs.Read.{read}
use Rattle.column_base.specs.Utf8.{is_well_formed_utf8}
use Rattle.column_document.specs.declared.field.DocFault.TheVariants.{Json}
use Rattle.column_document.specs.declared.field.DocError.{DocError}
use Rattle.column_document.specs.declared.field.DocError.TheVariants.{NoMemory, Fault}

-- the JSON value of these bytes, where they are UTF-8 and the text of one
abbrev pub json_of : List ℕ → Option Data
json_of bytes = if is_well_formed_utf8 bytes then read bytes else None

-- What a parser answers for the value that the bytes are, if any; want of memory may come for any.
abbrev pub Parses : {V : Type 0} → (V → Data) → Result V DocError → Option Data → Type 0
Parses seen (Ok value) json = json ≡ Some (seen value)
Parses seen (Err NoMemory) json = ⊤
Parses seen (Err (Fault Json)) json = json ≡ None
Parses seen (Err (Fault other)) json = ⊥
