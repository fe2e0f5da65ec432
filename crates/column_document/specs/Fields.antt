-- The names of a document's fields: this library's own.
use Rattle.std.specs.Prelude.{ℕ, List, codes}
use Rattle.column_document.specs.declared.field.Field.{Field}
use Rattle.column_document.specs.declared.field.Field.TheVariants.{Kind, Offsets, Values, Width, Views, Buffers, Numbers, Validity, Plan}

-- the name of a field in a document
abbrev pub field_name : Field → List ℕ
field_name Kind = codes "kind"
field_name Offsets = codes "offsets"
field_name Values = codes "values"
field_name Width = codes "width"
field_name Views = codes "views"
field_name Buffers = codes "buffers"
field_name Numbers = codes "numbers"
field_name Validity = codes "validity"
field_name Plan = codes "plan"
