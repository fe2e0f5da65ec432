-- A JSON value has the faults of fields alone.
use Rattle.std.proofs.Common.{◌≡◌, ℕ, Bool, true, false, List, Option, Some, None, Result, Ok, Err, sym, subst}
use Rattle.std.specs.Option.{ok_or, option_and_then}
use Rattle.serde_json.specs.Data.{Data}
use Rattle.serde_json.specs.Find.{get}
use Rattle.column_relayout.specs.declared.columns.RawColumn.{RawColumn}
use Rattle.column_relayout.specs.declared.columns.RawColumn.TheVariants.{Offset32, Offset64}
use Rattle.column_relayout.specs.declared.kind.Kind.{Kind}
use Rattle.column_relayout.specs.declared.kind.Kind.TheVariants.{Binary32, Binary64, Utf8_32, Utf8_64, BinView, Utf8View, Fixed, Int64}
use Rattle.column_document.specs.declared.field.Field.{Field}
use Rattle.column_document.specs.declared.field.Field.TheVariants as field
use Rattle.column_document.specs.declared.field.DocFault.{DocFault}
use Rattle.column_document.specs.declared.field.DocFault.TheVariants.{Json, BadField, Unbuilt}
use Rattle.column_document.specs.Fields.{field_name}
use Rattle.column_document.specs.Values.{list_of, i32_of, i64_of, u64_of, hex_of, view_of, buffers_of, kind_from}
use Rattle.column_document.specs.Json.{json_of}
use Rattle.column_document.specs.Document.{◌>>=◌, needed, optional_flags, validity_of, optional_steps, offset_parts, view_parts, fixed_parts, number_parts, parts_of, Document, document_of, document_in}

-- a fault of something else than a field
IsOther : DocFault → Type 0
IsOther (BadField of) = ⊥
IsOther fault = Unit {0}

HasOther : {A : Type 0} → Result A DocFault → Type 0
HasOther (Ok x) = ⊥
HasOther (Err fault) = IsOther fault

found_or_bad : {T : Type 0} (found : Option T) (of : Field) → HasOther (ok_or found (BadField of)) → ⊥
unfolding HasOther IsOther
found_or_bad None of other = other
found_or_bad (Some x) of other = other

then_next : {A B : Type 0} (first : Result A DocFault) (next : A → Result B DocFault) → (HasOther first → ⊥) → ((x : A) → HasOther (next x) → ⊥) → HasOther (first >>= next) → ⊥
unfolding HasOther
then_next (Ok x) next none rest other = rest x other
then_next (Err fault) next none rest other = none other

validity_or_bad : (value : Data) → HasOther (validity_of value) → ⊥
validity_or_bad value = found_or_bad (optional_flags (get (field_name field.Validity) value)) field.Validity

needed_or_bad : {T : Type 0} (of : Field) (read : Data → Option T) (value : Data) → HasOther (needed of read value) → ⊥
needed_or_bad of read value = found_or_bad (option_and_then read (get (field_name of) value)) of

offset_parts_or_bad : {O : Type 0} (number : Data → Option O) (of : List O → List ℕ → Option (List Bool) → RawColumn) (value : Data) → HasOther (offset_parts number of value) → ⊥
unfolding HasOther
offset_parts_or_bad number of value =
    then_next _ _ (needed_or_bad field.Offsets (list_of number) value)
    (λ offsets. then_next _ _ (needed_or_bad field.Values hex_of value)
    (λ values. then_next _ _ (validity_or_bad value)
    (λ validity other. other)))

view_parts_or_bad : (text : Bool) (value : Data) → HasOther (view_parts text value) → ⊥
unfolding HasOther
view_parts_or_bad text value =
    then_next _ _ (needed_or_bad field.Views (list_of view_of) value)
    (λ views. then_next _ _ (needed_or_bad field.Buffers buffers_of value)
    (λ buffers. then_next _ _ (validity_or_bad value)
    (λ validity other. other)))

fixed_parts_or_bad : (value : Data) → HasOther (fixed_parts value) → ⊥
unfolding HasOther
fixed_parts_or_bad value =
    then_next _ _ (needed_or_bad field.Values hex_of value)
    (λ values. then_next _ _ (needed_or_bad field.Width u64_of value)
    (λ width. then_next _ _ (validity_or_bad value)
    (λ validity other. other)))

number_parts_or_bad : (value : Data) → HasOther (number_parts value) → ⊥
unfolding HasOther
number_parts_or_bad value =
    then_next _ _ (needed_or_bad field.Numbers (list_of i64_of) value)
    (λ numbers. then_next _ _ (validity_or_bad value)
    (λ validity other. other))

parts_or_bad : (kind : Kind) (value : Data) → HasOther (parts_of kind value) → ⊥
parts_or_bad Binary32 value = offset_parts_or_bad i32_of (Offset32 false) value
parts_or_bad Binary64 value = offset_parts_or_bad i64_of (Offset64 false) value
parts_or_bad Utf8_32 value = offset_parts_or_bad i32_of (Offset32 true) value
parts_or_bad Utf8_64 value = offset_parts_or_bad i64_of (Offset64 true) value
parts_or_bad BinView value = view_parts_or_bad false value
parts_or_bad Utf8View value = view_parts_or_bad true value
parts_or_bad (Fixed unread) value = fixed_parts_or_bad value
parts_or_bad Int64 value = number_parts_or_bad value

document_or_bad : (value : Data) → HasOther (document_of value) → ⊥
unfolding document_of HasOther
document_or_bad value =
    then_next _ _ (needed_or_bad field.Kind kind_from value)
    (λ kind. then_next _ _ (parts_or_bad kind value)
    (λ parts. then_next _ _ (found_or_bad (optional_steps (get (field_name field.Plan) value)) field.Plan)
    (λ plan other. other)))

other_or_bad : (value : Data) (fault : DocFault) → IsOther fault → document_of value ≡ Err fault → ⊥
unfolding HasOther
other_or_bad value fault other same = document_or_bad value (subst (λ (said : Result Document DocFault). HasOther said) (sym same) other)

pub is_json : (value : Data) → document_of value ≡ Err Json → ⊥
unfolding IsOther
is_json value same = other_or_bad value Json tt same

pub is_built : (value : Data) → document_of value ≡ Err Unbuilt → ⊥
unfolding IsOther
is_built value same = other_or_bad value Unbuilt tt same

pub ruleset other_faults = (is_json, is_built)

json_is_built : (json : Option Data) → (ok_or json Json >>= document_of) ≡ Err Unbuilt → ⊥
json_is_built None same = absurd (cc)
json_is_built (Some value) same = is_built value same

pub bytes_are_built : (bytes : List ℕ) → document_in bytes ≡ Err Unbuilt → ⊥
unfolding document_in
bytes_are_built bytes same = json_is_built (json_of bytes) same
