-- The printed text of a column, of a refusal, and of the fault of a document: this library's own.
use Rattle.std.specs.Prelude.{ℕ, ℤ, Bool, true, false, List, [], ◌∷◌, ◌++◌, length, codes, decimal}
use Rattle.std.specs.Fmt.{signed_decimal}
use Rattle.std.specs.List.{flat_map}
use Rattle.hex.specs.Hex.{encode_lower}
use Rattle.column_base.specs.Kinds.{Slot, ColumnKind}
use Rattle.column_base.specs.Errors.{name_of}
use Rattle.column_relayout.specs.declared.columns.ColumnError.{ColumnError}
use Rattle.column_relayout.specs.declared.columns.ColumnError.TheVariants.{NoMemory, Parts, Step}
use Rattle.column_document.specs.declared.field.DocFault.{DocFault}
use Rattle.column_document.specs.declared.field.DocFault.TheVariants.{Json, BadField, Unbuilt}
use Rattle.column_document.specs.Fields.{field_name}
use Rattle.column_relayout.specs.Kinds.{kind_name}
use Rattle.column_binary.specs.Slots.{OffsetLists}
use Rattle.column_binview.specs.Slots.{ViewLists}
use Rattle.column_fixed.specs.Slots.{FixedLists}
use Rattle.column_primitive.specs.Numbers.{NumberLists}
use Rattle.column_relayout.specs.Columns.{RawLists, offset_column, view_column, fixed_column, number_column, column_kind, slots_of}

-- ---- a column

-- valid or null
abbrev pub sign_of : Bool → List ℕ
sign_of true = codes "+"
sign_of false = codes "-"

-- a slot: its sign, and its bytes in hexadecimal
abbrev pub slot_line : Slot → List ℕ
slot_line slot = sign_of slot.valid ++ encode_lower slot.bytes ++ codes "\n"

-- the kind, the number of slots, and the slots
abbrev pub printed_head : ColumnKind → List Slot → List ℕ
printed_head kind slots = codes "ok " ++ kind_name kind ++ codes " " ++ decimal (length slots) ++ codes "\n" ++ flat_map slot_line slots

-- a further number
abbrev pub after_comma : ℤ → List ℕ
after_comma n = codes "," ++ signed_decimal n

-- numbers, joined by commas
abbrev pub numbers_text : List ℤ → List ℕ
numbers_text [] = []
numbers_text (n ∷ ns) = signed_decimal n ++ flat_map after_comma ns

-- a list of bytes under its name
abbrev pub named_line : List ℕ → List ℕ → List ℕ
named_line name bytes = name ++ encode_lower bytes ++ codes "\n"

-- the lists of a column with offsets: the offsets, and the value bytes
abbrev pub offset_text : OffsetLists → List ℕ
offset_text lists = codes "offsets=" ++ numbers_text lists.offsets ++ codes "\n" ++ named_line (codes "values=") lists.values

-- the lists of a column with views: each view, and each buffer
abbrev pub view_text : ViewLists → List ℕ
view_text lists = flat_map (named_line (codes "view=")) lists.views ++ flat_map (named_line (codes "buffer=")) lists.buffers

-- the lists of a column of byte strings of one width: the width, and the value bytes
abbrev pub fixed_text : FixedLists → List ℕ
fixed_text lists = codes "width=" ++ decimal lists.width ++ codes "\n" ++ named_line (codes "values=") lists.values

-- the lists of a column of numbers
abbrev pub number_text : NumberLists ℤ → List ℕ
number_text lists = codes "numbers=" ++ numbers_text lists.numbers ++ codes "\n"

-- the lists of a column
abbrev pub lists_text : RawLists → List ℕ
lists_text (offset_column large text lists) = offset_text lists
lists_text (view_column text lists) = view_text lists
lists_text (fixed_column lists) = fixed_text lists
lists_text (number_column array) = number_text array.lists

-- a column whole
unfoldable pub printed : RawLists → List ℕ
printed column = printed_head (column_kind column) (slots_of column) ++ lists_text column

-- ---- a refusal

-- parts or a step that were refused, with the cause; want of memory has no text
unfoldable pub refusal_line : ColumnError → List ℕ
refusal_line NoMemory = []
refusal_line (Parts cause) = codes "refused parts " ++ name_of cause ++ codes "\n"
refusal_line (Step at cause) = codes "refused step " ++ decimal at ++ codes " " ++ name_of cause ++ codes "\n"

-- ---- a document

-- bytes that are no document, with their fault
abbrev pub fault_line : DocFault → List ℕ
fault_line Json = codes "document json\n"
fault_line (BadField field) = codes "document field " ++ field_name field ++ codes "\n"
fault_line Unbuilt = codes "document unbuilt\n"
