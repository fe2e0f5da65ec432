-- Kinds, and their words.
use Rattle.std.specs.Prelude.{ℕ, Bool, true, false, List, codes, Option, Some, None}
use Rattle.column_base.specs.Integers.{greatest_offset}
use Rattle.column_base.specs.Kinds.{ColumnKind}
use Rattle.column_base.specs.Kinds as kinds
use Rattle.column_relayout.specs.declared.kind.Kind.{Kind}
use Rattle.column_relayout.specs.declared.kind.Kind.TheVariants.{Binary32, Binary64, Utf8_32, Utf8_64, BinView, Utf8View, Fixed, Int64}

-- the kind, as plain data
abbrev pub kind_of : Kind → ColumnKind
kind_of Binary32 = kinds.Binary32
kind_of Binary64 = kinds.Binary64
kind_of Utf8_32 = kinds.Utf8_32
kind_of Utf8_64 = kinds.Utf8_64
kind_of BinView = kinds.BinView
kind_of Utf8View = kinds.Utf8View
kind_of (Fixed width) = kinds.Fixed width
kind_of Int64 = kinds.Int64

-- the word for a kind: this library's own
abbrev pub kind_name : ColumnKind → List ℕ
kind_name (kinds.Fixed width) = codes "fixed"
kind_name kinds.Int64 = codes "int64"
kind_name kinds.Binary32 = codes "binary32"
kind_name kinds.Binary64 = codes "binary64"
kind_name kinds.Utf8_32 = codes "utf8_32"
kind_name kinds.Utf8_64 = codes "utf8_64"
kind_name kinds.BinView = codes "binview"
kind_name kinds.Utf8View = codes "utf8view"

-- Arrow columnar format, "Data Types": slots are texts
abbrev pub is_text : ColumnKind → Bool
is_text kinds.Utf8_32 = true
is_text kinds.Utf8_64 = true
is_text kinds.Utf8View = true
is_text kind = false

-- slots are byte strings, in a layout that has texts too
abbrev pub is_binary : ColumnKind → Bool
is_binary kinds.Binary32 = true
is_binary kinds.Binary64 = true
is_binary kinds.BinView = true
is_binary kind = false

-- the kind of texts in the same layout
abbrev pub text_kind : ColumnKind → ColumnKind
text_kind kinds.Binary32 = kinds.Utf8_32
text_kind kinds.Binary64 = kinds.Utf8_64
text_kind kinds.BinView = kinds.Utf8View
text_kind kind = kind

-- the kind of byte strings in the same layout
abbrev pub binary_kind : ColumnKind → ColumnKind
binary_kind kinds.Utf8_32 = kinds.Binary32
binary_kind kinds.Utf8_64 = kinds.Binary64
binary_kind kinds.Utf8View = kinds.BinView
binary_kind kind = kind

-- The kind of lists with offsets, which have 64 bits where the first flag is true and 32 else: of texts where the second
-- is, and of byte strings else.
abbrev pub offset_kind : Bool → Bool → ColumnKind
offset_kind false false = kinds.Binary32
offset_kind false true = kinds.Utf8_32
offset_kind true false = kinds.Binary64
offset_kind true true = kinds.Utf8_64

-- the kind of lists with views: of texts where the flag is true, and of byte strings else
abbrev pub view_kind : Bool → ColumnKind
view_kind false = kinds.BinView
view_kind true = kinds.Utf8View

-- Arrow columnar format, "Variable-size Binary View Layout": slots are told by views
abbrev pub has_views : ColumnKind → Bool
has_views kinds.BinView = true
has_views kinds.Utf8View = true
has_views kind = false

-- how many bytes each slot has, where they are as many in each
abbrev pub slot_width : ColumnKind → Option ℕ
slot_width (kinds.Fixed width) = Some width
slot_width kinds.Int64 = Some 8
slot_width kind = None

-- the greatest offset of a kind, where it has offsets
abbrev pub greatest_of : ColumnKind → Option ℕ
greatest_of kinds.Binary32 = Some (greatest_offset false)
greatest_of kinds.Utf8_32 = Some (greatest_offset false)
greatest_of kinds.Binary64 = Some (greatest_offset true)
greatest_of kinds.Utf8_64 = Some (greatest_offset true)
greatest_of kind = None
