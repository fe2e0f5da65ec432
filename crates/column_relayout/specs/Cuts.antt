-- A light plan as one cut.
use Rattle.std.specs.Prelude.{ℕ, ◌+◌, ◌-◌, List, fold, Some}
use Rattle.column_storage.specs.Bits.{flags_of}
use Rattle.column_binary.specs.Slots.{offset_lists, slot_count}
use Rattle.column_relayout.specs.declared.steps.Step.{Step}
use Rattle.column_relayout.specs.declared.steps.Step.TheVariants.{Slice, Left, Right}
use Rattle.column_relayout.specs.Kinds.{is_text}
use Rattle.column_binview.specs.Slots.{view_lists, view_count}
use Rattle.column_fixed.specs.Slots.{fixed_lists, fixed_count}
use Rattle.column_primitive.specs.Numbers.{number_lists, number_count, number_array}
use Rattle.column_relayout.specs.Columns.{RawLists, offset_column, view_column, fixed_column, number_column, column_kind, count_of, part_of, retyped}
use Rattle.column_relayout.specs.Plans.{kind_after}

-- The slots that light steps leave of the first ones: from which on, and how many.
abbrev pub span_after : ℕ × ℕ → Step → ℕ × ℕ
span_after span (Slice from n) = (span.0 + from, n)
span_after span (Left n) = (span.0, n)
span_after span (Right n) = (span.0 + n, span.1 - n)
span_after span step = span

abbrev pub span_of : List Step → ℕ → ℕ × ℕ
span_of plan n = fold span_after (0, n) plan

-- the part of the lists at the span that a light plan leaves, with the kind that it gives
abbrev pub cut_once : RawLists → List Step → RawLists
cut_once column plan =
    let span = span_of plan (count_of column) in
    retyped (is_text (fold kind_after (column_kind column) plan)) (part_of column span.0 span.1)

-- The same lists with the flag of each slot, as it is read. Arrow columnar format, "Validity bitmaps".
abbrev pub as_read : RawLists → RawLists
as_read (offset_column large text lists) = offset_column large text (offset_lists lists.offsets lists.values (Some (flags_of (slot_count lists) lists.flags)))
as_read (view_column text lists) = view_column text (view_lists lists.views lists.buffers (Some (flags_of (view_count lists) lists.flags)))
as_read (fixed_column lists) = fixed_column (fixed_lists lists.width lists.values (Some (flags_of (fixed_count lists) lists.flags)))
as_read (number_column array) = number_column (number_array array.dtype (number_lists array.lists.numbers (Some (flags_of (number_count array.lists) array.lists.flags))))
