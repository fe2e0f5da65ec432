-- What is wrong with a view. Arrow columnar format, "Variable-size Binary View Layout".
use Rattle.std.specs.Prelude.{◌≡◌, ℕ, ◌+◌, ◌&&◌, nat_lt, nat_le, Bool, true, not, List, [], ◌∷◌, length, take, drop, Option, None, if◌then◌else◌, ◌==◌}
use Rattle.std.specs.List.{list_any}
use Rattle.std.specs.Str.{bytes_eq}
use Rattle.column_base.specs.declared.errors.Cause.{Cause}
use Rattle.column_base.specs.declared.errors.Cause.TheVariants.{InvalidUtf8, NonZeroPadding, PrefixMismatch, ViewIndex, BufferSlice}
use Rattle.column_base.specs.Answers.{cause_if, ◌or_else◌}
use Rattle.column_base.specs.Lists.{sublist}
use Rattle.column_base.specs.Utf8.{is_well_formed_utf8, CanHold}
use Rattle.column_view.specs.Views.{view_length, view_index, view_start, is_long, buffer_at, long_content, view_content}

-- a byte after the content is not 0
abbrev pub inline_fault : List ℕ → Option Cause
inline_fault view = cause_if (list_any (λ byte. not (byte == 0)) (drop (4 + view_length view) view)) NonZeroPadding

-- the buffer that is named is not there; the range ends past it; the prefix is not the first four bytes of the range
abbrev pub long_fault : List ℕ → List (List ℕ) → Option Cause
long_fault view buffers =
    cause_if (nat_le (length buffers) (view_index view)) ViewIndex
    or_else cause_if (nat_lt (length (buffer_at buffers (view_index view))) (view_start view + view_length view)) BufferSlice
    or_else cause_if (not (bytes_eq (sublist view 4 4) (take 4 (long_content view buffers)))) PrefixMismatch

-- what is wrong with the layout of a view
unfoldable pub layout_fault : List ℕ → List (List ℕ) → Option Cause
layout_fault view buffers = if is_long view then long_fault view buffers else inline_fault view

-- the content of a view has to be UTF-8 where it is text
unfoldable pub content_fault : Bool → List ℕ → List (List ℕ) → Option Cause
content_fault text view buffers = cause_if (text && not (is_well_formed_utf8 (view_content view buffers))) InvalidUtf8

-- the first fault of a view
abbrev pub view_fault : Bool → List ℕ → List (List ℕ) → Option Cause
view_fault text view buffers = layout_fault view buffers or_else content_fault text view buffers

-- the first fault of the first view that has one
abbrev pub views_fault : Bool → List (List ℕ) → List (List ℕ) → Option Cause
views_fault text [] buffers = None
views_fault text (view ∷ views) buffers = view_fault text view buffers or_else views_fault text views buffers

-- the fault of the first view whose content is not UTF-8
abbrev pub contents_fault : List (List ℕ) → List (List ℕ) → Option Cause
contents_fault [] buffers = None
contents_fault (view ∷ views) buffers = content_fault true view buffers or_else contents_fault views buffers

-- What a view says: a value, in which it has no fault where a slot may hold it.
pub record Says (view : List ℕ) (buffers : List (List ℕ)) (bytes : List ℕ) : Type 0 where
  pub count : view_length view ≡ length bytes
  pub content : view_content view buffers ≡ bytes
  pub fine : (text : Bool) → CanHold text bytes → view_fault text view buffers ≡ None
