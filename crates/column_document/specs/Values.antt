-- What single JSON values stand for in a document: this library's own.
use Rattle.std.specs.Prelude.{◌≡◌, ℕ, nat_le, ℤ, pos, negsuc, Bool, ◌&&◌, if◌then◌else◌, int_le, List, length, [], ◌∷◌, find, Option, None, Some, option_map, Result, Ok, Err, ⊤}
use Rattle.std.specs.Result.{result_ok}
use Rattle.std.specs.Str.{bytes_eq}
use Rattle.hex.specs.Hex.{decode_of, decode_sized}
use Rattle.serde_json.specs.Data.{Data, null, Items, no_items, item}
use Rattle.serde_json.specs.Find.{as_str, as_number, as_array, as_i64, as_u64}
use Rattle.column_storage.specs.declared.data_buffers.TheConstants.{MAX_BUFFERS}
use Rattle.column_relayout.specs.declared.kind.Kind.{Kind}
use Rattle.column_relayout.specs.declared.kind.Kind.TheVariants.{Binary32, Binary64, Utf8_32, Utf8_64, BinView, Utf8View, Fixed, Int64}
use Rattle.column_relayout.specs.Kinds.{kind_of, kind_name}
use Rattle.column_document.specs.declared.from_json.Unread.{Unread}
use Rattle.column_document.specs.declared.from_json.Unread.TheVariants.{NoMemory, Bad}

-- What a reader answers for what a JSON value stands for, if for anything; want of memory may come for any.
abbrev pub ReadsAs : {T D : Type 0} → (T → D) → Result T Unread → Option D → Type 0
ReadsAs seen (Ok read) due = due ≡ Some (seen read)
ReadsAs seen (Err NoMemory) due = ⊤
ReadsAs seen (Err Bad) due = due ≡ None

-- The same, for a reader whose answer is what the value stands for.
abbrev pub Reads : {T : Type 0} → Result T Unread → Option T → Type 0
Reads = ReadsAs (λ read. read)

-- what comes of a value that is there
infixl 10 ◌>>=◌
abbrev pub ◌>>=◌ : {A B : Type 0} → Option A → (A → Option B) → Option B
None >>= f = None
Some x >>= f = f x

-- each item, where all of them stand for something
abbrev pub each : {T : Type 0} → (Data → Option T) → Items → Option (List T)
each of no_items = Some []
each of (item first rest) = do
  x ← of first
  xs ← each of rest
  Some (x ∷ xs)

-- an array of such values
abbrev pub list_of : {T : Type 0} → (Data → Option T) → Data → Option (List T)
list_of of value = as_array value >>= each of

-- a whole number of 64 bits in two's complement
abbrev pub i64_of : Data → Option ℤ
i64_of value = as_number value >>= as_i64

-- a number of 32 bits in two's complement
abbrev pub is_i32 : ℤ → Bool
is_i32 number = int_le (negsuc 2147483647) number && int_le number (pos 2147483647)

-- a whole number of 32 bits in two's complement
abbrev pub i32_of : Data → Option ℤ
i32_of value = do
  number ← i64_of value
  if is_i32 number then Some number else None

-- a whole number from 0 to 2^64 - 1
abbrev pub u64_of : Data → Option ℕ
u64_of value = as_number value >>= as_u64

-- the bytes that hexadecimal digits in pairs spell, in either case
abbrev pub bytes_of : List ℕ → Option (List ℕ)
bytes_of text = result_ok (decode_of text)

-- a JSON string of such digits
abbrev pub hex_of : Data → Option (List ℕ)
hex_of value = as_str value >>= bytes_of

-- a row: null where it is missing, or a JSON string of the digits of its bytes
abbrev pub row_of : Data → Option (Option (List ℕ))
row_of null = Some None
row_of value = option_map Some (hex_of value)

-- a view: a JSON string of the 32 digits of its 16 bytes
abbrev pub view_of : Data → Option (List ℕ)
view_of value = do
  text ← as_str value
  result_ok (decode_sized text 16)

-- no more buffers than the library has a limit for
abbrev pub few_buffers : List (List ℕ) → Option (List (List ℕ))
few_buffers buffers = if nat_le (length buffers) MAX_BUFFERS then Some buffers else None

-- an array of so many JSON strings of digits
abbrev pub buffers_of : Data → Option (List (List ℕ))
buffers_of value = list_of hex_of value >>= few_buffers

-- the name of a kind, which tells no width
abbrev pub kind_named : List ℕ → Option Kind
kind_named word = find (λ kind. bytes_eq word (kind_name (kind_of kind))) (Binary32 ∷ Binary64 ∷ Utf8_32 ∷ Utf8_64 ∷ BinView ∷ Utf8View ∷ Fixed 0 ∷ Int64 ∷ [])

-- a JSON string that is such a name
abbrev pub kind_from : Data → Option Kind
kind_from value = as_str value >>= kind_named
