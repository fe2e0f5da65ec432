-- One more line of a text.
use Rattle.std.proofs.Common.{◌≡◌, ℕ, ◌+◌, ◌<◌, ℤ, true, List, [], ◌∷◌, ◌++◌, length, take, map, get_or, Some, sym, ◌∙◌, ap, append-nil}
use Rattle.std.specs.List.{flat_map}
use Rattle.std.specs.List.{slice_get}
use Rattle.std.proofs.lemmas.List.{take_more}
use Rattle.std.proofs.lemmas.Option.{slice_get_within, get_or_from_slice_get}
use Rattle.std.proofs.lemmas.List.Concat.{flat_map-append}
use Rattle.std.proofs.lemmas.List.Folds.{flat_map-map}
use Rattle.column_base.specs.Kinds.{Slot}
use Rattle.column_base.specs.Slots.{slot_at}
use Rattle.column_tool.specs.Text.{slot_line, after_comma, named_line}

line_more : {X : Type 0} (f : X → List ℕ) (xs : List X) (i : ℕ) (d : X) → i < length xs → flat_map f (take (i + 1) xs) ≡ flat_map f (take i xs) ++ f (get_or xs i d)
line_more f xs i d within =
    ap (flat_map f) (take_more xs i d within)
    ∙ flat_map-append f (take i xs) (get_or xs i d ∷ [])
    ∙ ap (λ (line : List ℕ). flat_map f (take i xs) ++ line) (append-nil (f (get_or xs i d)))

pub next_line : (slots : List Slot) (i : ℕ) → i < length slots → flat_map slot_line (take (i + 1) slots) ≡ flat_map slot_line (take i slots) ++ slot_line (slot_at slots i)
next_line slots i within = line_more slot_line slots i (record { valid = true; bytes = [] }) within

-- the numbers of a list of offsets
pub next_number : {X : Type 0} (int : X → ℤ) (xs : List X) (i : ℕ) (x : X) → i < length xs → x ≡ get_or xs i x → flat_map after_comma (map int (take (i + 1) xs)) ≡ flat_map after_comma (map int (take i xs)) ++ after_comma (int x)
next_number {X = X} int xs i x within is =
    flat_map-map after_comma int (take (i + 1) xs)
    ∙ line_more (λ (y : X). after_comma (int y)) xs i x within
    ∙ ap (λ (y : X). flat_map (λ (z : X). after_comma (int z)) (take i xs) ++ after_comma (int y)) (sym is)
    ∙ ap (λ (text : List ℕ). text ++ after_comma (int x)) (sym (flat_map-map after_comma int (take i xs)))

-- a further list under its name
pub next_named : (name : List ℕ) (lists : List (List ℕ)) (i : ℕ) (bytes : List ℕ) → i < length lists → bytes ≡ get_or lists i bytes → flat_map (named_line name) (take (i + 1) lists) ≡ flat_map (named_line name) (take i lists) ++ named_line name bytes
next_named name lists i bytes within is = line_more (named_line name) lists i bytes within ∙ ap (λ (line : List ℕ). flat_map (named_line name) (take i lists) ++ named_line name line) (sym is)

-- the same of a list that is looked up
pub next_found : (name : List ℕ) (lists : List (List ℕ)) (i : ℕ) (bytes : List ℕ) → slice_get lists i ≡ Some bytes → flat_map (named_line name) (take (i + 1) lists) ≡ flat_map (named_line name) (take i lists) ++ named_line name bytes
next_found name lists i bytes found = next_named name lists i bytes (slice_get_within lists i bytes found) (sym (get_or_from_slice_get lists i bytes bytes found))
