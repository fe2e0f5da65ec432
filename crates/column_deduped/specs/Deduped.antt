-- Arrays of views whose buffers are those that long views name, each once: this library's own.
use Rattle.std.specs.Prelude.{ℕ, ◌&&◌, Bool, not, List, [], ◌∷◌, ◌++◌, map, if◌then◌else◌, ◌==◌}
use Rattle.std.specs.List.{fold, list_any, position_or_len}
use Rattle.column_view.specs.Views.{is_long, view_index, buffer_at, with_index}
use Rattle.column_binview.specs.Slots.{ViewLists, view_lists}

-- whether a number is among others
abbrev pub is_among : List ℕ → ℕ → Bool
is_among numbers n = list_any (λ number. n == number) numbers

-- the place at which it stands first
abbrev pub place_among : List ℕ → ℕ → ℕ
place_among numbers n = position_or_len (λ number. n == number) numbers

-- the index that a long view holds comes after those that were there, where it is not among them
abbrev pub named_with : List ℕ → List ℕ → List ℕ
named_with names view =
    if is_long view && not (is_among names (view_index view)) then names ++ view_index view ∷ [] else names

-- the indexes that long views hold, each once, in the order of first naming; views of null slots count
abbrev pub named : List (List ℕ) → List ℕ
named views = fold named_with [] views

-- a long view of the buffer that stands at the place of its index among the names; another view as it is
abbrev pub renamed : List ℕ → List ℕ → List ℕ
renamed names view = if is_long view then with_index view (place_among names (view_index view)) else view

-- The buffers that long views name, each once, in the order of first naming, and the views over them. Flags stay.
unfoldable pub deduped : ViewLists → ViewLists
deduped lists =
    let names = named lists.views in
    view_lists (map (renamed names) lists.views) (map (buffer_at lists.buffers) names) lists.flags
