-- Bytes that are cut into items: this library's own.
use Rattle.std.specs.Prelude.{ℕ, List, [], ◌∷◌, take, drop}

-- an item of each length, one after another from the first byte on
abbrev pub cut_by : List ℕ → List ℕ → List (List ℕ)
cut_by bytes [] = []
cut_by bytes (n ∷ lengths) = take n bytes ∷ cut_by (drop n bytes) lengths
