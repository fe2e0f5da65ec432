-- Parts of lists.
use Rattle.std.specs.Prelude.{ℕ, List, take, drop}

-- the n elements from a place on
abbrev pub sublist : {X : Type 0} → List X → ℕ → ℕ → List X
sublist xs from n = take n (drop from xs)
