-- Laws of sublists.
use Rattle.std.proofs.Common.{◌≡◌, ℕ, ◌+◌, ◌-◌, ◌<◌, ◌≤◌, List, length, get_or, take, drop, map, sym, ◌∙◌, ap, arith}
use Rattle.std.proofs.lemmas.List.{length-take-le, length-drop, take-map, drop-map, drop-drop, drop-take, take-take, get_or-take, get_or-drop}
use Rattle.column_base.specs.Lists.{sublist}

pub length-sublist : {X : Type 0} (xs : List X) (from n : ℕ) → from + n ≤ length xs → length (sublist xs from n) ≡ n
length-sublist xs from n within =
    length-take-le n (drop from xs) (rw length-drop (omega arith))

pub map-sublist : {X Y : Type 0} (f : X → Y) (xs : List X) (from n : ℕ) → map f (sublist xs from n) ≡ sublist (map f xs) from n
map-sublist f xs from n = sym (take-map f n (drop from xs)) ∙ ap (take n) (sym (drop-map f from xs))

-- an element of a part
pub get_or-sublist : {X : Type 0} (xs : List X) (from n i : ℕ) (d : X) → i < n → get_or (sublist xs from n) i d ≡ get_or xs (from + i) d
get_or-sublist xs from n i d within = get_or-take n (drop from xs) i d within ∙ get_or-drop from xs i d

-- a part of a part
pub sublist-sublist : {X : Type 0} (xs : List X) (from n start m : ℕ) → start + m ≤ n → sublist (sublist xs from n) start m ≡ sublist xs (from + start) m
sublist-sublist xs from n start m within =
    let rest = n - start in
    let parts : n ≡ start + rest = omega arith in
    ap (λ k. take m (drop start (take k (drop from xs)))) parts
    ∙ ap (take m) (drop-take start rest (drop from xs))
    ∙ take-take m rest (drop start (drop from xs)) (omega arith)
    ∙ ap (take m) (drop-drop start from xs)

pub ruleset sublists = (sublist-sublist, length-sublist, map-sublist)
