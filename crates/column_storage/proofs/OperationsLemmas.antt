-- Laws of operations on builders.
use Rattle.std.proofs.Common.{◌≡◌, ◌+◌, ◌-◌, List, [], ◌∷◌, ◌++◌, length, take, sym, ◌∙◌, arith, length-append}
use Rattle.std.proofs.lemmas.List.{take-append-le, take_all}

-- what is left where the last element is taken
pub last_taken : {X : Type 0} (old new : List X) (x : X) → old ≡ new ++ x ∷ [] → new ≡ take (length old - 1) old
last_taken old new x last =
    let count : length (new ++ x ∷ []) ≡ length new + 1 = length-append new (x ∷ []) in
    let place : length (new ++ x ∷ []) - 1 ≡ length new = omega arith in
    rw (last, place) (sym (take-append-le (length new) new (x ∷ []) (omega arith) ∙ take_all (length new) new (omega arith)))

pub ruleset operations = (last_taken)
