-- What a read leaves of the rest, and what a write adds.
use Rattle.std.proofs.Common.{◌≡◌, ℕ, ◌+◌, ◌-◌, List, ◌++◌, length, take, drop, refl, sym, ◌∙◌, ap, append_assoc, Option, None, Some, arith}
use Rattle.std.proofs.Math.Seq.{take-add, take_at, take_all, drop-drop}
use Rattle.std.proofs.lemmas.List.{take-append-drop, length-drop}
use Rattle.std.specs.Io.KnownBytes.{Appends}

-- the front of the rest, as it stands at the front of the piece, and what is left
pub front-and-rest : (n : ℕ) (rest copied back : List ℕ) → length copied ≡ n → copied ≡ take n rest → rest ≡ take n (copied ++ back) ++ drop n rest
front-and-rest n rest copied back len is =
    sym (take-append-drop n rest) ∙ ap (λ (xs : List ℕ). xs ++ drop n rest) (sym is ∙ sym (take_at copied back n len))

-- a part of a text that was appended, and more of it after that
pub appends-more : (before mid now : Option (List ℕ)) (n m : ℕ) (text : List ℕ) → Appends before mid (take n text) → Appends mid now (take m (take (length text - n) (drop n text))) → Appends before now (take (n + m) text)
appends-more None mid now n m text first next = tt
appends-more (Some xs) None now n m text first next = absurd first
appends-more (Some xs) (Some ys) None n m text first next = absurd next
appends-more (Some xs) (Some ys) (Some zs) n m text first next =
    let whole : take (length text - n) (drop n text) ≡ drop n text = take_all (length text - n) (drop n text) (omega (arith, length-drop n text)) in
    next
    ∙ ap (λ (l : List ℕ). l ++ take m (take (length text - n) (drop n text))) first
    ∙ append_assoc xs (take n text) (take m (take (length text - n) (drop n text)))
    ∙ ap (λ (l : List ℕ). xs ++ (take n text ++ take m l)) whole
    ∙ ap (λ (l : List ℕ). xs ++ l) (sym (take-add n m text))

pub ruleset pieces = (front-and-rest, drop-drop, appends-more)
