-- Laws of bytes that are cut into items of one width.
use Rattle.std.proofs.Common.{◌≡◌, ℕ, zero, suc, ◌+◌, ◌*◌, ◌/◌, ◌<◌, ◌≤◌, List, [], ◌∷◌, ◌++◌, length, map, take, drop, replicate, refl, sym, ◌∙◌, ap, arith}
use Rattle.std.proofs.Math.Nat.{le-div_iff_mul-le, suc-mul}
use Rattle.std.proofs.lemmas.List.{drop-drop, append_assoc, map-append, take_at}
use Rattle.column_base.specs.Lists.{sublist}
use Rattle.column_view.specs.Views.{inline_view}
use Rattle.column_view.specs.Cuts.{cut_by}

places : (n width : ℕ) → width + n * width ≡ suc n * width
places n width = omega (arith, suc-mul n width)

-- one more item
cut_by-more : (bytes : List ℕ) (n width : ℕ) → cut_by bytes (replicate (n + 1) width) ≡ cut_by bytes (replicate n width) ++ sublist bytes (n * width) width ∷ []
cut_by-more bytes zero width = let none : 0 * width ≡ 0 = omega arith in rw none refl
cut_by-more bytes (suc n) width =
    let more : suc n + 1 ≡ suc (n + 1) = omega arith in
    ap (λ (k : ℕ). cut_by bytes (replicate k width)) more
    ∙ ap (λ items. take width bytes ∷ items) (cut_by-more (drop width bytes) n width)
    ∙ ap (λ (rest : List ℕ). take width bytes ∷ (cut_by (drop width bytes) (replicate n width) ++ take width rest ∷ [])) (drop-drop (n * width) width bytes ∙ ap (λ (k : ℕ). drop k bytes) (places n width))

-- and its view
pub views-more : (views old : List (List ℕ)) (bytes item : List ℕ) (n width : ℕ) → views ≡ old ++ map inline_view (cut_by bytes (replicate n width)) → item ≡ sublist bytes (n * width) width
    → views ++ inline_view item ∷ [] ≡ old ++ map inline_view (cut_by bytes (replicate (n + 1) width))
views-more views old bytes item n width is same =
    let items = cut_by bytes (replicate n width) in
    ap (λ (vs : List (List ℕ)). vs ++ inline_view item ∷ []) is
    ∙ append_assoc old (map inline_view items) (inline_view item ∷ [])
    ∙ ap (λ (i : List ℕ). old ++ (map inline_view items ++ inline_view i ∷ [])) same
    ∙ ap (λ (vs : List (List ℕ)). old ++ vs) (sym (map-append inline_view items (sublist bytes (n * width) width ∷ [])))
    ∙ ap (λ (cut : List (List ℕ)). old ++ map inline_view cut) (sym (cut_by-more bytes n width))

pub take_old : (views old new : List (List ℕ)) (n : ℕ) → views ≡ old ++ new → n ≡ length old → take n views ≡ old
take_old views old new n is count = ap (take n) is ∙ take_at old new n (sym count)

-- an item lies within the bytes
pub within : (n width i : ℕ) → 0 < width → i < n / width → i * width + width ≤ n
within n width i some below =
    let end : suc i * width ≤ n = (le-div_iff_mul-le some).0 (omega arith) in
    omega (arith, suc-mul i width)

pub ruleset cuts = (views-more, take_old)
