-- Laws of views beside their flags.
use Rattle.std.proofs.Common.{◌≡◌, ℕ, zero, suc, ◌+◌, ◌-◌, ◌*◌, ◌^◌, ◌<◌, ◌≤◌, Bool, true, false, not, List, [], ◌∷◌, ◌++◌, length, replicate, get_or, count_by, Option, Some, None, refl, sym, ◌∙◌, ap, subst, arith, length-append, length-set}
use Rattle.std.specs.Prelude.{slice_set}
use Rattle.std.proofs.lemmas.Bool.Decides.{nat_tests}
use Rattle.std.proofs.lemmas.List.{length-replicate, replicate_more, append_assoc, append-nil}
use Rattle.std.proofs.lemmas.List.Sums.{sum_by-le, sum_by-set, get_or-le-sum_by}
use Rattle.std.proofs.lemmas.List.Elements.{All-push, All-set}
use Rattle.column_storage.specs.Bits.{pushed_flag, joined_flags, constant_flags, changed_flag}
use Rattle.column_storage.specs.Validity.{AreFlagsOf}
use Rattle.column_storage.proofs.GrowingFlagsLemmas.{are_flags-pushed, are_flags-joined, are_flags-constant, are_flags-changed}
use Rattle.column_view.specs.Views.{view_length}
use Rattle.column_blocks.specs.Rows.{IsLengthCount}
use Rattle.column_blocks.proofs.SumsLemmas.{sum_by-last}

-- ---- one more

pub flagged-pushed : (views : List (List ℕ)) (view : List ℕ) (flags : Option (List Bool)) (valid : Bool) → AreFlagsOf (length views) flags → AreFlagsOf (length (views ++ view ∷ [])) (pushed_flag (length views) flags valid)
flagged-pushed views view flags valid all =
    subst (λ (n : ℕ). AreFlagsOf n (pushed_flag (length views) flags valid)) (sym (length-append views (view ∷ []))) (are_flags-pushed (length views) flags valid all)

pub ruleset pushes = (flagged-pushed)

-- ---- slots that are alike

pub flagged-extended : (views : List (List ℕ)) (view : List ℕ) (flags : Option (List Bool)) (n : ℕ) (valid : Bool) → AreFlagsOf (length views) flags
    → AreFlagsOf (length (views ++ replicate n view)) (joined_flags (length views) flags n (constant_flags n valid))
flagged-extended views view flags n valid all =
    let size : length (views ++ replicate n view) ≡ length views + n = length-append views (replicate n view) ∙ ap (λ (m : ℕ). length views + m) (length-replicate n view) in
    subst (λ (m : ℕ). AreFlagsOf m (joined_flags (length views) flags n (constant_flags n valid))) (sym size)
    (are_flags-joined (length views) flags n (constant_flags n valid) all (are_flags-constant n valid))

-- one more of those that are alike
pub more_alike : (old : List (List ℕ)) (view : List ℕ) (n : ℕ) → (old ++ replicate n view) ++ view ∷ [] ≡ old ++ replicate (n + 1) view
more_alike old view n = append_assoc old (replicate n view) (view ∷ []) ∙ ap (λ (views : List (List ℕ)). old ++ views) (replicate_more n view)

pub none_alike : (old : List (List ℕ)) (view : List ℕ) → old ++ replicate 0 view ≡ old
none_alike old view = append-nil old

pub ruleset alike = (more_alike, none_alike)

pub ruleset constants = (flagged-extended)

-- ---- another view, another flag

pub length_set : {X : Type 0} (xs : List X) (i : ℕ) (x : X) → length (slice_set xs i x) ≡ length xs
length_set xs i x = length-set xs i x

pub flagged-changed : (views : List (List ℕ)) (flags : Option (List Bool)) (i : ℕ) (bit : Bool) → AreFlagsOf (length views) flags → AreFlagsOf (length views) (changed_flag (length views) flags i bit)
flagged-changed views flags i bit all = are_flags-changed (length views) flags i bit all

pub ruleset changes = (length_set, flagged-changed)

-- ---- lengths that are counted

-- the bytes of views are fewer than may be counted
pub length_count-bound : (views : List (List ℕ)) (n : ℕ) → IsLengthCount views n → n ≤ length views * 2 ^ 32
length_count-bound views n count = let most = sum_by-le view_length (2 ^ 32) views count.bounded in let same = count.sum in omega arith

pub length_count-pushed : (views : List (List ℕ)) (view : List ℕ) (n added : ℕ) → IsLengthCount views n → added ≡ view_length view → added ≤ 2 ^ 32 → IsLengthCount (views ++ view ∷ []) (n + added)
length_count-pushed views view n added count is most = record {
  sum = let more = sum_by-last view_length views view in let same = count.sum in omega arith;
  bounded = All-push (λ (v : List ℕ). view_length v ≤ 2 ^ 32) views view count.bounded (omega arith);
}

pub length_count-changed : (views : List (List ℕ)) (i : ℕ) (old view : List ℕ) (n removed added : ℕ) → IsLengthCount views n → i < length views → old ≡ get_or views i old → removed ≡ view_length old → added ≡ view_length view → added ≤ 2 ^ 32
    → IsLengthCount (slice_set views i view) (n - removed + added)
length_count-changed views i old view n removed added count within at was is most = record {
  sum =
      let moved = sum_by-set view_length views i view old within in
      let part = get_or-le-sum_by view_length views i old within in
      let there : view_length (get_or views i old) ≡ removed = ap view_length (sym at) ∙ sym was in
      let same = count.sum in
      omega arith;
  bounded = All-set (λ (v : List ℕ). view_length v ≤ 2 ^ 32) views i view (omega arith) count.bounded;
}

pub ruleset counts = (length_count-bound, length_count-pushed, length_count-changed)
