-- Laws of texts that are written one after another, and of the text of rows.
use Rattle.std.proofs.Common.{◌≡◌, ℕ, zero, suc, ◌+◌, ◌≤◌, Bool, List, [], ◌∷◌, ◌++◌, length, take, slice_get, ◌==◌, Option, Some, refl, sym, ◌∙◌, ap, subst, arith}
use Rattle.std.specs.Prelude.{codes, false, Result, Ok, Err, IsOk, OnOk}
use Rattle.std.specs.List.{FoldsTo, concat}
use Rattle.std.specs.Fmt.{WritesInCalls, HasWritten, IsPlainFormatter, formatter_writer}
use Rattle.std.specs.declared.fmt.Formatter.{Formatter}
use Rattle.std.proofs.lemmas.Bool.Decides.{nat_tests}
use Rattle.std.proofs.lemmas.List.{append-nil, append_assoc, take_all}
use Rattle.column_storage.specs.Bits.{optional_values}
use Rattle.std.proofs.lemmas.List.Folds.{concat-append}
use Rattle.column_boolean.specs.Rows.{row_text, more_text, rows_text, comma_text}

-- ---- one call after another

module _ {W : Type 0} (took : W → List ℕ → W → Type 0) where
  folds_both : (u v w : W) (ps qs : List (List ℕ)) → FoldsTo took u ps v → FoldsTo took v qs w → FoldsTo took u (ps ++ qs) w
  folds_both u v w [] qs first second = subst (λ (t : W). FoldsTo took t qs w) (sym first) second
  folds_both u v w (p ∷ ps) qs first second = (first.0, first.1, folds_both first.0 v w ps qs first.2 second)

  pub wrote_nothing : (w : W) → WritesInCalls took w [] w
  wrote_nothing w = record { parts = []; calls = refl; whole = refl }

  pub wrote_once : (w v : W) (bytes : List ℕ) → took w bytes v → WritesInCalls took w bytes v
  wrote_once w v bytes step = record { parts = bytes ∷ []; calls = (v, step, refl); whole = append-nil bytes }

  pub wrote_both : (u v w : W) (xs ys : List ℕ) → WritesInCalls took u xs v → WritesInCalls took v ys w → WritesInCalls took u (xs ++ ys) w
  wrote_both u v w xs ys first second = record {
    parts = first.parts ++ second.parts;
    calls = folds_both u v w first.parts second.parts first.calls second.calls;
    whole = concat-append first.parts second.parts ∙ ap (λ (bytes : List ℕ). bytes ++ concat second.parts) first.whole ∙ ap (λ (bytes : List ℕ). xs ++ bytes) second.whole;
  }

-- a last call that is good
pub on_ok : {X E P Q : Type 0} (result : Result X E) → (IsOk result → P) → (P → Q) → OnOk result Q
on_ok (Ok x) given step = step (given refl)
on_ok (Err e) given step = tt

pub of_ok : {X E P : Type 0} (result : Result X E) → OnOk result P → IsOk result → P
of_ok (Ok x) given ok = given
of_ok (Err e) given ok = absurd (cc)

-- a formatter without options writes to its writer
module _ {W : Type 0} (took : W → List ℕ → W → Type 0) where
  plain_calls : (f g : Formatter W) (parts : List (List ℕ)) → FoldsTo (λ (s : Formatter W) (bytes : List ℕ) (t : Formatter W). IsPlainFormatter s → HasWritten took s bytes t) f parts g → IsPlainFormatter f → HasWritten took f (concat parts) g
  plain_calls f g [] calls plain = subst (λ (h : Formatter W). HasWritten took f [] h) calls (record { wrote = wrote_nothing took (formatter_writer f); plain = plain })
  plain_calls f g (p ∷ ps) calls plain =
      let one = calls.1 plain in
      let more = plain_calls calls.0 g ps calls.2 one.plain in
      record { wrote = wrote_both took _ _ _ p (concat ps) one.wrote more.wrote; plain = more.plain }

  pub plain_writes : (f g : Formatter W) (bytes : List ℕ) → WritesInCalls (λ (s : Formatter W) (bytes : List ℕ) (t : Formatter W). IsPlainFormatter s → HasWritten took s bytes t) f bytes g → IsPlainFormatter f → HasWritten took f bytes g
  plain_writes f g bytes given plain = subst (λ (bs : List ℕ). HasWritten took f bs g) given.whole (plain_calls f g given.parts given.calls plain)

-- ---- the text of rows

more-push : (rows : List (Option Bool)) (row : Option Bool) → more_text (rows ++ row ∷ []) ≡ more_text rows ++ (codes ", " ++ row_text row)
more-push [] row = append-nil (codes ", " ++ row_text row)
more-push (first ∷ rows) row =
    ap (λ (rest : List ℕ). codes ", " ++ row_text first ++ rest) (more-push rows row)
    ∙ sym (append_assoc (codes ", " ++ row_text first) (more_text rows) (codes ", " ++ row_text row))

comma_next : (n : ℕ) → codes ", " ≡ comma_text (suc n)
comma_next n = let test : (suc n == 0) ≡ false = grind (arith, nat_tests) in rw test refl

-- one row more
pub rows_text-push : (rows : List (Option Bool)) (row : Option Bool) → rows_text (rows ++ row ∷ []) ≡ rows_text rows ++ (comma_text (length rows) ++ row_text row)
rows_text-push [] row = append-nil (row_text row)
rows_text-push (first ∷ rows) row =
    ap (λ (rest : List ℕ). row_text first ++ rest) (more-push rows row)
    ∙ sym (append_assoc (row_text first) (more_text rows) (codes ", " ++ row_text row))
    ∙ ap (λ (comma : List ℕ). rows_text (first ∷ rows) ++ (comma ++ row_text row)) (comma_next (length rows))

take_row : {X : Type 0} (xs : List X) (i : ℕ) (x : X) → slice_get xs i ≡ Some x → (take (i + 1) xs ≡ take i xs ++ x ∷ []) × (length (take i xs) ≡ i)
take_row [] i x at = absurd (cc)
take_row (y ∷ xs) zero x at = let is : y ≡ x = cc in (ap (λ z. z ∷ []) is, refl)
take_row (y ∷ xs) (suc i) x at =
    let rest = take_row xs i x at in
    let e : suc i + 1 ≡ suc (i + 1) = omega arith in
    (rw e (ap (λ zs. y ∷ zs) rest.0), ap suc rest.1)

pub text_more : (rows : List (Option Bool)) (i : ℕ) (row : Option Bool) → slice_get rows i ≡ Some row → rows_text (take (i + 1) rows) ≡ rows_text (take i rows) ++ (comma_text i ++ row_text row)
text_more rows i row at =
    let is = take_row rows i row at in
    ap rows_text is.0
    ∙ rows_text-push (take i rows) row
    ∙ ap (λ (n : ℕ). rows_text (take i rows) ++ (comma_text n ++ row_text row)) is.1

length-rows : (bits values : List Bool) → length (optional_values bits values) ≡ length values
length-rows bits [] = refl
length-rows [] (value ∷ values) = ap suc (length-rows [] values)
length-rows (bit ∷ bits) (value ∷ values) = ap suc (length-rows bits values)

pub text_all : (flags values : List Bool) (i : ℕ) → length values ≤ i → rows_text (take i (optional_values flags values)) ≡ rows_text (optional_values flags values)
text_all flags values i past = let count = length-rows flags values in ap rows_text (take_all i (optional_values flags values) (omega arith))

pub ruleset writes = (wrote_nothing, wrote_once, wrote_both)
