-- Rows behind views.
use Rattle.std.proofs.Common.{◌≡◌, ℕ, ◌+◌, ◌<◌, ◌≤◌, Bool, true, false, List, [], ◌∷◌, ◌++◌, length, map, take, drop, Option, Some, None, Result, Ok, Err, refl, sym, ◌∙◌, ap, subst, arith, if◌then◌else◌}
use Rattle.std.specs.Prelude.{◌^◌, nat_le, ◌==◌}
use Rattle.std.specs.List.{concat, list_all}
use Rattle.std.proofs.lemmas.Bool.{and_parts}
use Rattle.std.proofs.lemmas.Bool.Decides.{nat_tests}
use Rattle.std.proofs.lemmas.List.{length-append, length-drop, length-take, take-append-le, take-append-drop, append_cancel_left, map-id}
use Rattle.std.proofs.lemmas.List.Concat.{flat_map-cons}
use Rattle.std.proofs.lemmas.List.Elements.{All-nil, All-cons, All-append}
use Rattle.std.proofs.lemmas.List.Folds.{concat-append}
use Rattle.column_base.specs.declared.errors.Cause.{Cause}
use Rattle.column_base.specs.declared.errors.Cause.TheVariants.{Overflow}
use Rattle.column_base.specs.declared.errors.PolarsError.{PolarsError}
use Rattle.column_base.specs.declared.errors.PolarsError.TheVariants.{ComputeError, OutOfBounds, NoMemory}
use Rattle.column_base.specs.Answers.{Answers, cause_if, ◌or_else◌}
use Rattle.column_base.specs.Errors.{error_of}
use Rattle.column_base.specs.Pushes.{grown, growth_fault}
use Rattle.column_storage.specs.Slots.{flagged_slots}
use Rattle.column_storage.specs.declared.data_buffers.TheConstants.{MAX_BUFFERS}
use Rattle.column_blocks.specs.Blocks.{ByteBlocks, AreFilled, blocks_of, buffers_of, is_short_value, stored, written_values, AppendsBytes}
use Rattle.column_binview.specs.Slots.{ViewLists, view_lists, view_slots, AreSoundViews}
use Rattle.column_binview.specs.Builders.{ViewBuilder, lists_of, builder_of, pushed_row, row_fault, row_growth, slot_of, written_row, written_rows, Appends}
use Rattle.column_rows.specs.Rows.{is_of_view}
use Rattle.column_rows.specs.Views.{Hold, AreAppended, Overflows}

-- ---- answers

-- an error where there is no cause is that memory ran out
pub overflows_none : {X Y : Type 0} (error : PolarsError) (Passed : Type 0) (P : X → Type 0) (Q : Y → Type 0) → Answers {X = X} (Err error) None P → Overflows {X = Y} (Err error) Passed Q
overflows_none (ComputeError cause) Passed P Q given = let some = given.0 in absurd (cc)
overflows_none (OutOfBounds cause) Passed P Q given = let some = given.0 in absurd (cc)
overflows_none NoMemory Passed P Q given = tt

-- an error whose cause is Overflow alone, where the bound is passed
pub overflows_err : {X Y : Type 0} (error : PolarsError) (fault : Option Cause) (Passed : Type 0) (P : X → Type 0) (Q : Y → Type 0) → Answers {X = X} (Err error) fault P → ((cause : Cause) → fault ≡ Some cause → (cause ≡ Overflow) × Passed) → Overflows {X = Y} (Err error) Passed Q
overflows_err (ComputeError cause) fault Passed P Q given told = let is = told cause given.0 in (sym given.1 ∙ ap error_of is.0, is.1)
overflows_err (OutOfBounds cause) fault Passed P Q given told = let is = told cause given.0 in (sym given.1 ∙ ap error_of is.0, is.1)
overflows_err NoMemory fault Passed P Q given told = tt

pub overflows_weaker : {X : Type 0} (result : Result X PolarsError) (Passed : Type 0) (P Q : X → Type 0) → Answers result None P → ((x : X) → P x → Q x) → Overflows result Passed Q
overflows_weaker (Ok x) Passed P Q given weaker = weaker x given.1
overflows_weaker (Err error) Passed P Q given weaker = overflows_none error Passed P Q given

-- ---- the rows that are written behind their views

long_value : (short : Bool) (value : List ℕ) → is_short_value value ≡ short → AreFilled (if short then [] else value ∷ [])
long_value true value is = All-nil (λ (bytes : List ℕ). 0 < length bytes)
long_value false value is =
    let long : 12 < length value = grind (arith, nat_tests) in
    All-cons (λ (bytes : List ℕ). 0 < length bytes) value [] (omega arith) (All-nil (λ (bytes : List ℕ). 0 < length bytes))

long_row : (row : Option (List ℕ)) → AreFilled (written_row row)
long_row None = All-nil (λ (bytes : List ℕ). 0 < length bytes)
long_row (Some value) = long_value (is_short_value value) value refl

rows_filled : (rows : List (Option (List ℕ))) → AreFilled (written_rows rows)
rows_filled [] = All-nil (λ (bytes : List ℕ). 0 < length bytes)
rows_filled (row ∷ rows) =
    subst AreFilled (sym (flat_map-cons written_row row rows))
    (All-append (λ (bytes : List ℕ). 0 < length bytes) (written_row row) (written_rows rows) (long_row row) (rows_filled rows))

-- ---- refusals

-- a value that is refused though it is not too long
refused_if : (short large full : Bool) (cause : Cause) → large ≡ false → (if short then None else (cause_if large Overflow or_else cause_if full Overflow)) ≡ Some cause → (short ≡ false) × (full ≡ true)
refused_if true large full cause small is = absurd (cc)
refused_if false true full cause small is = absurd (cc)
refused_if false false true cause small is = (refl, refl)
refused_if false false false cause small is = absurd (cc)

one_long : (value : List ℕ) → is_short_value value ≡ false → length (written_values value) ≡ 1
one_long value long = rw long refl

-- how many buffers there are after a value that is stored: at most one more where it is long
abbrev pub StoredCount : Type 0
StoredCount = (blocks : ByteBlocks) (value : List ℕ) → length (buffers_of (stored blocks value)) ≤ length (buffers_of blocks) + length (written_values value)

written-length : (row : Option (List ℕ)) (rows : List (Option (List ℕ))) → length (written_rows (row ∷ rows)) ≡ length (written_row row) + length (written_rows rows)
written-length row rows = ap length (flat_map-cons written_row row rows) ∙ length-append (written_row row) (written_rows rows)

-- a refused value is long, and there are as many buffers as there may be
first_full : (blocks : ByteBlocks) (value : List ℕ) (rows : List (Option (List ℕ))) (cause : Cause) → is_of_view (Some value) ≡ true
    → (if is_short_value value then None else (cause_if (nat_le (2 ^ 32) (length value)) Overflow or_else cause_if (nat_le MAX_BUFFERS (length (buffers_of blocks))) Overflow)) ≡ Some cause
    → MAX_BUFFERS < length (buffers_of blocks) + length (written_rows (Some value ∷ rows))
first_full blocks value rows cause fits refused =
    let small : nat_le (2 ^ 32) (length value) ≡ false = grind (arith, nat_tests) in
    let told = refused_if (is_short_value value) (nat_le (2 ^ 32) (length value)) (nat_le MAX_BUFFERS (length (buffers_of blocks))) cause small refused in
    let full : MAX_BUFFERS ≤ length (buffers_of blocks) = let test = told.1 in grind (arith, nat_tests) in
    let one = one_long value told.0 in
    let all = written-length (Some value) rows in
    omega arith

module _ (counts : StoredCount) where
  one_full : (builder : ViewBuilder) (value : List ℕ) (rows : List (Option (List ℕ))) (cause : Cause) (first : Option Cause) → row_fault builder (Some value) ≡ first → is_of_view (Some value) ≡ true
      → (growth_fault row_growth (pushed_row builder (Some value)) rows ≡ Some cause → MAX_BUFFERS < length (buffers_of (stored builder.bytes.blocks value)) + length (written_rows rows))
      → (first or_else growth_fault row_growth (pushed_row builder (Some value)) rows) ≡ Some cause
      → MAX_BUFFERS < length (buffers_of builder.bytes.blocks) + length (written_rows (Some value ∷ rows))
  one_full builder value rows cause None is fits rest refused =
      let after = rest refused in
      let more = counts builder.bytes.blocks value in
      let all = written-length (Some value) rows in
      omega arith
  one_full builder value rows cause (Some other) is fits rest refused = first_full builder.bytes.blocks value rows other fits is

  -- rows that views can tell are refused only where buffers and long rows are together more than there may be
  pub rows_full : (builder : ViewBuilder) (rows : List (Option (List ℕ))) (cause : Cause) → list_all is_of_view rows ≡ true → growth_fault row_growth builder rows ≡ Some cause
      → MAX_BUFFERS < length (buffers_of builder.bytes.blocks) + length (written_rows rows)
  rows_full builder [] cause fits refused = absurd (cc)
  rows_full builder (None ∷ rows) cause fits refused =
      let after = rows_full (pushed_row builder None) rows cause fits refused in
      let all = written-length None rows in
      omega arith
  rows_full builder (Some value ∷ rows) cause fits refused =
      let parts = and_parts (is_of_view (Some value)) (list_all is_of_view rows) fits in
      one_full builder value rows cause (row_fault builder (Some value)) refl parts.0 (rows_full (pushed_row builder (Some value)) rows cause parts.1) refused

-- ---- what rows leave

no_buffers : (buffers : List (List ℕ)) → buffers_of (blocks_of buffers) ≡ buffers
unfolding buffers_of
no_buffers buffers = refl

-- finished buffers that there were are the first of all
front_by : (empty : Bool) (blocks : ByteBlocks) (old : List (List ℕ)) → take (length old) blocks.finished ≡ old → take (length old) (if empty then blocks.finished else blocks.finished ++ blocks.block ∷ []) ≡ old
front_by true blocks old first = first
front_by false blocks old first =
    let shorter : length old ≤ length blocks.finished = omega (arith, length-take (length old) blocks.finished, ap length first) in
    take-append-le (length old) blocks.finished (blocks.block ∷ []) shorter ∙ first

front_stays : (blocks : ByteBlocks) (old : List (List ℕ)) → take (length old) blocks.finished ≡ old → take (length old) (buffers_of blocks) ≡ old
unfolding buffers_of
front_stays blocks old first = front_by (length blocks.block == 0) blocks old first

further_hold : (old : List (List ℕ)) (blocks : ByteBlocks) (rows : List (Option (List ℕ))) → AppendsBytes (blocks_of old) blocks (written_rows rows) → Hold (drop (length old) (buffers_of blocks)) (written_rows rows)
further_hold old blocks rows appends =
    let front = front_stays blocks old appends.finished in
    let whole : old ++ drop (length old) (buffers_of blocks) ≡ buffers_of blocks =
    ap (λ (first : List (List ℕ)). first ++ drop (length old) (buffers_of blocks)) (sym front) ∙ take-append-drop (length old) (buffers_of blocks) in
    let bytes : concat old ++ concat (drop (length old) (buffers_of blocks)) ≡ concat old ++ concat (written_rows rows) =
    sym (concat-append old (drop (length old) (buffers_of blocks))) ∙ ap concat whole ∙ appends.bytes ∙ ap (λ (buffers : List (List ℕ)). concat buffers ++ concat (written_rows rows)) (no_buffers old) in
    record {
      bytes = append_cancel_left (concat old) (concat (drop (length old) (buffers_of blocks))) (concat (written_rows rows)) bytes;
      count = let rest = length-drop (length old) (buffers_of blocks) in let before = ap length (no_buffers old) in omega (arith, appends.count, rest, before);
      filled = appends.filled (rows_filled rows);
    }

module _ (old : ViewLists) (rows : List (Option (List ℕ))) (builder : ViewBuilder) (appends : Appends (builder_of old) builder (map slot_of rows) (written_rows rows)) where
  pub rows_appended : AreAppended old rows (lists_of builder)
  rows_appended = record {
    views = appends.views;
    buffers = front_stays builder.bytes.blocks old.buffers appends.bytes.finished;
    further = further_hold old.buffers builder.bytes.blocks rows appends.bytes;
  }

  pub appended_slots : lists_of (builder_of old) ≡ old → view_slots (lists_of builder) ≡ view_slots old ++ map slot_of rows
  appended_slots same = appends.slots ∙ ap (λ (lists : ViewLists). view_slots lists ++ map slot_of rows) same

pub full_of : StoredCount → (old : ViewLists) (rows : List (Option (List ℕ))) (cause : Cause) → list_all is_of_view rows ≡ true → growth_fault row_growth (builder_of old) rows ≡ Some cause → MAX_BUFFERS < length old.buffers + length (written_rows rows)
full_of counts old rows cause fits refused = let before = ap length (no_buffers old.buffers) in omega (arith, before, rows_full counts (builder_of old) rows cause fits refused)

-- ---- an array that is written

abbrev pub no_lists : ViewLists
no_lists = view_lists [] [] None

pub none_sound : AreSoundViews false no_lists
none_sound = record { fine = refl; flagged = tt; few = omega arith }

pub none_slots : view_slots no_lists ≡ []
unfolding view_slots flagged_slots
none_slots = refl

-- what pushed rows answer, whose values are taken as they are
module _ (old : ViewLists) (builder new : ViewBuilder) (rows : List (Option (List ℕ))) (is : builder ≡ builder_of old) where
  abbrev pub IsPushed : Result (Unit {0}) PolarsError → Type 0
  IsPushed result = Answers result (growth_fault row_growth builder (map (λ (row : Option (List ℕ)). row) rows)) (λ _. new ≡ grown row_growth builder (map (λ (row : Option (List ℕ)). row) rows))

  as_taken : (result : Result (Unit {0}) PolarsError) → IsPushed result → Answers result (growth_fault row_growth (builder_of old) rows) (λ _. new ≡ grown row_growth (builder_of old) rows)
  as_taken result pushed =
      subst (λ (b : ViewBuilder). Answers result (growth_fault row_growth b rows) (λ _. new ≡ grown row_growth b rows)) is
      (subst (λ (rs : List (Option (List ℕ))). Answers result (growth_fault row_growth builder rs) (λ _. new ≡ grown row_growth builder rs)) (map-id rows) pushed)

  pub refused_rows : {X : Type 0} (error : PolarsError) (Passed : Type 0) (Q : X → Type 0) → IsPushed (Err error) → ((cause : Cause) → growth_fault row_growth (builder_of old) rows ≡ Some cause → (cause ≡ Overflow) × Passed) → Overflows {X = X} (Err error) Passed Q
  refused_rows error Passed Q pushed told = overflows_err error (growth_fault row_growth (builder_of old) rows) Passed _ Q (as_taken (Err error) pushed) told

  pub written_array : (result : Result ViewLists PolarsError) (Passed : Type 0) (Q : ViewLists → Type 0) → IsPushed (Ok tt) → Answers result None (λ a. a ≡ lists_of new) → (growth_fault row_growth (builder_of old) rows ≡ None → Q (lists_of (grown row_growth (builder_of old) rows))) → Overflows result Passed Q
  written_array result Passed Q pushed frozen holds =
      let taken = as_taken (Ok tt) pushed in
      overflows_weaker result Passed (λ a. a ≡ lists_of new) Q frozen (λ a a_is. subst Q (sym (a_is ∙ ap lists_of taken.1)) (holds taken.0))
