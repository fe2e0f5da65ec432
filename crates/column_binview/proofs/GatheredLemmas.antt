-- Laws of buffers that are made anew.
use Rattle.std.proofs.Common.{◌≡◌, ℕ, zero, suc, ◌+◌, ◌-◌, ◌*◌, ◌^◌, ◌<◌, ◌≤◌, Bool, true, false, List, [], ◌∷◌, ◌++◌, length, map, take, drop, Option, Some, None, refl, sym, ◌∙◌, ap, subst, arith, length-append, if◌then◌else◌}
use Rattle.std.specs.Prelude.{nat_le, nat_lt, ◌&&◌, ◌==◌, slice_get, slice_index_or, Err}
use Rattle.std.specs.List.{All, concat, flat_map}
use Rattle.std.proofs.lemmas.Bool.Decides.{nat_tests}
use Rattle.std.proofs.lemmas.List.{map-append, length-map}
use Rattle.std.proofs.lemmas.List.Folds.{flat_map-map}
use Rattle.std.proofs.lemmas.List.Concat.{flat_map-cons}
use Rattle.std.proofs.lemmas.Grind.{flat_map-append}
use Rattle.std.proofs.lemmas.List.Elements.{All-nil, All-append, All-cons, All-head, All-tail, All-map}
use Rattle.column_base.specs.declared.errors.Cause.{Cause}
use Rattle.column_base.specs.declared.errors.Cause.TheVariants.{Overflow}
use Rattle.column_base.specs.declared.errors.PolarsError.{PolarsError}
use Rattle.column_base.specs.declared.errors.PolarsError.TheVariants.{ComputeError, OutOfBounds, NoMemory}
use Rattle.column_base.specs.Kinds.{Slot}
use Rattle.column_base.specs.Answers.{Answers, cause_if, ◌or_else◌}
use Rattle.column_base.specs.Pushes.{grown, growth_fault}
use Rattle.column_base.specs.Slots.{slot_at, values_of}
use Rattle.column_base.proofs.PushesLemmas.{Stands, shown_more, stands_refused}
use Rattle.column_storage.specs.Slots.{flagged_slots}
use Rattle.column_storage.specs.Validity.{AreFlagsOf}
use Rattle.column_storage.specs.declared.data_buffers.TheConstants.{MAX_BUFFERS}
use Rattle.column_view.specs.Views.{IsView, view_length, view_content}
use Rattle.column_blocks.specs.Blocks.{AreFilled, buffers_of, blocks_of, is_short_value, written_values}
use Rattle.column_blocks.proofs.BlocksLemmas.{buffers_of-blocks_of}
use Rattle.column_blocks.proofs.AppendsLemmas.{appends-stored}
use Rattle.column_binview.specs.Slots.{ViewLists, view_lists, view_count, contents, view_slots, AreSoundViews}
use Rattle.column_binview.specs.Builders.{ViewBuilder, lists_of, no_slots, IsSoundBuilder, pushed_row, row_fault, row_growth, slot_of, FitsView, written_row, written_rows, Appends}
use Rattle.column_binview.specs.Gathered.{long_slots, IsGathered, gather_fault, is_much_spared}
use Rattle.column_binview.proofs.SlotsLemmas.{values_of-view_slots, length-content}
use Rattle.column_binview.proofs.BuildersLemmas.{sound-no_slots, sound-rows, appends-rows}

-- ---- whether much is spared

much_if : (a b c : Bool) (n bytes buffers : ℕ) → nat_lt 16384 buffers ≡ a → nat_le (16 * n + (bytes - 12 * n) + 16384) (16 * n + buffers) ≡ b → nat_le (4 * (16 * n + (bytes - 12 * n))) (16 * n + buffers) ≡ c → is_much_spared n bytes buffers ≡ (a && b && c)
much_if a b c n bytes buffers first second third = rw (first, second, third) refl

pub little_spared : (n bytes buffers : ℕ) → buffers ≤ 16384 → is_much_spared n bytes buffers ≡ false
little_spared n bytes buffers few = let test : nat_lt 16384 buffers ≡ false = grind (arith, nat_tests) in rw test refl

no_second : (a c : Bool) → (a && false && c) ≡ false
no_second true c = refl
no_second false c = refl

pub none_to_spare : (n bytes buffers excess : ℕ) → excess ≡ bytes - 12 * n → buffers - 16384 < excess → is_much_spared n bytes buffers ≡ false
none_to_spare n bytes buffers excess is less =
    let second : nat_le (16 * n + (bytes - 12 * n) + 16384) (16 * n + buffers) ≡ false = grind (arith, nat_tests) in
    much_if (nat_lt 16384 buffers) false (nat_le (4 * (16 * n + (bytes - 12 * n))) (16 * n + buffers)) n bytes buffers refl second refl ∙ no_second (nat_lt 16384 buffers) (nat_le (4 * (16 * n + (bytes - 12 * n))) (16 * n + buffers))

pub rest_decides : (n bytes buffers excess : ℕ) (enough : Bool) → excess ≡ bytes - 12 * n → 16384 < buffers → excess ≤ buffers - 16384 → nat_le (4 * (16 * n + excess)) (16 * n + buffers) ≡ enough → is_much_spared n bytes buffers ≡ enough
rest_decides n bytes buffers excess enough is some spare test =
    let first : nat_lt 16384 buffers ≡ true = grind (arith, nat_tests) in
    let second : nat_le (16 * n + (bytes - 12 * n) + 16384) (16 * n + buffers) ≡ true = grind (arith, nat_tests) in
    much_if true true enough n bytes buffers first second (ap (λ (e : ℕ). nat_le (4 * (16 * n + e)) (16 * n + buffers)) (sym is) ∙ test)

pub ruleset spares = (little_spared, none_to_spare, rest_decides, nat_tests)

-- ---- values of long slots

long_value : (short : Bool) (value : List ℕ) → is_short_value value ≡ short → AreFilled (if short then [] else value ∷ [])
long_value true value is = All-nil (λ (bytes : List ℕ). 0 < length bytes)
long_value false value is =
    let long : 12 < length value = grind (arith, nat_tests) in
    All-cons (λ (bytes : List ℕ). 0 < length bytes) value [] (omega arith) (All-nil (λ (bytes : List ℕ). 0 < length bytes))

pub long_filled : (values : List (List ℕ)) → AreFilled (flat_map written_values values)
long_filled [] = All-nil (λ (bytes : List ℕ). 0 < length bytes)
long_filled (value ∷ values) =
    subst AreFilled (sym (flat_map-cons written_values value values))
    (All-append (λ (bytes : List ℕ). 0 < length bytes) (written_values value) (flat_map written_values values) (long_value (is_short_value value) value refl) (long_filled values))

pub written_rows-values : (values : List (List ℕ)) → written_rows (map Some values) ≡ flat_map written_values values
written_rows-values values = flat_map-map written_row Some values

values_of-rows : (values : List (List ℕ)) → values_of (map slot_of (map Some values)) ≡ values
values_of-rows [] = refl
values_of-rows (value ∷ values) = ap (λ (rest : List (List ℕ)). value ∷ rest) (values_of-rows values)

pub no_view_slots : view_slots (lists_of no_slots) ≡ []
unfolding view_slots flagged_slots
no_view_slots = refl

no_buffers : buffers_of (blocks_of []) ≡ []
no_buffers = buffers_of-blocks_of []

-- ---- the array of new buffers

module _ (old : ViewLists) (flagged : AreFlagsOf (length old.views) old.flags) (builder : ViewBuilder)
    (fine : growth_fault row_growth no_slots (map Some (values_of (view_slots old))) ≡ None)
    (is : builder ≡ grown row_growth no_slots (map Some (values_of (view_slots old)))) where
  abbrev values : List (List ℕ)
  values = values_of (view_slots old)

  appends : Appends no_slots builder (map slot_of (map Some values)) (written_rows (map Some values))
  appends = subst (λ (b : ViewBuilder). Appends no_slots b (map slot_of (map Some values)) (written_rows (map Some values))) (sym is) (appends-rows no_slots (map Some values) (sound-no_slots false) fine)

  sound : IsSoundBuilder false builder
  sound = subst (IsSoundBuilder false) (sym is) (sound-rows no_slots (map Some values) (sound-no_slots false) fine)

  same_contents : contents builder.rows.views (buffers_of builder.bytes.blocks) ≡ values
  same_contents =
      sym (values_of-view_slots (lists_of builder) sound.array.flagged)
      ∙ ap values_of appends.slots
      ∙ ap (λ (slots : List Slot). values_of (slots ++ map slot_of (map Some values))) no_view_slots
      ∙ values_of-rows values

  pub gathered_count : length builder.rows.views ≡ length old.views
  gathered_count =
      sym (length-map builder.rows.views (λ (view : List ℕ). view_content view (buffers_of builder.bytes.blocks)))
      ∙ ap length (same_contents ∙ values_of-view_slots old flagged)
      ∙ length-map old.views (λ (view : List ℕ). view_content view old.buffers)

  same_slots : view_slots (view_lists builder.rows.views (buffers_of builder.bytes.blocks) old.flags) ≡ view_slots old
  unfolding view_slots
  same_slots = ap (flagged_slots old.flags) (same_contents ∙ values_of-view_slots old flagged)

  long_are : written_rows (map Some values) ≡ long_slots old
  long_are = written_rows-values values

  pub gathered_is : IsGathered old (view_lists builder.rows.views (buffers_of builder.bytes.blocks) old.flags)
  gathered_is = record {
    slots = same_slots;
    flags = refl;
    bytes = appends.bytes.bytes ∙ ap (λ (buffers : List (List ℕ)). concat buffers ++ concat (written_rows (map Some values))) no_buffers ∙ ap concat long_are;
    count = let none : length (buffers_of (blocks_of [])) ≡ 0 = ap length no_buffers in omega (arith, appends.bytes.count, ap length long_are);
    filled = appends.bytes.filled (subst AreFilled (sym long_are) (long_filled values));
  }

  pub gathered_flags : (new : ViewLists) (flags : Option (List Bool)) → new ≡ lists_of builder → flags ≡ old.flags → AreFlagsOf (view_count new) flags
  gathered_flags new flags new_is flags_is = rw (new_is, flags_is, gathered_count) flagged

  pub gathered_after : (new result : ViewLists) (flags : Option (List Bool)) → new ≡ lists_of builder → flags ≡ old.flags → result ≡ view_lists new.views new.buffers flags → IsGathered old result
  gathered_after new result flags new_is flags_is is_result = rw (is_result, new_is, flags_is) gathered_is

-- ---- refusals

fault_if : (short large full : Bool) (cause : Cause) → (if short then None else (cause_if large Overflow or_else cause_if full Overflow)) ≡ Some cause → (short ≡ false) × (cause ≡ Overflow)
fault_if true large full cause is = absurd (cc)
fault_if false true full cause is = (refl, cc)
fault_if false false true cause is = (refl, cc)
fault_if false false false cause is = absurd (cc)

pub overflow_alone : (builder : ViewBuilder) (row : Option (List ℕ)) (cause : Cause) → row_fault builder row ≡ Some cause → cause ≡ Overflow
overflow_alone builder None cause is = absurd (cc)
overflow_alone builder (Some value) cause is =
    (fault_if (is_short_value value) (nat_le (2 ^ 32) (length value)) (nat_le MAX_BUFFERS (length (buffers_of builder.bytes.blocks))) cause is).1

first_or : (first second : Option Cause) (cause : Cause) → ((c : Cause) → first ≡ Some c → c ≡ Overflow) → ((c : Cause) → second ≡ Some c → c ≡ Overflow) → first or_else second ≡ Some cause → cause ≡ Overflow
first_or None second cause one two is = two cause is
first_or (Some c) second cause one two is = one cause is

pub overflow_rows : (builder : ViewBuilder) (rows : List (Option (List ℕ))) (cause : Cause) → growth_fault row_growth builder rows ≡ Some cause → cause ≡ Overflow
overflow_rows builder [] cause is = absurd (cc)
overflow_rows builder (row ∷ rows) cause is = first_or (row_fault builder row) (growth_fault row_growth (pushed_row builder row) rows) cause (overflow_alone builder row) (overflow_rows (pushed_row builder row) rows) is

-- a value that is refused though it is not too long
refused_if : (short large full : Bool) (cause : Cause) → large ≡ false → (if short then None else (cause_if large Overflow or_else cause_if full Overflow)) ≡ Some cause → (short ≡ false) × (full ≡ true)
refused_if true large full cause small is = absurd (cc)
refused_if false true full cause small is = absurd (cc)
refused_if false false true cause small is = (refl, refl)
refused_if false false false cause small is = absurd (cc)

one_long : (value : List ℕ) → is_short_value value ≡ false → length (written_values value) ≡ 1
one_long value long = rw long refl

-- then there are as many buffers as there may be, each of which a long value before it began
pub too_many : (builder : ViewBuilder) (before after : List (List ℕ)) (value : List ℕ) (cause : Cause) → Stands row_growth no_slots builder (map Some before) → length value < 2 ^ 32 → row_fault builder (Some value) ≡ Some cause
    → MAX_BUFFERS < length (flat_map written_values (before ++ value ∷ after))
too_many builder before after value cause at small refused =
    let large : nat_le (2 ^ 32) (length value) ≡ false = grind (arith, nat_tests) in
    let told = refused_if (is_short_value value) (nat_le (2 ^ 32) (length value)) (nat_le MAX_BUFFERS (length (buffers_of builder.bytes.blocks))) cause large refused in
    let full : MAX_BUFFERS ≤ length (buffers_of builder.bytes.blocks) = let test = told.1 in grind (arith, nat_tests) in
    let adds = subst (λ (b : ViewBuilder). Appends no_slots b (map slot_of (map Some before)) (written_rows (map Some before))) (sym at.is) (appends-rows no_slots (map Some before) (sound-no_slots false) at.fine) in
    let count = adds.bytes.count in
    let none : length (buffers_of (blocks_of [])) ≡ 0 = ap length no_buffers in
    let first : length (written_rows (map Some before)) ≡ length (flat_map written_values before) = ap length (written_rows-values before) in
    let parts : flat_map written_values (before ++ value ∷ after) ≡ flat_map written_values before ++ (written_values value ++ flat_map written_values after) =
    flat_map-append written_values before (value ∷ after) ∙ ap (λ (rest : List (List ℕ)). flat_map written_values before ++ rest) (flat_map-cons written_values value after) in
    let size = ap length parts ∙ length-append (flat_map written_values before) (written_values value ++ flat_map written_values after) in
    let last = length-append (written_values value) (flat_map written_values after) in
    let one = one_long value told.0 in
    omega arith

-- ---- rows that are refused

long_first : (first second : Option Cause) → ((c : Cause) → first ≡ Some c → c ≡ Overflow) → second ≡ Some Overflow → first or_else second ≡ Some Overflow
long_first None second one two = two
long_first (Some c) second one two = ap Some (one c refl)

long_row : (builder : ViewBuilder) (value : List ℕ) → 2 ^ 32 ≤ length value → row_fault builder (Some value) ≡ Some Overflow
long_row builder value large =
    let long : is_short_value value ≡ false = grind (arith, nat_tests) in
    let test : nat_le (2 ^ 32) (length value) ≡ true = grind (arith, nat_tests) in
    rw (long, test) refl

-- a value that is too long, wherever it comes
pub long_rows : (builder : ViewBuilder) (rows : List (Option (List ℕ))) (i : ℕ) (value : List ℕ) → slice_get rows i ≡ Some (Some value) → 2 ^ 32 ≤ length value → growth_fault row_growth builder rows ≡ Some Overflow
long_rows builder [] i value at large = absurd (cc)
long_rows builder (None ∷ rows) zero value at large = absurd (cc)
long_rows builder (Some first ∷ rows) zero value at large =
    let same : first ≡ value = cc in
    let fault = long_row builder first (subst (λ (v : List ℕ). 2 ^ 32 ≤ length v) (sym same) large) in
    ap (λ (f : Option Cause). f or_else growth_fault row_growth (pushed_row builder (Some first)) rows) fault
long_rows builder (row ∷ rows) (suc i) value at large =
    long_first (row_fault builder row) (growth_fault row_growth (pushed_row builder row) rows) (overflow_alone builder row) (long_rows (pushed_row builder row) rows i value at large)

-- a row that fits is refused where there are as many buffers as there may be, and would have written one
full_row : (builder : ViewBuilder) (row : Option (List ℕ)) (cause : Cause) → FitsView row → row_fault builder row ≡ Some cause → (MAX_BUFFERS ≤ length (buffers_of builder.bytes.blocks)) × (length (written_row row) ≡ 1)
full_row builder None cause fits is = absurd (cc)
full_row builder (Some value) cause fits is =
    let large : nat_le (2 ^ 32) (length value) ≡ false = grind (arith, nat_tests) in
    let told = refused_if (is_short_value value) (nat_le (2 ^ 32) (length value)) (nat_le MAX_BUFFERS (length (buffers_of builder.bytes.blocks))) cause large is in
    let full : MAX_BUFFERS ≤ length (buffers_of builder.bytes.blocks) = let test = told.1 in grind (arith, nat_tests) in
    (full, one_long value told.0)

-- a row adds at most one buffer, where it is long
row_buffers : (builder : ViewBuilder) (row : Option (List ℕ)) → length (buffers_of (pushed_row builder row).bytes.blocks) ≤ length (buffers_of builder.bytes.blocks) + length (written_row row)
row_buffers builder None = omega arith
row_buffers builder (Some value) = (appends-stored builder.bytes.blocks value).count

many_first : (builder : ViewBuilder) (row : Option (List ℕ)) (rows : List (Option (List ℕ))) (first second : Option Cause) (cause : Cause) → FitsView row → row_fault builder row ≡ first
    → (second ≡ Some cause → MAX_BUFFERS < length (buffers_of (pushed_row builder row).bytes.blocks) + length (written_rows rows))
    → first or_else second ≡ Some cause → MAX_BUFFERS < length (buffers_of builder.bytes.blocks) + (length (written_row row) + length (written_rows rows))
many_first builder row rows None second cause fits at rest is = let more = row_buffers builder row in let many = rest is in omega arith
many_first builder row rows (Some c) second cause fits at rest is = let full = full_row builder row c fits at in let most = full.0 in let one = full.1 in omega arith

pub many_rows : (builder : ViewBuilder) (rows : List (Option (List ℕ))) (cause : Cause) → All FitsView rows → growth_fault row_growth builder rows ≡ Some cause → MAX_BUFFERS < length (buffers_of builder.bytes.blocks) + length (written_rows rows)
many_rows builder [] cause fits is = absurd (cc)
many_rows builder (row ∷ rows) cause fits is =
    let count = ap length (flat_map-cons written_row row rows) ∙ length-append (written_row row) (written_rows rows) in
    let many = many_first builder row rows (row_fault builder row) (growth_fault row_growth (pushed_row builder row) rows) cause (All-head FitsView row rows fits) refl
    (many_rows (pushed_row builder row) rows cause (All-tail FitsView row rows fits)) is in
    omega arith

pub rows_refused : (builder : ViewBuilder) (rows : List (Option (List ℕ))) (cause : Cause) → All FitsView rows → growth_fault row_growth builder rows ≡ Some cause
    → (cause ≡ Overflow) × (MAX_BUFFERS < length (buffers_of builder.bytes.blocks) + length (written_rows rows))
rows_refused builder rows cause fits is = (overflow_rows builder rows cause is, many_rows builder rows cause fits is)

-- ---- long slots that are refused

gather_if : (none : Bool) (fault : Option Cause) (cause : Cause) → (if none then None else fault) ≡ Some cause → fault ≡ Some cause
gather_if true fault cause is = absurd (cc)
gather_if false fault cause is = is

pub slots_refused : (lists : ViewLists) (cause : Cause) → All (λ (value : List ℕ). length value < 2 ^ 32) (values_of (view_slots lists)) → gather_fault lists ≡ Some cause → (cause ≡ Overflow) × (MAX_BUFFERS < length (long_slots lists))
slots_refused lists cause fits is =
    let values = values_of (view_slots lists) in
    let refused = gather_if (length lists.buffers == 0) (growth_fault row_growth no_slots (map Some values)) cause is in
    let many = many_rows no_slots (map Some values) cause (All-map FitsView Some values fits) refused in
    let none : length (buffers_of (blocks_of [])) ≡ 0 = ap length no_buffers in
    let count : length (written_rows (map Some values)) ≡ length (long_slots lists) = ap length (written_rows-values values) in
    (overflow_rows no_slots (map Some values) cause refused, omega arith)

number_below : (a b c d n : ℕ) → a < 256 → b < 256 → c < 256 → d < 256 → n ≡ a + b * 256 + c * 65536 + d * 16777216 → n < 2 ^ 32
number_below a b c d n first second third fourth is = omega arith

length_below : (view : List ℕ) → length view ≡ 16 → ((i : ℕ) → slice_index_or view i 0 < 256) → view_length view < 2 ^ 32
unfolding view_length
length_below [] count small = absurd (omega arith)
length_below (a ∷ []) count small = absurd (omega arith)
length_below (a ∷ b ∷ []) count small = absurd (omega arith)
length_below (a ∷ b ∷ c ∷ []) count small = absurd (omega arith)
length_below (a ∷ b ∷ c ∷ d ∷ rest) count small = number_below a b c d (view_length (a ∷ b ∷ c ∷ d ∷ rest)) (small 0) (small 1) (small 2) (small 3) refl

contents_below : (views buffers : List (List ℕ)) → All IsView views → All (λ (value : List ℕ). length value < 2 ^ 32) (contents views buffers)
contents_below [] buffers are = All-nil (λ (value : List ℕ). length value < 2 ^ 32)
contents_below (view ∷ views) buffers are =
    let is = All-head IsView view views are in
    let most = length-content view buffers in
    let below = length_below view is.count is.bytes in
    All-cons (λ (value : List ℕ). length value < 2 ^ 32) (view_content view buffers) (contents views buffers) (omega arith) (contents_below views buffers (All-tail IsView view views are))

pub views_refused : (text : Bool) (lists : ViewLists) (cause : Cause) → AreSoundViews text lists → All IsView lists.views → gather_fault lists ≡ Some cause → (cause ≡ Overflow) × (MAX_BUFFERS < length (long_slots lists))
views_refused text lists cause sound are is =
    slots_refused lists cause (subst (All (λ (value : List ℕ). length value < 2 ^ 32)) (sym (values_of-view_slots lists sound.flagged)) (contents_below lists.views lists.buffers are)) is

-- ---- one slot after another

pub values_more : (slots : List Slot) (i : ℕ) → i < length slots → take (i + 1) (values_of slots) ≡ take i (values_of slots) ++ (slot_at slots i).bytes ∷ []
values_more [] i within = absurd (omega arith)
values_more (slot ∷ slots) zero within = refl
values_more (slot ∷ slots) (suc i) within =
    let e : suc i + 1 ≡ suc (i + 1) = omega arith in
    rw e (ap (λ (rest : List (List ℕ)). slot.bytes ∷ rest) (values_more slots i (omega arith)))

pub values_split : (slots : List Slot) (i : ℕ) → i < length slots → values_of slots ≡ take i (values_of slots) ++ (slot_at slots i).bytes ∷ drop (i + 1) (values_of slots)
values_split [] i within = absurd (omega arith)
values_split (slot ∷ slots) zero within = refl
values_split (slot ∷ slots) (suc i) within =
    let e : suc i + 1 ≡ suc (i + 1) = omega arith in
    rw e (ap (λ (rest : List (List ℕ)). slot.bytes ∷ rest) (values_split slots i (omega arith)))

-- an error that is Overflow has a cause
pub told : {X : Type 0} (error : PolarsError) (fault : Option Cause) (P : X → Type 0) → Answers {X = X} (Err error) fault P → error ≡ ComputeError Overflow → (cause : Cause) × (fault ≡ Some cause)
told (ComputeError cause) fault P given is = (cause, given.0)
told (OutOfBounds cause) fault P given is = (cause, given.0)
told NoMemory fault P given is = absurd (cc)

pub copied_more : (builder next : ViewBuilder) (slots : List Slot) (i : ℕ) (value : List ℕ) → Stands row_growth no_slots builder (map Some (take i (values_of slots))) → i < length slots → value ≡ (slot_at slots i).bytes
    → row_growth.fault builder (Some value) ≡ None → next ≡ row_growth.pushed builder (Some value) → Stands row_growth no_slots next (map Some (take (i + 1) (values_of slots)))
copied_more builder next slots i value at within is none next_is =
    let more = values_more slots i within ∙ ap (λ (bytes : List ℕ). take i (values_of slots) ++ bytes ∷ []) (sym is) in
    subst (λ (values : List (List ℕ)). Stands row_growth no_slots next (map Some values)) (sym more)
    (shown_more row_growth Some no_slots builder next (take i (values_of slots)) value at none next_is)

values_at : (slots : List Slot) (i : ℕ) (value : List ℕ) → i < length slots → value ≡ (slot_at slots i).bytes → values_of slots ≡ take i (values_of slots) ++ value ∷ drop (i + 1) (values_of slots)
values_at slots i value within is = values_split slots i within ∙ ap (λ (bytes : List ℕ). take i (values_of slots) ++ bytes ∷ drop (i + 1) (values_of slots)) (sym is)

pub copied_refused : (builder : ViewBuilder) (slots : List Slot) (i : ℕ) (value : List ℕ) (cause : Cause) → Stands row_growth no_slots builder (map Some (take i (values_of slots))) → i < length slots → value ≡ (slot_at slots i).bytes
    → row_growth.fault builder (Some value) ≡ Some cause → growth_fault row_growth no_slots (map Some (values_of slots)) ≡ Some cause
copied_refused builder slots i value cause at within is refused =
    let whole = ap (map Some) (values_at slots i value within is) ∙ map-append Some (take i (values_of slots)) (value ∷ drop (i + 1) (values_of slots)) in
    subst (λ (rows : List (Option (List ℕ))). growth_fault row_growth no_slots rows ≡ Some cause) (sym whole)
    (stands_refused row_growth no_slots builder (map Some (take i (values_of slots))) (map Some (drop (i + 1) (values_of slots))) (Some value) cause at refused)

pub copied_full : (builder : ViewBuilder) (slots : List Slot) (i : ℕ) (value : List ℕ) (cause : Cause) → Stands row_growth no_slots builder (map Some (take i (values_of slots))) → i < length slots → value ≡ (slot_at slots i).bytes → length value < 2 ^ 32
    → row_growth.fault builder (Some value) ≡ Some cause → MAX_BUFFERS < length (flat_map written_values (values_of slots))
copied_full builder slots i value cause at within is small refused =
    subst (λ (values : List (List ℕ)). MAX_BUFFERS < length (flat_map written_values values)) (sym (values_at slots i value within is))
    (too_many builder (take i (values_of slots)) (drop (i + 1) (values_of slots)) value cause at small refused)
