-- How many buffers steps leave: no more than there were and the step wrote.
use Rattle.std.proofs.Common.{◌≡◌, ℕ, zero, suc, ◌+◌, ◌-◌, ◌<◌, ◌≤◌, Bool, true, false, List, [], ◌∷◌, ◌++◌, length, map, Option, Some, None, MatchBool, refl, sym, ◌∙◌, ap, arith}
use Rattle.std.specs.Prelude.{if◌then◌else◌, ◌==◌}
use Rattle.std.specs.List.{flat_map}
use Rattle.std.proofs.lemmas.List.{length-take, length-drop}
use Rattle.column_base.specs.Kinds.{Slot, ColumnKind}
use Rattle.column_base.specs.Slots.{values_of, rows_of}
use Rattle.column_storage.specs.declared.data_buffers.TheConstants.{MAX_BUFFERS}
use Rattle.column_blocks.specs.Blocks.{written_values}
use Rattle.column_binary.specs.Rows.{slot_of}
use Rattle.column_binview.specs.Slots.{ViewLists, sliced_views, view_slots}
use Rattle.column_binview.specs.Builders.{written_row, written_rows}
use Rattle.column_binview.specs.Gathered.{IsGathered, long_slots}
use Rattle.column_relayout.specs.declared.kind.Kind.{Kind}
use Rattle.column_relayout.specs.declared.steps.Step.{Step}
use Rattle.column_relayout.specs.declared.steps.Step.TheVariants.{Slice, Left, Right, ToUtf8, ToBinary, Gc, Dedupe, Append, Rebuild}
use Rattle.column_relayout.specs.Kinds.{kind_of, has_views, slot_width, view_kind}
use Rattle.column_relayout.specs.Columns.{RawLists, offset_column, view_column, fixed_column, number_column, column_kind, slots_of, count_of, part_of, retyped, IsWellFormed}
use Rattle.column_relayout.specs.Written.{slots_in}
use Rattle.column_deduped.proofs.DedupedLemmas.{fewer-deduped}
use Rattle.column_relayout.specs.Plans.{kind_after, slots_after, light_step}
use Rattle.column_relayout.specs.Buffers.{buffers_of, written_by, kept_buffers, PassesAt}
use Rattle.column_relayout.specs.Steps as steps
use Rattle.column_relayout.specs.Steps.{IsWritten, IsDeduped, IsAppended, StepsTo}
use Rattle.column_relayout.proofs.ColumnsLemmas.{no_views, views_are}

-- the bound is passed with more buffers too
pub passes_more : (k a b : ℕ) (kind : ColumnKind) (slots : List Slot) (plan : List Step) → a ≤ b → PassesAt k a kind slots plan → PassesAt k b kind slots plan
passes_more k a b kind slots [] le passes = passes
passes_more zero a b kind slots (step ∷ plan) le passes =
    let past : MAX_BUFFERS < a + length (written_by kind slots step) = passes.2 in
    (passes.0, passes.1, omega arith)
passes_more (suc k) a b kind slots (step ∷ plan) le passes =
    (passes.0, passes_more k (a + length (written_by kind slots step)) (b + length (written_by kind slots step)) (kind_after kind step) (slots_after kind slots step) plan (omega arith) passes.1)

pub kept_few : (column : RawLists) (step : Step) → kept_buffers column step ≤ length (buffers_of column)
kept_few column (Slice from n) = omega arith
kept_few column (Left n) = omega arith
kept_few column (Right n) = omega arith
kept_few column ToUtf8 = omega arith
kept_few column ToBinary = omega arith
kept_few column Gc = omega arith
kept_few column Dedupe = omega arith
kept_few column (Append rows) = omega arith
kept_few column (Rebuild next) = omega arith

-- ---- light steps

buffers-part : (column : RawLists) (from n : ℕ) → buffers_of (part_of column from n) ≡ buffers_of column
unfolding sliced_views
buffers-part (offset_column large text lists) from n = refl
buffers-part (view_column text lists) from n = refl
buffers-part (fixed_column lists) from n = refl
buffers-part (number_column array) from n = refl

buffers-retyped : (column : RawLists) (text : Bool) → buffers_of (retyped text column) ≡ buffers_of column
buffers-retyped (offset_column large old lists) text = refl
buffers-retyped (view_column old lists) text = refl
buffers-retyped (fixed_column lists) text = refl
buffers-retyped (number_column array) text = refl

-- lists that are a part, or retyped
grow_light : (old new : RawLists) (n : ℕ) → buffers_of new ≡ buffers_of old → length (buffers_of new) ≤ length (buffers_of old) + n
grow_light old new n is = let same = ap length is in omega arith

-- ---- steps that write

-- the long slots that rows are written to are the long rows
long_row : (row : Option (List ℕ)) → written_values (slot_of row).bytes ≡ written_row row
long_row None = refl
long_row (Some bytes) = refl

pub long_rows : (rows : List (Option (List ℕ))) → flat_map written_values (values_of (map slot_of rows)) ≡ written_rows rows
long_rows [] = refl
long_rows (row ∷ rows) = ap (λ (front : List (List ℕ)). front ++ flat_map written_values (values_of (map slot_of rows))) (long_row row) ∙ ap (λ (back : List (List ℕ)). written_row row ++ back) (long_rows rows)

-- the same in a kind of views, where a row has no width
pub without_width : (text : Bool) → slot_width (view_kind text) ≡ None
without_width false = refl
without_width true = refl

long_in : (text : Bool) (rows : List (Option (List ℕ))) → flat_map written_values (values_of (slots_in (view_kind text) rows)) ≡ written_rows rows
long_in text rows = rw (without_width text) (long_rows rows)

few_written : (new : RawLists) (kind : ColumnKind) (rows : List (Option (List ℕ))) → column_kind new ≡ kind → slots_of new ≡ slots_in kind rows → IsWritten new → length (buffers_of new) ≤ length (if has_views kind then written_rows rows else [])
few_written (offset_column large text lists) kind rows is same written = omega arith
few_written (view_column text lists) kind rows is same written =
    let long : flat_map written_values (values_of (view_slots lists)) ≡ written_rows rows =
    ap (λ (slots : List Slot). flat_map written_values (values_of slots)) (same ∙ ap (λ (k : ColumnKind). slots_in k rows) (sym is)) ∙ long_in text rows in
    let view : has_views kind ≡ true = ap has_views (sym is) ∙ views_are text in
    let size = ap length long in
    let few = written.count in
    rw view (omega (arith, size, few))
few_written (fixed_column lists) kind rows is same written = omega arith
few_written (number_column array) kind rows is same written = omega arith

few_by : (before after : ViewLists) (test : Bool) → MatchBool test (after ≡ before) (IsGathered before after) → length after.buffers ≤ length before.buffers + length (long_slots before)
few_by before after true same = let size = ap (λ (lists : ViewLists). length lists.buffers) same in omega arith
few_by before after false gathered = let few = gathered.count in omega arith

few_gathered : (old new : RawLists) → steps.IsGathered old new → length (buffers_of new) ≤ length (buffers_of old) + length (written_by (column_kind old) (slots_of old) Gc)
few_gathered (offset_column large text before) new laid = absurd laid
few_gathered (view_column text before) (offset_column large texts after) laid = absurd laid
few_gathered (view_column text before) (view_column texts after) laid = few_by before after (length before.buffers == 0) laid
few_gathered (view_column text before) (fixed_column after) laid = absurd laid
few_gathered (view_column text before) (number_column after) laid = absurd laid
few_gathered (fixed_column before) new laid = absurd laid
few_gathered (number_column before) new laid = absurd laid

few_deduped : (old new : RawLists) → IsWellFormed old → IsDeduped old new → length (buffers_of new) ≤ length (buffers_of old)
few_deduped (offset_column large text before) new formed laid = absurd laid
few_deduped (view_column text before) new formed laid = let size = ap (λ (column : RawLists). length (buffers_of column)) laid in let few = fewer-deduped text before formed.sound in omega (arith, size, few)
few_deduped (fixed_column before) new formed laid = absurd laid
few_deduped (number_column before) new formed laid = absurd laid

-- lists of another kind have no buffers
none_without : (new : RawLists) → has_views (column_kind new) ≡ false → length (buffers_of new) ≡ 0
none_without (offset_column large text lists) none = refl
none_without (view_column text lists) none = absurd (let one : true ≡ false = sym (views_are text) ∙ none in cc)
none_without (fixed_column lists) none = refl
none_without (number_column array) none = refl

few_appended : (old new : RawLists) (rows : List (Option (List ℕ))) → column_kind new ≡ column_kind old → IsAppended old rows new → length (buffers_of new) ≤ length (buffers_of old) + length (if has_views (column_kind old) then written_rows rows else [])
few_appended (offset_column large text before) new rows kind laid = let none = none_without new (ap has_views kind ∙ no_views large text) in omega arith
few_appended (view_column text before) (offset_column large texts after) rows kind laid = absurd laid
few_appended (view_column text before) (view_column texts after) rows kind laid =
    let front = ap length laid.buffers in
    let size = length-take (length before.buffers) after.buffers in
    let rest = length-drop (length before.buffers) after.buffers in
    let few = laid.further.count in
    let all : length after.buffers ≤ length before.buffers + length (written_rows rows) = omega arith in
    rw (views_are text) all
few_appended (view_column text before) (fixed_column after) rows kind laid = absurd laid
few_appended (view_column text before) (number_column after) rows kind laid = absurd laid
few_appended (fixed_column before) new rows kind laid = let none = none_without new (ap has_views kind) in omega arith
few_appended (number_column before) new rows kind laid = let none = none_without new (ap has_views kind) in omega arith

rebuilt_slots : (kind : ColumnKind) (slots : List Slot) (next : Kind) → slots_after kind slots (Rebuild next) ≡ slots_in (kind_of next) (rows_of slots)
unfolding slots_after
rebuilt_slots kind slots next = refl

-- a step leaves no more buffers than there were and it writes
pub buffers_grow : (old new : RawLists) (step : Step) → IsWellFormed old → StepsTo old step new → length (buffers_of new) ≤ length (buffers_of old) + length (written_by (column_kind old) (slots_of old) step)
unfolding light_step
buffers_grow old new (Slice from n) formed steps = grow_light old new 0 (ap buffers_of steps.laid ∙ buffers-part old from n)
buffers_grow old new (Left n) formed steps = grow_light old new 0 (ap buffers_of steps.laid ∙ buffers-part old 0 n)
buffers_grow old new (Right n) formed steps = grow_light old new 0 (ap buffers_of steps.laid ∙ buffers-part old n (count_of old - n))
buffers_grow old new ToUtf8 formed steps = grow_light old new 0 (ap buffers_of steps.laid ∙ buffers-retyped old true)
buffers_grow old new ToBinary formed steps = grow_light old new 0 (ap buffers_of steps.laid ∙ buffers-retyped old false)
buffers_grow old new Gc formed steps = few_gathered old new steps.laid
buffers_grow old new Dedupe formed steps = let few = few_deduped old new formed steps.laid in omega arith
buffers_grow old new (Append rows) formed steps = few_appended old new rows steps.kind steps.laid
buffers_grow old new (Rebuild next) formed steps =
    let few = few_written new (kind_of next) (rows_of (slots_of old)) steps.kind (steps.slots ∙ rebuilt_slots (column_kind old) (slots_of old) next) steps.laid in
    omega arith
