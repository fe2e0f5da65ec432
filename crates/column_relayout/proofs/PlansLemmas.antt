-- How far a plan has come: the facts that a loop over its steps keeps. And what follows from the steps of a plan.
use Rattle.std.proofs.Common.{◌≡◌, ℕ, suc, ◌+◌, ◌<◌, ◌≤◌, Bool, true, false, List, [], ◌∷◌, ◌++◌, length, drop, get_or, Option, Some, None, MatchBool, Err, refl, sym, ◌∙◌, ap, subst, ◌-◌, inl, inr, arith}
use Rattle.std.proofs.lemmas.List.{at_drop_all, drop_more}
use Rattle.column_base.specs.declared.errors.Cause.{Cause}
use Rattle.column_base.specs.Kinds.{Slot, ColumnKind}
use Rattle.column_base.specs.Kinds as kinds
use Rattle.column_base.specs.declared.errors.PolarsError.{PolarsError}
use Rattle.column_base.specs.declared.errors.PolarsError.TheVariants.{ComputeError, OutOfBounds, NoMemory}
use Rattle.column_binary.specs.Slots.{offset_slots, sliced_lists}
use Rattle.column_binview.specs.Slots.{ViewLists, sliced_views}
use Rattle.std.specs.List.{range_with_len}
use Rattle.column_deduped.specs.Deduped.{deduped, named}
use Rattle.column_deduped.proofs.DedupedLemmas.{names-deduped}
use Rattle.column_relayout.specs.declared.columns.ColumnError.{ColumnError}
use Rattle.column_relayout.specs.declared.columns.ColumnError.TheVariants as refusals
use Rattle.column_relayout.specs.declared.steps.Step.{Step}
use Rattle.column_relayout.specs.declared.steps.Step.TheVariants.{Slice, Left, Right, ToUtf8, ToBinary, Gc, Dedupe, Append, Rebuild}
use Rattle.column_relayout.specs.Kinds.{is_text, has_views, slot_width, offset_kind, view_kind}
use Rattle.column_relayout.specs.Columns.{RawLists, offset_column, view_column, fixed_column, number_column, column_kind, slots_of, count_of, parts_fault, part_of, retyped, shared_bytes, IsWellFormed}
use Rattle.column_relayout.specs.Plans.{step_fault, kind_after, slots_after, leads, faults, at_fault, meaning_from, plan_meaning, is_light, IsLight, ReachesHeavy, light_step, light_lists}
use Rattle.column_relayout.specs.Written.{written_lists}
use Rattle.column_relayout.specs.Buffers.{buffers_of, kept_buffers, PassesAt, Passes}
use Rattle.column_relayout.specs.Steps.{IsWritten, IsGathered, IsDeduped, IsAppended, IsLaid, StepsTo, Relays}
use Rattle.column_relayout.specs.Relayouts.{RefusesStep, StepAnswers, step_error, IsAnswered, RefusesPlan, Relayouts}
use Rattle.column_relayout.proofs.ColumnsLemmas.{text_is, no_views, views_are, widthless}
use Rattle.column_relayout.proofs.BuffersLemmas.{passes_more, buffers_grow, kept_few}

-- ---- what the steps of a plan say

pub light_laid : (old new : RawLists) (step : Step) → is_light step ≡ true → IsLaid old step new → new ≡ light_step old step
light_laid old new (Slice from n) light laid = laid
light_laid old new (Left n) light laid = laid
light_laid old new (Right n) light laid = laid
light_laid old new ToUtf8 light laid = laid
light_laid old new ToBinary light laid = laid
light_laid old new Gc light laid = absurd (cc)
light_laid old new Dedupe light laid = absurd (cc)
light_laid old new (Append rows) light laid = absurd (cc)
light_laid old new (Rebuild next) light laid = absurd (cc)

pub light_relays : (start end : RawLists) (plan : List Step) → Relays start plan end → IsLight plan → end ≡ light_lists start plan
light_relays start end [] relays light = relays
light_relays start end (step ∷ plan) relays light =
    light_relays relays.1.0 end plan relays.1.2 light.1
    ∙ ap (λ (column : RawLists). light_lists column plan) (light_laid start relays.1.0 step light.0 relays.1.1.laid)

shared-part : (column : RawLists) (from n : ℕ) → shared_bytes (part_of column from n) ≡ shared_bytes column
unfolding sliced_lists sliced_views
shared-part (offset_column large text lists) from n = refl
shared-part (view_column text lists) from n = refl
shared-part (fixed_column lists) from n = refl
shared-part (number_column array) from n = refl

shared-retyped : (column : RawLists) (text : Bool) → shared_bytes (retyped text column) ≡ shared_bytes column
shared-retyped (offset_column large old lists) text = refl
shared-retyped (view_column old lists) text = refl
shared-retyped (fixed_column lists) text = refl
shared-retyped (number_column array) text = refl

shared-step : (column : RawLists) (step : Step) → shared_bytes (light_step column step) ≡ shared_bytes column
unfolding light_step
shared-step column (Slice from n) = shared-part column from n
shared-step column (Left n) = shared-part column 0 n
shared-step column (Right n) = shared-part column n (count_of column - n)
shared-step column ToUtf8 = shared-retyped column true
shared-step column ToBinary = shared-retyped column false
shared-step column Gc = refl
shared-step column Dedupe = refl
shared-step column (Append rows) = refl
shared-step column (Rebuild next) = refl

pub shared_steps : (column : RawLists) (plan : List Step) → shared_bytes (light_lists column plan) ≡ shared_bytes column
shared_steps column [] = refl
shared_steps column (step ∷ plan) = shared_steps (light_step column step) plan ∙ shared-step column step

pub light_keeps : (start end : RawLists) (plan : List Step) → Relays start plan end → IsLight plan → shared_bytes end ≡ shared_bytes start
light_keeps start end plan relays light = ap shared_bytes (light_relays start end plan relays light) ∙ shared_steps start plan

meaning_relays : (at : ℕ) (start end : RawLists) (plan : List Step) → Relays start plan end → meaning_from at (column_kind start) (slots_of start) plan ≡ leads (column_kind end) (slots_of end)
meaning_relays at start end [] relays = ap (λ (column : RawLists). leads (column_kind column) (slots_of column)) (sym relays)
meaning_relays at start end (step ∷ plan) relays =
    let middle = relays.1.0 in
    let steps = relays.1.1 in
    ap (λ (fault : Option Cause). at_fault fault at (meaning_from (at + 1) (kind_after (column_kind start) step) (slots_after (column_kind start) (slots_of start) step) plan)) relays.0
    ∙ ap (λ (kind : ColumnKind). meaning_from (at + 1) kind (slots_after (column_kind start) (slots_of start) step) plan) (sym steps.kind)
    ∙ ap (λ (slots : List Slot). meaning_from (at + 1) (column_kind middle) slots plan) (sym steps.slots)
    ∙ meaning_relays (at + 1) middle end plan relays.1.2

pub relays_lead : (start end : RawLists) (plan : List Step) → Relays start plan end → plan_meaning start plan ≡ leads (column_kind end) (slots_of end)
relays_lead start end plan relays = meaning_relays 0 start end plan relays

-- the steps of two plans in a row
pub relays_split : (start end : RawLists) (plan more : List Step) → Relays start (plan ++ more) end → (middle : RawLists) × Relays start plan middle × Relays middle more end
relays_split start end [] more relays = (start, refl, relays)
relays_split start end (step ∷ plan) more relays =
    let rest = relays_split relays.1.0 end plan more relays.1.2 in
    (rest.0, (relays.0, (relays.1.0, relays.1.1, rest.1)), rest.2)

relays_join : (start middle end : RawLists) (plan more : List Step) → Relays start plan middle → Relays middle more end → Relays start (plan ++ more) end
relays_join start middle end [] more first second = subst (λ (column : RawLists). Relays column more end) first second
relays_join start middle end (step ∷ plan) more first second =
    (first.0, (first.1.0, first.1.1, relays_join first.1.0 middle end plan more first.1.2 second))

-- the last step of a plan
pub last_step : (start end : RawLists) (plan : List Step) (step : Step) → Relays start (plan ++ step ∷ []) end → (old : RawLists) × Relays start plan old × StepsTo old step end
last_step start end plan step relays =
    let halves = relays_split start end plan (step ∷ []) relays in
    (halves.0, halves.1, subst (StepsTo halves.0 step) (sym halves.2.1.2) halves.2.1.1)

pub last_after_light : (start end : RawLists) (light : List Step) (step : Step) → Relays start (light ++ step ∷ []) end → IsLight light → StepsTo (light_lists start light) step end
last_after_light start end light step relays all =
    let last = last_step start end light step relays in
    subst (λ (old : RawLists). StepsTo old step end) (light_relays start last.0 light last.1 all) last.2

-- steps leave well-formed lists
relays_formed : (start end : RawLists) (plan : List Step) → IsWellFormed start → Relays start plan end → IsWellFormed end
relays_formed start end [] formed relays = subst IsWellFormed (sym relays) formed
relays_formed start end (step ∷ plan) formed relays = relays_formed relays.1.0 end plan relays.1.1.well_formed relays.1.2

same_views : (text other : Bool) (lists others : ViewLists) → view_column text lists ≡ view_column other others → lists ≡ others
same_views text other lists others same = cc

deduped_names : (old : RawLists) (text : Bool) (lists : ViewLists) → IsWellFormed old → IsDeduped old (view_column text lists) → named lists.views ≡ range_with_len 0 (length lists.buffers)
deduped_names (offset_column large texts before) text lists formed laid = absurd laid
deduped_names (view_column texts before) text lists formed laid =
    subst (λ (ls : ViewLists). named ls.views ≡ range_with_len 0 (length ls.buffers)) (sym (same_views text texts lists (deduped before) laid)) (names-deduped texts before formed.sound)
deduped_names (fixed_column before) text lists formed laid = absurd laid
deduped_names (number_column before) text lists formed laid = absurd laid

pub last_dedupe : (start : RawLists) (plan : List Step) (text : Bool) (lists : ViewLists) → IsWellFormed start → Relays start (plan ++ Dedupe ∷ []) (view_column text lists) → named lists.views ≡ range_with_len 0 (length lists.buffers)
last_dedupe start plan text lists formed relays =
    let last = last_step start (view_column text lists) plan Dedupe relays in
    deduped_names last.0 text lists (relays_formed start last.0 plan formed last.1) last.2.laid

-- the light steps after a step cut what it left
pub cut_after_step : (start end : RawLists) (plan light : List Step) (step : Step) → Relays start (plan ++ step ∷ light) end → IsLight light → (old : RawLists) × ((middle : RawLists) × Relays start plan old × StepsTo old step middle × (end ≡ light_lists middle light))
cut_after_step start end plan light step relays all =
    let halves = relays_split start end plan (step ∷ light) relays in
    (halves.0, (halves.2.1.0, halves.1, halves.2.1.1, light_relays halves.2.1.0 end light halves.2.1.2 all))

-- ---- what is written

is_large : ColumnKind → Bool
is_large kinds.Binary64 = true
is_large kinds.Utf8_64 = true
is_large kind = false

large_is : (large text : Bool) → is_large (offset_kind large text) ≡ large
unfolding is_large
large_is false false = refl
large_is false true = refl
large_is true false = refl
large_is true true = refl

-- a kind tells both flags
same_flags : (a b c d : Bool) → offset_kind a b ≡ offset_kind c d → (a ≡ c) × (b ≡ d)
same_flags a b c d same = (
  sym (large_is a b) ∙ ap is_large same ∙ large_is c d,
  sym (text_is a b) ∙ ap is_text same ∙ text_is c d,
)

no_view : (text large texts : Bool) → view_kind text ≡ offset_kind large texts → ⊥
no_view text large texts same = let one : true ≡ false = sym (views_are text) ∙ ap has_views same ∙ no_views large texts in absurd (cc)

no_width : (kind : ColumnKind) (width : ℕ) (large text : Bool) → kind ≡ offset_kind large text → slot_width kind ≡ Some width → ⊥
no_width kind width large text same wide = let one : Some width ≡ None = sym wide ∙ ap slot_width same ∙ widthless large text in absurd (cc)

-- what is written has offsets
written_is : (new : RawLists) (large text : Bool) → column_kind new ≡ offset_kind large text → IsWritten new → new ≡ offset_column large text (written_lists (slots_of new))
written_is (offset_column wide texts lists) large text kind written =
    let flags = same_flags wide texts large text kind in
    ap (offset_column wide texts) written
    ∙ ap (λ (l : Bool). offset_column l texts (written_lists (offset_slots lists))) flags.0
    ∙ ap (λ (t : Bool). offset_column large t (written_lists (offset_slots lists))) flags.1
written_is (view_column texts lists) large text kind written = absurd (no_view texts large text kind)
written_is (fixed_column lists) large text kind written = absurd (no_width (kinds.Fixed lists.width) lists.width large text kind refl)
written_is (number_column array) large text kind written = absurd (no_width kinds.Int64 8 large text kind refl)

-- what a heavy step leaves of lists with offsets is written
append_writes : (old new : RawLists) (rows : List (Option (List ℕ))) (large text : Bool) → column_kind old ≡ offset_kind large text → IsAppended old rows new → IsWritten new
append_writes (offset_column wide texts lists) new rows large text kind laid = laid
append_writes (view_column texts lists) new rows large text kind laid = absurd (no_view texts large text kind)
append_writes (fixed_column lists) new rows large text kind laid = absurd (no_width (kinds.Fixed lists.width) lists.width large text kind refl)
append_writes (number_column array) new rows large text kind laid = absurd (no_width kinds.Int64 8 large text kind refl)

gather_writes : (old new : RawLists) (large text : Bool) → column_kind old ≡ offset_kind large text → IsGathered old new → IsWritten new
gather_writes (offset_column wide texts lists) new large text kind laid = absurd laid
gather_writes (view_column texts lists) new large text kind laid = absurd (no_view texts large text kind)
gather_writes (fixed_column lists) new large text kind laid = absurd laid
gather_writes (number_column array) new large text kind laid = absurd laid

dedupe_writes : (old new : RawLists) (large text : Bool) → column_kind old ≡ offset_kind large text → IsDeduped old new → IsWritten new
dedupe_writes (offset_column wide texts lists) new large text kind laid = absurd laid
dedupe_writes (view_column texts lists) new large text kind laid = absurd (no_view texts large text kind)
dedupe_writes (fixed_column lists) new large text kind laid = absurd laid
dedupe_writes (number_column array) new large text kind laid = absurd laid

heavy_writes : (old new : RawLists) (step : Step) (large text : Bool) → is_light step ≡ false → column_kind new ≡ offset_kind large text → StepsTo old step new → IsWritten new
heavy_writes old new (Slice from n) large text heavy kind steps = absurd (cc)
heavy_writes old new (Left n) large text heavy kind steps = absurd (cc)
heavy_writes old new (Right n) large text heavy kind steps = absurd (cc)
heavy_writes old new ToUtf8 large text heavy kind steps = absurd (cc)
heavy_writes old new ToBinary large text heavy kind steps = absurd (cc)
heavy_writes old new Gc large text heavy kind steps = gather_writes old new large text (sym steps.kind ∙ kind) steps.laid
heavy_writes old new Dedupe large text heavy kind steps = dedupe_writes old new large text (sym steps.kind ∙ kind) steps.laid
heavy_writes old new (Append rows) large text heavy kind steps = append_writes old new rows large text (sym steps.kind ∙ kind) steps.laid
heavy_writes old new (Rebuild next) large text heavy kind steps = steps.laid

same_kind : (a b : ColumnKind) (s t : List Slot) → leads a s ≡ leads b t → a ≡ b
same_kind a b s t same = cc

same_slots : (a b : ColumnKind) (s t : List Slot) → leads a s ≡ leads b t → s ≡ t
same_slots a b s t same = cc

pub written_cut : (start end : RawLists) (plan light : List Step) (step : Step) (large text : Bool) (slots : List Slot) → Relays start (plan ++ step ∷ light) end → is_light step ≡ false → IsLight light → plan_meaning start (plan ++ step ∷ []) ≡ leads (offset_kind large text) slots → end ≡ light_lists (offset_column large text (written_lists slots)) light
written_cut start end plan light step large text slots relays heavy all means =
    let halves = relays_split start end plan (step ∷ light) relays in
    let new = halves.2.1.0 in
    let last : Relays halves.0 (step ∷ []) new = (halves.2.0, (new, halves.2.1.1, refl)) in
    let so_far = relays_lead start new (plan ++ step ∷ []) (relays_join start halves.0 new plan (step ∷ []) halves.1 last) in
    let same : leads (column_kind new) (slots_of new) ≡ leads (offset_kind large text) slots = sym so_far ∙ means in
    light_relays new end light halves.2.1.2 all
    ∙ ap (λ (column : RawLists). light_lists column light)
    (written_is new large text (same_kind _ _ _ _ same) (heavy_writes halves.0 new step large text heavy (same_kind _ _ _ _ same) halves.2.1.1) ∙ ap (λ (ss : List Slot). offset_column large text (written_lists ss)) (same_slots _ _ _ _ same))

-- ---- the loop over a plan

-- What the column `now` keeps of the plan, with i steps taken from the start: what is left means the same, reaches a
-- heavy step only where the plan does, leads on to what the plan leads to, and passes the bound on buffers where the plan
-- does.
pub record Reached (start : RawLists) (plan : List Step) (i : ℕ) (now : RawLists) : Type 0 where
  pub rest : meaning_from i (column_kind now) (slots_of now) (drop i plan) ≡ plan_meaning start plan
  pub well_formed : IsWellFormed now
  pub heavy : ReachesHeavy (column_kind now) (slots_of now) (drop i plan) → ReachesHeavy (column_kind start) (slots_of start) plan
  pub laid : (end : RawLists) → Relays now (drop i plan) end → Relays start plan end
  pub passes : (k : ℕ) → Passes now (drop i plan) k → Passes start plan (i + k)

pub reached_start : (start now : RawLists) (plan : List Step) → now ≡ start → IsWellFormed start → Reached start plan 0 now
reached_start start now plan same formed =
    let first : Reached start plan 0 start = record { rest = refl; well_formed = formed; heavy = λ reaches. reaches; laid = λ end relays. relays; passes = λ k passes. let e : 0 + k ≡ k = omega arith in rw e passes } in
    subst (Reached start plan 0) (sym same) first

-- what is left of the plan begins with step i
left_of : (plan : List Step) (i : ℕ) (step : Step) → i < length plan → step ≡ get_or plan i step → step ∷ drop (i + 1) plan ≡ drop i plan
left_of plan i step within is = ap (λ (s : Step). s ∷ drop (i + 1) plan) is ∙ sym (drop_more plan i step within)

-- the fault of step i is the plan's
pub reached_fault : (start now : RawLists) (plan : List Step) (i : ℕ) (step : Step) (cause : Cause) → Reached start plan i now → i < length plan → step ≡ get_or plan i step → step_fault (column_kind now) (slots_of now) step ≡ Some cause → plan_meaning start plan ≡ faults i cause
reached_fault start now plan i step cause reached within is fault =
    let rest = meaning_from (i + 1) (kind_after (column_kind now) step) (slots_after (column_kind now) (slots_of now) step) (drop (i + 1) plan) in
    sym reached.rest
    ∙ ap (meaning_from i (column_kind now) (slots_of now)) (sym (left_of plan i step within is))
    ∙ ap (λ (f : Option Cause). at_fault f i rest) fault

-- why step i is refused is why the plan is
pub reached_refused : (start now : RawLists) (plan : List Step) (i : ℕ) (step : Step) (cause : Cause) → Reached start plan i now → i < length plan → step ≡ get_or plan i step → RefusesStep now step cause → RefusesPlan start plan i cause
reached_refused start now plan i step cause reached within is (inl fault) = inl (reached_fault start now plan i step cause reached within is fault)
reached_refused start now plan i step cause reached within is (inr passed) =
    let kept : kept_buffers now step ≤ length (buffers_of now) = kept_few now step in
    let past = passed.1.2 in
    let here : Passes now (step ∷ drop (i + 1) plan) 0 = (passed.1.0, passed.1.1, omega arith) in
    let e : i + 0 ≡ i = omega arith in
    inr (passed.0, subst (Passes start plan) e (reached.passes 0 (subst (λ (steps : List Step). Passes now steps 0) (left_of plan i step within is) here)))

either : {P : Type 0} (test : Bool) → P → MatchBool test P (Unit {0})
either true p = p
either false p = tt

neither : (P : Type 0) (test : Bool) → (test ≡ true → ⊥) → MatchBool test P (Unit {0})
neither P true heavy = absurd (heavy refl)
neither P false heavy = tt

-- step i is heavy and has no fault
pub reached_heavy : (start now : RawLists) (plan : List Step) (i : ℕ) (step : Step) → Reached start plan i now → i < length plan → step ≡ get_or plan i step → step_fault (column_kind now) (slots_of now) step ≡ None → (is_light step ≡ true → ⊥) → ReachesHeavy (column_kind start) (slots_of start) plan
reached_heavy start now plan i step reached within is none heavy =
    let here : ReachesHeavy (column_kind now) (slots_of now) (step ∷ drop (i + 1) plan) = (none, neither _ (is_light step) heavy) in
    reached.heavy (subst (ReachesHeavy (column_kind now) (slots_of now)) (left_of plan i step within is) here)

-- one step on
pub reached_step : (start now new : RawLists) (plan : List Step) (i : ℕ) (step : Step) → Reached start plan i now → i < length plan → step ≡ get_or plan i step → step_fault (column_kind now) (slots_of now) step ≡ None → StepsTo now step new → Reached start plan (i + 1) new
reached_step start now new plan i step reached within is none steps =
    let rest = drop (i + 1) plan in
    let next = kind_after (column_kind now) step in
    let slots = slots_after (column_kind now) (slots_of now) step in
    let left = left_of plan i step within is in
    record {
      rest =
          ap (λ (k : ColumnKind). meaning_from (i + 1) k (slots_of new) rest) steps.kind
          ∙ ap (λ (ss : List Slot). meaning_from (i + 1) next ss rest) steps.slots
          ∙ ap (λ (f : Option Cause). at_fault f i (meaning_from (i + 1) next slots rest)) (sym none)
          ∙ ap (meaning_from i (column_kind now) (slots_of now)) left
          ∙ reached.rest;
      well_formed = steps.well_formed;
      heavy = λ reaches.
          let here : ReachesHeavy next slots rest =
          subst (λ (ss : List Slot). ReachesHeavy next ss rest) steps.slots
          (subst (λ (k : ColumnKind). ReachesHeavy k (slots_of new) rest) steps.kind reaches) in
          let ahead : ReachesHeavy (column_kind now) (slots_of now) (step ∷ rest) = (none, either (is_light step) here) in
          reached.heavy (subst (ReachesHeavy (column_kind now) (slots_of now)) left ahead);
      laid = λ end relays.
          let ahead : Relays now (step ∷ rest) end = (none, (new, steps, relays)) in
          reached.laid end (subst (λ (steps' : List Step). Relays now steps' end) left ahead);
      passes = λ k passes.
          let here : PassesAt k (length (buffers_of new)) next slots rest =
          subst (λ (ss : List Slot). PassesAt k (length (buffers_of new)) next ss rest) steps.slots
          (subst (λ (kind : ColumnKind). PassesAt k (length (buffers_of new)) kind (slots_of new) rest) steps.kind passes) in
          let ahead : Passes now (step ∷ rest) (suc k) = (none, passes_more k _ _ next slots rest (buffers_grow now new step reached.well_formed steps) here) in
          let e : i + suc k ≡ i + 1 + k = omega arith in
          subst (Passes start plan) e (reached.passes (suc k) (subst (λ (steps' : List Step). Passes now steps' (suc k)) left ahead));
    }

-- the end of the plan
pub reached_end : (start now : RawLists) (plan : List Step) (i : ℕ) → parts_fault start ≡ None → Reached start plan i now → length plan ≤ i → IsAnswered start plan now
reached_end start now plan i sound reached past =
    let none : drop i plan ≡ [] = at_drop_all (λ (steps : List Step). steps) plan i past in
    let here : Relays now [] now = refl in
    let relays = reached.laid now (subst (λ (steps : List Step). Relays now steps now) (sym none) here) in
    record {
      sound = sound;
      meaning = relays_lead start now plan relays;
      well_formed = reached.well_formed;
      light = light_relays start now plan relays;
      laid = relays;
    }

-- a light plan reaches no heavy step
light_reaches_none : (kind : ColumnKind) (slots : List Slot) (plan : List Step) → IsLight plan → ReachesHeavy kind slots plan → ⊥
light_reaches_none kind slots [] light reaches = reaches
light_reaches_none kind slots (step ∷ plan) light reaches =
    let on = subst (λ (test : Bool). MatchBool test (ReachesHeavy (kind_after kind step) (slots_after kind slots step) plan) (Unit {0})) light.0 reaches.1 in
    light_reaches_none (kind_after kind step) (slots_after kind slots step) plan light.1 on

-- the error of step i is the plan's
pub reached_error : (start now : RawLists) (plan : List Step) (i : ℕ) (step : Step) (error : PolarsError) → parts_fault start ≡ None → Reached start plan i now → i < length plan → step ≡ get_or plan i step → StepAnswers now step (Err error) → (is_light step ≡ true → error ≡ NoMemory → ⊥) → Relayouts start plan (Err (step_error i error))
reached_error start now plan i step (ComputeError cause) sound reached within is told heavy = (sound, reached_refused start now plan i step cause reached within is told.0)
reached_error start now plan i step (OutOfBounds cause) sound reached within is told heavy = (sound, reached_refused start now plan i step cause reached within is told.0)
reached_error start now plan i step NoMemory sound reached within is told heavy = (sound, reached_heavy start now plan i step reached within is told (λ (light : is_light step ≡ true). heavy light refl))

-- no light plan wants memory
pub light_error : (start : RawLists) (plan : List Step) (error : ColumnError) → Relayouts start plan (Err error) → IsLight plan → error ≡ refusals.NoMemory → ⊥
light_error start plan refusals.NoMemory answer light same = light_reaches_none (column_kind start) (slots_of start) plan light answer.1
light_error start plan (refusals.Parts cause) answer light same = absurd (cc)
light_error start plan (refusals.Step at cause) answer light same = absurd (cc)

pub ruleset plan_laws = (reached_start, reached_refused)
