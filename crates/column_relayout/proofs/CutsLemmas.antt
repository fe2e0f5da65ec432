-- A light plan is one cut.
use Rattle.std.proofs.Common.{◌≡◌, ℕ, ◌+◌, ◌-◌, ◌≤◌, Bool, true, false, List, [], ◌∷◌, fold, None, refl, sym, ◌∙◌, ap, subst, arith}
use Rattle.column_base.specs.Kinds.{ColumnKind}
use Rattle.column_relayout.specs.declared.steps.Step.{Step}
use Rattle.column_relayout.specs.declared.steps.Step.TheVariants.{Slice, Left, Right, ToUtf8, ToBinary, Gc, Dedupe, Append, Rebuild}
use Rattle.column_binview.specs.Slots.{ViewLists, view_count, sliced_views}
use Rattle.column_relayout.specs.Kinds.{is_text}
use Rattle.column_relayout.specs.Columns.{RawLists, offset_column, view_column, fixed_column, number_column, column_kind, slots_of, count_of, parts_fault, AreSound, IsWithinType, part_of, retyped}
use Rattle.column_relayout.specs.Plans.{step_fault, kind_after, is_light, IsLight, light_step}
use Rattle.column_relayout.specs.Steps.{Relays}
use Rattle.column_relayout.specs.Cuts.{span_after, as_read, cut_once}
use Rattle.column_relayout.proofs.ColumnsLemmas.{sound_offset_lists, flagged_where_no_fault, sound_where_no_fault, count-slots, count-part, part-part, retyped-part, as_read-views, as_read-whole}
use Rattle.column_relayout.proofs.PlansLemmas.{light_laid}
use Rattle.column_relayout.proofs.StepsLemmas.{within_range}

-- Read as they are, the lists are the part of the first ones at the span that the plan leaves of this one, with the kind
-- that the plan makes of this one.
IsCut : RawLists → ColumnKind → ℕ × ℕ → List Step → RawLists → Type 0
IsCut start kind span plan end =
    ((fold span_after span plan).0 + (fold span_after span plan).1 ≤ count_of start)
    × (as_read end ≡ as_read (retyped (is_text (fold kind_after kind plan)) (part_of start (fold span_after span plan).0 (fold span_after span plan).1)))

span_from : (plan : List Step) (from start n : ℕ) → fold span_after (from + start, n) plan ≡ (from + (fold span_after (start, n) plan).0, (fold span_after (start, n) plan).1)
span_from [] from start n = refl
span_from (Slice at m ∷ plan) from start n = let e : from + start + at ≡ from + (start + at) = omega arith in rw e (span_from plan from (start + at) m)
span_from (Left m ∷ plan) from start n = span_from plan from start m
span_from (Right m ∷ plan) from start n = let e : from + start + m ≡ from + (start + m) = omega arith in rw e (span_from plan from (start + m) (n - m))
span_from (ToUtf8 ∷ plan) from start n = span_from plan from start n
span_from (ToBinary ∷ plan) from start n = span_from plan from start n
span_from (Gc ∷ plan) from start n = span_from plan from start n
span_from (Dedupe ∷ plan) from start n = span_from plan from start n
span_from (Append rows ∷ plan) from start n = span_from plan from start n
span_from (Rebuild next ∷ plan) from start n = span_from plan from start n

-- a plan after a part is one cut of the whole
after_part : (start middle end : RawLists) (plan : List Step) (from n : ℕ) → AreSound start → from + n ≤ count_of start → middle ≡ part_of start from n → IsCut middle (column_kind middle) (0, count_of middle) plan end → IsCut start (column_kind middle) (from, n) plan end
unfolding IsCut
after_part start middle end plan from n sound within is cut =
    let kind = column_kind middle in
    let span = fold span_after (0, n) plan in
    let counted : count_of middle ≡ n = ap count_of is ∙ count-part start from n sound within in
    let here : IsCut middle kind (0, n) plan end = subst (λ (k : ℕ). IsCut middle kind (0, k) plan end) counted cut in
    let inside : span.0 + span.1 ≤ n = subst (λ (k : ℕ). span.0 + span.1 ≤ k) counted here.0 in
    let whole : part_of middle span.0 span.1 ≡ part_of start (from + span.0) span.1 =
    ap (λ (column : RawLists). part_of column span.0 span.1) is ∙ part-part start from n span.0 span.1 sound within inside in
    let start_is : from + 0 ≡ from = omega arith in
    let moved : fold span_after (from, n) plan ≡ (from + span.0, span.1) = subst (λ (k : ℕ). fold span_after (k, n) plan ≡ (from + span.0, span.1)) start_is (span_from plan from 0 n) in
    subst (λ (at : ℕ × ℕ). (at.0 + at.1 ≤ count_of start) × (as_read end ≡ as_read (retyped (is_text (fold kind_after kind plan)) (part_of start at.0 at.1)))) (sym moved)
    (omega arith, here.1 ∙ ap (λ (part : RawLists). as_read (retyped (is_text (fold kind_after kind plan)) part)) whole)

-- a plan after a conversion
after_retyped : (start end : RawLists) (text : Bool) (kind : ColumnKind) (plan : List Step) → IsCut (retyped text start) kind (0, count_of (retyped text start)) plan end → IsCut start kind (0, count_of start) plan end
unfolding IsCut
after_retyped (offset_column large old lists) end text kind plan cut = cut
after_retyped (view_column old lists) end text kind plan cut = cut
after_retyped (fixed_column lists) end text kind plan cut = cut
after_retyped (number_column array) end text kind plan cut = cut

cut_after : (start middle end : RawLists) (step : Step) (plan : List Step) → AreSound start → is_light step ≡ true → step_fault (column_kind start) (slots_of start) step ≡ None → middle ≡ light_step start step → IsCut middle (column_kind middle) (0, count_of middle) plan end → IsCut start (column_kind middle) (span_after (0, count_of start) step) plan end
unfolding step_fault light_step
cut_after start middle end (Slice from n) plan sound light none is cut =
    let counted = count-slots start sound in
    let within = within_range _ (from + n) none in
    let e : 0 + from ≡ from = omega arith in
    rw e (after_part start middle end plan from n sound (omega arith) is cut)
cut_after start middle end (Left n) plan sound light none is cut =
    let counted = count-slots start sound in
    let within = within_range _ n none in
    after_part start middle end plan 0 n sound (omega arith) is cut
cut_after start middle end (Right n) plan sound light none is cut =
    let counted = count-slots start sound in
    let within = within_range _ n none in
    let e : 0 + n ≡ n = omega arith in
    rw e (after_part start middle end plan n (count_of start - n) sound (omega arith) is cut)
cut_after start middle end ToUtf8 plan sound light none is cut =
    after_retyped start end true (column_kind middle) plan (subst (λ (column : RawLists). IsCut column (column_kind middle) (0, count_of column) plan end) is cut)
cut_after start middle end ToBinary plan sound light none is cut =
    after_retyped start end false (column_kind middle) plan (subst (λ (column : RawLists). IsCut column (column_kind middle) (0, count_of column) plan end) is cut)
cut_after start middle end Gc plan sound light none is cut = absurd (cc)
cut_after start middle end Dedupe plan sound light none is cut = absurd (cc)
cut_after start middle end (Append rows) plan sound light none is cut = absurd (cc)
cut_after start middle end (Rebuild next) plan sound light none is cut = absurd (cc)

cut_by : (start end : RawLists) (plan : List Step) → AreSound start → Relays start plan end → IsLight plan → IsCut start (column_kind start) (0, count_of start) plan end
unfolding IsCut
cut_by start end [] sound relays light = (
  omega arith,
  ap as_read relays ∙ sym (ap as_read (retyped-part start 0 (count_of start)) ∙ as_read-whole start sound),
)
cut_by start end (step ∷ plan) sound relays light =
    let middle = relays.1.0 in
    let steps = relays.1.1 in
    subst (λ (kind : ColumnKind). IsCut start kind (span_after (0, count_of start) step) plan end) steps.kind
    (cut_after start middle end step plan sound light.0 relays.0 (light_laid start middle step light.0 steps.laid) (cut_by middle end plan steps.well_formed.sound relays.1.2 light.1))

-- a light step keeps the buffers, so those of its views were not too many before it
within_before : (text : Bool) (lists : ViewLists) (step : Step) → is_light step ≡ true → IsWithinType (light_step (view_column text lists) step) → IsWithinType (view_column text lists)
unfolding light_step sliced_views
within_before text lists (Slice from n) light within = within
within_before text lists (Left n) light within = within
within_before text lists (Right n) light within = within
within_before text lists ToUtf8 light within = within
within_before text lists ToBinary light within = within
within_before text lists Gc light within = absurd (cc)
within_before text lists Dedupe light within = absurd (cc)
within_before text lists (Append rows) light within = absurd (cc)
within_before text lists (Rebuild next) light within = absurd (cc)

views_cut : (text : Bool) (lists : ViewLists) (end : RawLists) (plan : List Step) → parts_fault (view_column text lists) ≡ None → Relays (view_column text lists) plan end → IsLight plan → as_read end ≡ as_read (cut_once (view_column text lists) plan)
unfolding IsCut
views_cut text lists end [] none relays light =
    let start = view_column text lists in
    ap as_read relays ∙ sym (ap as_read (retyped-part start 0 (view_count lists)) ∙ as_read-views text lists (flagged_where_no_fault text lists none))
views_cut text lists end (step ∷ plan) none relays light =
    let start = view_column text lists in
    let after = subst IsWithinType (light_laid start relays.1.0 step light.0 relays.1.1.laid) relays.1.1.well_formed.within_type in
    let sound = sound_where_no_fault start (within_before text lists step light.0 after) none in
    (cut_by start end (step ∷ plan) sound relays light).1

pub light_cut : (start end : RawLists) (plan : List Step) → parts_fault start ≡ None → Relays start plan end → IsLight plan → as_read end ≡ as_read (cut_once start plan)
unfolding IsCut
light_cut (offset_column large text lists) end plan none relays light = (cut_by (offset_column large text lists) end plan (sound_offset_lists large text lists none) relays light).1
light_cut (view_column text lists) end plan none relays light = views_cut text lists end plan none relays light
light_cut (fixed_column lists) end plan none relays light = (cut_by (fixed_column lists) end plan (sound_where_no_fault (fixed_column lists) tt none) relays light).1
light_cut (number_column array) end plan none relays light = (cut_by (number_column array) end plan (sound_where_no_fault (number_column array) tt none) relays light).1
