-- What a plan means for lists of slots, where it faults, and what steps that move no byte leave of the lists.
use Rattle.std.specs.Prelude.{◌≡◌, ℕ, ◌+◌, ◌-◌, Bool, true, false, not, if◌then◌else◌, nat_lt, List, [], ◌∷◌, ◌++◌, length, take, drop, fold, MatchBool, Option, Some, None}
use Rattle.column_base.specs.declared.errors.Cause.{Cause}
use Rattle.column_base.specs.declared.errors.Cause.TheVariants.{StepRange, WrongKind, InvalidUtf8}
use Rattle.column_base.specs.Answers.{cause_if, ◌or_else◌}
use Rattle.column_base.specs.Kinds.{Slot, ColumnKind}
use Rattle.column_base.specs.Lists.{sublist}
use Rattle.column_base.specs.Slots.{values_of, rows_of}
use Rattle.column_offset.specs.Text.{are_well_formed_utf8, texts_fault}
use Rattle.column_relayout.specs.declared.steps.Step.{Step}
use Rattle.column_relayout.specs.declared.steps.Step.TheVariants.{Slice, Left, Right, ToUtf8, ToBinary, Gc, Dedupe, Append, Rebuild}
use Rattle.column_relayout.specs.Kinds.{kind_of, is_text, is_binary, has_views, text_kind, binary_kind}
use Rattle.column_relayout.specs.Columns.{RawLists, column_kind, slots_of, count_of, part_of, retyped}
use Rattle.column_relayout.specs.Written.{slots_in, append_fault, write_fault}

-- ---- one step

-- a range that ends past the number of slots
abbrev pub range_fault : ℕ → ℕ → Option Cause
range_fault count end = cause_if (nat_lt count end) StepRange

-- Where slots are no texts. Those with offsets are looked at end to end first, and then each by itself; views name their
-- contents each by itself.
abbrev pub text_fault : ColumnKind → List Slot → Option Cause
text_fault kind slots =
    if has_views kind
    then cause_if (not (are_well_formed_utf8 (values_of slots))) InvalidUtf8
    else texts_fault (values_of slots)

-- the first fault of a step
unfoldable pub step_fault : ColumnKind → List Slot → Step → Option Cause
step_fault kind slots (Slice from n) = range_fault (length slots) (from + n)
step_fault kind slots (Left n) = range_fault (length slots) n
step_fault kind slots (Right n) = range_fault (length slots) n
step_fault kind slots ToUtf8 = cause_if (not (is_binary kind)) WrongKind or_else text_fault kind slots
step_fault kind slots ToBinary = cause_if (not (is_text kind)) WrongKind
step_fault kind slots Gc = cause_if (not (has_views kind)) WrongKind
step_fault kind slots Dedupe = cause_if (not (has_views kind)) WrongKind
step_fault kind slots (Append rows) = append_fault kind slots rows
step_fault kind slots (Rebuild next) = write_fault (is_text kind) (rows_of slots) (kind_of next)

-- the kind that a step gives
abbrev pub kind_after : ColumnKind → Step → ColumnKind
kind_after kind ToUtf8 = text_kind kind
kind_after kind ToBinary = binary_kind kind
kind_after kind (Rebuild next) = kind_of next
kind_after kind step = kind

-- the slots that a step gives
unfoldable pub slots_after : ColumnKind → List Slot → Step → List Slot
slots_after kind slots (Slice from n) = sublist slots from n
slots_after kind slots (Left n) = take n slots
slots_after kind slots (Right n) = drop n slots
slots_after kind slots (Append rows) = slots ++ slots_in kind rows
slots_after kind slots (Rebuild next) = slots_in (kind_of next) (rows_of slots)
slots_after kind slots step = slots

-- ---- the plan

-- where a plan leads: to a kind and slots, or to the first step that has a fault, counted from 0
pub data Meaning : Type 0 where
  leads : ColumnKind → List Slot → Meaning
  faults : ℕ → Cause → Meaning

abbrev pub at_fault : Option Cause → ℕ → Meaning → Meaning
at_fault None at meaning = meaning
at_fault (Some cause) at meaning = faults at cause

-- the steps in order, as long as none has a fault; the first is step `at`
abbrev pub meaning_from : ℕ → ColumnKind → List Slot → List Step → Meaning
meaning_from at kind slots [] = leads kind slots
meaning_from at kind slots (step ∷ plan) = at_fault (step_fault kind slots step) at (meaning_from (at + 1) (kind_after kind step) (slots_after kind slots step) plan)

abbrev pub plan_meaning : RawLists → List Step → Meaning
plan_meaning column plan = meaning_from 0 (column_kind column) (slots_of column) plan

-- ---- light plans

-- the step moves no byte of a column
abbrev pub is_light : Step → Bool
is_light (Slice from n) = true
is_light (Left n) = true
is_light (Right n) = true
is_light ToUtf8 = true
is_light ToBinary = true
is_light Gc = false
is_light Dedupe = false
is_light (Append rows) = false
is_light (Rebuild next) = false

abbrev pub IsLight : List Step → Type 0
IsLight [] = Unit {0}
IsLight (step ∷ plan) = (is_light step ≡ true) × IsLight plan

-- No step up to and with the first heavy one has a fault, and there is a heavy one.
abbrev pub ReachesHeavy : ColumnKind → List Slot → List Step → Type 0
ReachesHeavy kind slots [] = ⊥
ReachesHeavy kind slots (step ∷ plan) = (step_fault kind slots step ≡ None) × MatchBool (is_light step) (ReachesHeavy (kind_after kind step) (slots_after kind slots step) plan) (Unit {0})

-- what a light step leaves of the lists; a heavy one is not meant here
unfoldable pub light_step : RawLists → Step → RawLists
light_step column (Slice from n) = part_of column from n
light_step column (Left n) = part_of column 0 n
light_step column (Right n) = part_of column n (count_of column - n)
light_step column ToUtf8 = retyped true column
light_step column ToBinary = retyped false column
light_step column Gc = column
light_step column Dedupe = column
light_step column (Append rows) = column
light_step column (Rebuild next) = column

-- what a light plan leaves of the lists: each step what it leaves of those before it
abbrev pub light_lists : RawLists → List Step → RawLists
light_lists column plan = fold light_step column plan
