-- Which answers steps and plans give.
use Rattle.std.specs.Prelude.{◌≡◌, ◌⊎◌, ℕ, Bool, true, false, List, Some, None, Result, Ok, Err}
use Rattle.column_base.specs.declared.errors.Cause.{Cause}
use Rattle.column_base.specs.declared.errors.PolarsError.{PolarsError}
use Rattle.column_base.specs.declared.errors.PolarsError.TheVariants as errors
use Rattle.column_base.specs.declared.errors.Cause.TheVariants.{Overflow, StepRange}
use Rattle.column_base.specs.Answers.{GivesCause}
use Rattle.column_base.specs.Errors.{error_of}
use Rattle.column_relayout.specs.declared.columns.AnyArray.{AnyArray}
use Rattle.column_relayout.specs.declared.steps.Step.{Step}
use Rattle.column_relayout.specs.declared.columns.ColumnError.{ColumnError}
use Rattle.column_relayout.specs.declared.columns.ColumnError.TheVariants as refusals
use Rattle.column_relayout.specs.Columns.{RawLists, column_kind, slots_of, parts_fault, IsWellFormed}
use Rattle.column_relayout.specs.Plans.{leads, faults, plan_meaning, step_fault, IsLight, ReachesHeavy, light_lists}
use Rattle.column_relayout.specs.Buffers.{kept_buffers, PassesBound, Passes}
use Rattle.column_relayout.specs.Steps.{StepsTo, Relays}
use Rattle.column_relayout.specs.Arrays.{lists_of}

-- a step's fault, exactly where it has one, or else a column of these lists that the step gives
abbrev pub GivesStep : {X : Type 0} → (X → RawLists) → RawLists → Step → Result X Cause → Type 0
GivesStep lists old step answer = GivesCause answer (step_fault (column_kind old) (slots_of old) step) (λ column. StepsTo old step (lists column))

abbrev pub StepGives : RawLists → Step → Result AnyArray Cause → Type 0
StepGives = GivesStep lists_of

-- The same of a cut that is taken in place: a column of the new lists, or `StepRange`.
abbrev pub CutsTo : RawLists → Step → RawLists → Bool → Type 0
CutsTo old step new true = (step_fault (column_kind old) (slots_of old) step ≡ None) × StepsTo old step new
CutsTo old step new false = step_fault (column_kind old) (slots_of old) step ≡ Some StepRange

-- The same of a step that is taken in place if it is a cut. Else the lists are the old ones.
abbrev pub Cuts : RawLists → Step → RawLists → Result Bool Cause → Type 0
Cuts old step new (Ok true) = (step_fault (column_kind old) (slots_of old) step ≡ None) × StepsTo old step new
Cuts old step new (Ok false) = new ≡ old
Cuts old step new (Err cause) = step_fault (column_kind old) (slots_of old) step ≡ Some cause

-- Why a step is refused: its fault, or that it passes the bound on buffers.
abbrev pub RefusesStep : RawLists → Step → Cause → Type 0
RefusesStep old step cause =
    (step_fault (column_kind old) (slots_of old) step ≡ Some cause)
    ⊎ ((cause ≡ Overflow) × PassesBound (kept_buffers old step) (column_kind old) (slots_of old) step)

-- The answer of a step that may take memory: lists that it gives, or why it is refused. Memory wants only where the step
-- has no fault.
abbrev pub AnswersStep : {X : Type 0} → (X → RawLists) → RawLists → Step → Result X PolarsError → Type 0
AnswersStep lists old step (Ok column) = (step_fault (column_kind old) (slots_of old) step ≡ None) × StepsTo old step (lists column)
AnswersStep lists old step (Err (errors.ComputeError cause)) = RefusesStep old step cause × (error_of cause ≡ errors.ComputeError cause)
AnswersStep lists old step (Err (errors.OutOfBounds cause)) = RefusesStep old step cause × (error_of cause ≡ errors.OutOfBounds cause)
AnswersStep lists old step (Err errors.NoMemory) = step_fault (column_kind old) (slots_of old) step ≡ None

abbrev pub StepAnswers : RawLists → Step → Result AnyArray PolarsError → Type 0
StepAnswers = AnswersStep lists_of

-- the error of a plan whose step `at` has this one
abbrev pub step_error : ℕ → PolarsError → ColumnError
step_error at (errors.ComputeError cause) = refusals.Step at cause
step_error at (errors.OutOfBounds cause) = refusals.Step at cause
step_error at errors.NoMemory = refusals.NoMemory

-- The plan of these parts leads to this column, step by step. A light plan's column has the lists of the parts, cut.
pub record IsAnswered (parts : RawLists) (plan : List Step) (column : RawLists) : Type 0 where
  pub sound : parts_fault parts ≡ None
  pub meaning : plan_meaning parts plan ≡ leads (column_kind column) (slots_of column)
  pub well_formed : IsWellFormed column
  pub light : IsLight plan → column ≡ light_lists parts plan
  pub laid : Relays parts plan column

-- Why a plan is refused at a step: it is the first that has a fault, or it passes the bound on buffers.
abbrev pub RefusesPlan : RawLists → List Step → ℕ → Cause → Type 0
RefusesPlan parts plan at cause = (plan_meaning parts plan ≡ faults at cause) ⊎ ((cause ≡ Overflow) × Passes parts plan at)

-- The answer of a plan: a column that it leads to, the parts' first fault, or why a step is refused. Memory may want only
-- where the plan has a heavy step, and no step up to and with the first one has a fault.
abbrev pub Relayouts : RawLists → List Step → Result AnyArray ColumnError → Type 0
Relayouts parts plan (Ok column) = IsAnswered parts plan (lists_of column)
Relayouts parts plan (Err (refusals.Parts cause)) = parts_fault parts ≡ Some cause
Relayouts parts plan (Err (refusals.Step at cause)) = (parts_fault parts ≡ None) × RefusesPlan parts plan at cause
Relayouts parts plan (Err refusals.NoMemory) = (parts_fault parts ≡ None) × ReachesHeavy (column_kind parts) (slots_of parts) plan
