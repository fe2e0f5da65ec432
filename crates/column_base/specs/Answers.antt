-- Which answer a call gives, and exactly where.
--
-- What a call may refuse is computed as an `Option Cause`, the first fault that stands. What it answered is told by
-- cases on its result.
use Rattle.std.specs.Prelude.{◌≡◌, Bool, if◌then◌else◌, Option, Some, None, Result, Ok, Err}
use Rattle.column_base.specs.declared.errors.PolarsError.{PolarsError}
use Rattle.column_base.specs.declared.errors.PolarsError.TheVariants.{ComputeError, OutOfBounds, NoMemory}
use Rattle.column_base.specs.declared.errors.Cause.{Cause}
use Rattle.column_base.specs.Errors.{error_of}

-- the cause where the test holds
abbrev pub cause_if : Bool → Cause → Option Cause
cause_if test cause = if test then Some cause else None

-- the first fault, or else the second
infixl 5 ◌or_else◌
abbrev pub ◌or_else◌ : Option Cause → Option Cause → Option Cause
None or_else second = second
(Some cause) or_else second = Some cause

-- The answer is the fault, exactly where there is one, and else a value of which the fact holds. Want of memory is
-- no answer.
abbrev pub Gives : {X : Type 0} → Result X PolarsError → Option Cause → (X → Type 0) → Type 0
Gives (Ok x) fault P = (fault ≡ None) × P x
Gives (Err (ComputeError cause)) fault P = (fault ≡ Some cause) × (error_of cause ≡ ComputeError cause)
Gives (Err (OutOfBounds cause)) fault P = (fault ≡ Some cause) × (error_of cause ≡ OutOfBounds cause)
Gives (Err NoMemory) fault P = ⊥

-- The same, where besides memory may run out.
abbrev pub Answers : {X : Type 0} → Result X PolarsError → Option Cause → (X → Type 0) → Type 0
Answers (Ok x) fault P = (fault ≡ None) × P x
Answers (Err (ComputeError cause)) fault P = (fault ≡ Some cause) × (error_of cause ≡ ComputeError cause)
Answers (Err (OutOfBounds cause)) fault P = (fault ≡ Some cause) × (error_of cause ≡ OutOfBounds cause)
Answers (Err NoMemory) fault P = Unit {0}

-- The same, where memory may run out only if there is no fault.
abbrev pub AnswersFirst : {X : Type 0} → Result X PolarsError → Option Cause → (X → Type 0) → Type 0
AnswersFirst (Ok x) fault P = (fault ≡ None) × P x
AnswersFirst (Err (ComputeError cause)) fault P = (fault ≡ Some cause) × (error_of cause ≡ ComputeError cause)
AnswersFirst (Err (OutOfBounds cause)) fault P = (fault ≡ Some cause) × (error_of cause ≡ OutOfBounds cause)
AnswersFirst (Err NoMemory) fault P = fault ≡ None

-- The same as `Gives`, for a call that answers the bare cause.
abbrev pub GivesCause : {X : Type 0} → Result X Cause → Option Cause → (X → Type 0) → Type 0
GivesCause (Ok x) fault P = (fault ≡ None) × P x
GivesCause (Err cause) fault P = fault ≡ Some cause

-- The same, for a call that hands a value back beside the cause.
abbrev pub GivesBack : {X Y : Type 0} → Result X (Y × Cause) → Option Cause → (X → Type 0) → (Y → Type 0) → Type 0
GivesBack (Ok x) fault P Q = (fault ≡ None) × P x
GivesBack (Err refused) fault P Q = (fault ≡ Some refused.1) × Q refused.0
