-- Laws of faults, and of answers.
use Rattle.std.proofs.Common.{◌≡◌, Bool, true, false, Option, Some, None, Result, Ok, Err, refl, sym, ◌∙◌}
use Rattle.column_base.specs.declared.errors.Cause.{Cause}
use Rattle.column_base.specs.declared.errors.PolarsError.{PolarsError}
use Rattle.column_base.specs.declared.errors.PolarsError.TheVariants.{ComputeError, OutOfBounds, NoMemory}
use Rattle.column_base.specs.Answers.{Answers, AnswersFirst, cause_if, ◌or_else◌}

-- ---- faults

-- no cause, where the test does not hold
pub cause_none : (test : Bool) (cause : Cause) → cause_if test cause ≡ None → test ≡ false
cause_none true cause none = absurd (cc)
cause_none false cause none = refl

-- this cause, where it holds
pub cause_some : (test : Bool) (cause other : Cause) → cause_if test cause ≡ Some other → (test ≡ true) × (cause ≡ other)
cause_some true cause other some = (refl, cc)
cause_some false cause other some = absurd (cc)

-- where there is no fault, neither of the two stands
pub first_none : (first second : Option Cause) → (first or_else second) ≡ None → (first ≡ None) × (second ≡ None)
first_none None second none = (refl, none)
first_none (Some cause) second none = absurd (cc)

-- ---- the exit of a `?`: the caller's fault is the callee's

pub answers_err : {X Y : Type 0} (fault other : Option Cause) (P : X → Type 0) (Q : Y → Type 0) (error : PolarsError)
    → Answers {X = X} (Err error) fault P → ((cause : Cause) → fault ≡ Some cause → other ≡ Some cause) → Answers {X = Y} (Err error) other Q
answers_err fault other P Q (ComputeError cause) given step = (step cause given.0, given.1)
answers_err fault other P Q (OutOfBounds cause) given step = (step cause given.0, given.1)
answers_err fault other P Q NoMemory given step = tt

pub answers_first_err : {X Y : Type 0} (fault other : Option Cause) (P : X → Type 0) (Q : Y → Type 0) (error : PolarsError)
    → AnswersFirst {X = X} (Err error) fault P → fault ≡ other → AnswersFirst {X = Y} (Err error) other Q
answers_first_err fault other P Q (ComputeError cause) given same = (sym same ∙ given.0, given.1)
answers_first_err fault other P Q (OutOfBounds cause) given same = (sym same ∙ given.0, given.1)
answers_first_err fault other P Q NoMemory given same = sym same ∙ given

-- ---- an answer without a cause, where there is no fault

pub answers_without : {X : Type 0} (result : Result X PolarsError) (fault : Option Cause) (P Q : X → Type 0)
    → Answers result None P → fault ≡ None → ((x : X) → P x → Q x) → AnswersFirst result fault Q
answers_without (Ok x) fault P Q given none weaker = (none, weaker x given.1)
answers_without (Err (ComputeError cause)) fault P Q given none weaker = absurd (let some = given.0 in cc)
answers_without (Err (OutOfBounds cause)) fault P Q given none weaker = absurd (let some = given.0 in cc)
answers_without (Err NoMemory) fault P Q given none weaker = none
