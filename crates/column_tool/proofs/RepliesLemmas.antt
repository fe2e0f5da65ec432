-- What follows from a reply.
use Rattle.std.proofs.Common.{◌≡◌, ℕ, List, Option, None, Result, Ok, Err, refl, sym, ◌∙◌, ap, subst, inl, inr}
use Rattle.column_base.specs.declared.errors.Cause.{Cause}
use Rattle.column_relayout.specs.declared.columns.ColumnError.{ColumnError}
use Rattle.column_relayout.specs.declared.columns.ColumnError.TheVariants as refusals
use Rattle.column_relayout.specs.Columns.{RawLists}
use Rattle.column_relayout.specs.Arrays.{lists_of}
use Rattle.column_relayout.specs.Plans.{Meaning, leads, faults, plan_meaning}
use Rattle.column_relayout.specs.Relayouts.{IsAnswered, RefusesPlan, Relayouts}
use Rattle.column_document.specs.declared.field.DocFault.{DocFault}
use Rattle.column_document.specs.Document.{Document, document_in}
use Rattle.column_tool.specs.declared.outcome.Outcome.{Outcome}
use Rattle.column_tool.specs.declared.outcome.Outcome.TheVariants.{Done, Refused, BadDocument}
use Rattle.column_tool.specs.Text.{printed, refusal_line}
use Rattle.column_tool.specs.Replies.{parts_in, IsReply, IsColumnText, IsBoundText, IsDueAfter, IsDue, IsBoundRefusal, AnswersAfter, AnswersExactly}

-- ---- the text

due_of_column : (document : Document) (column : RawLists) (text : List ℕ) → IsAnswered (parts_in document) document.plan column → text ≡ printed column → IsDue (Ok document) text
due_of_column document column text answered is =
    let due : IsColumnText (parts_in document) document text = record {
      column = column;
      answered = answered;
      is = is;
      light = λ light. is ∙ ap printed (answered.light light);
    } in
    subst (λ (fault : Option Cause). IsDueAfter document fault (plan_meaning (parts_in document) document.plan) text) (sym answered.sound)
    (subst (λ (meaning : Meaning). IsDueAfter document None meaning text) (sym answered.meaning) (inl due))

bound_due : (document : Document) (meaning : Meaning) (text : List ℕ) → IsBoundText document text → IsDueAfter document None meaning text
bound_due document (faults at cause) text bound = inr bound
bound_due document (leads kind slots) text bound = inr bound

due_of_step : (document : Document) (at : ℕ) (cause : Cause) (text : List ℕ) → RefusesPlan (parts_in document) document.plan at cause → text ≡ refusal_line (refusals.Step at cause) → IsDueAfter document None (plan_meaning (parts_in document) document.plan) text
due_of_step document at cause text (inl means) is = subst (λ (meaning : Meaning). IsDueAfter document None meaning text) (sym means) (inl is)
due_of_step document at cause text (inr passed) is =
    bound_due document (plan_meaning (parts_in document) document.plan) text (at, (is ∙ ap (λ (c : Cause). refusal_line (refusals.Step at c)) passed.0), passed.1)

due_of_refusal : (document : Document) (refusal : ColumnError) (text : List ℕ) → Relayouts (parts_in document) document.plan (Err refusal) → (refusal ≡ refusals.NoMemory → ⊥) → text ≡ refusal_line refusal → IsDue (Ok document) text
due_of_refusal document refusals.NoMemory text refused cause is = absurd (cause refl)
due_of_refusal document (refusals.Parts cause) text refused some is =
    subst (λ (fault : Option Cause). IsDueAfter document fault (plan_meaning (parts_in document) document.plan) text) (sym refused) is
due_of_refusal document (refusals.Step at cause) text refused some is =
    subst (λ (fault : Option Cause). IsDueAfter document fault (plan_meaning (parts_in document) document.plan) text) (sym refused.0)
    (due_of_step document at cause text refused.1 is)

pub is_due : (bytes : List ℕ) (outcome : Outcome) (text : List ℕ) → IsReply bytes outcome text → IsDue (document_in bytes) text
is_due bytes (Done column) text reply =
    let made = reply.0 in
    subst (λ (said : Result Document DocFault). IsDue said text) (sym made.read) (due_of_column made.document (lists_of column) text made.answered reply.1)
is_due bytes (Refused refusal) text reply =
    let refused = reply.0 in
    subst (λ (said : Result Document DocFault). IsDue said text) (sym refused.read) (due_of_refusal refused.document refusal text refused.refused refused.cause reply.1)
is_due bytes (BadDocument fault) text reply = subst (λ (said : Result Document DocFault). IsDue said text) (sym reply.0) reply.1
is_due bytes outcome text reply = absurd reply

-- ---- the outcome

bound_exact : (document : Document) (meaning : Meaning) (outcome : Outcome) → IsBoundRefusal document outcome → AnswersAfter document None meaning outcome
bound_exact document (faults at cause) outcome bound = inr (inr bound)
bound_exact document (leads kind slots) outcome bound = inr bound

exact_of_step : (document : Document) (at : ℕ) (cause : Cause) → RefusesPlan (parts_in document) document.plan at cause → AnswersAfter document None (plan_meaning (parts_in document) document.plan) (Refused (refusals.Step at cause))
exact_of_step document at cause (inl means) =
    subst (λ (meaning : Meaning). AnswersAfter document None meaning (Refused (refusals.Step at cause))) (sym means) (inl refl)
exact_of_step document at cause (inr passed) =
    bound_exact document (plan_meaning (parts_in document) document.plan) (Refused (refusals.Step at cause)) (at, ap (λ (c : Cause). Refused (refusals.Step at c)) passed.0, passed.1)

exact_of_refusal : (document : Document) (refusal : ColumnError) → Relayouts (parts_in document) document.plan (Err refusal) → (refusal ≡ refusals.NoMemory → ⊥) → AnswersExactly (Ok document) (Refused refusal)
exact_of_refusal document refusals.NoMemory refused cause = absurd (cause refl)
exact_of_refusal document (refusals.Parts cause) refused some =
    subst (λ (fault : Option Cause). AnswersAfter document fault (plan_meaning (parts_in document) document.plan) (Refused (refusals.Parts cause))) (sym refused) (inl refl)
exact_of_refusal document (refusals.Step at cause) refused some =
    subst (λ (fault : Option Cause). AnswersAfter document fault (plan_meaning (parts_in document) document.plan) (Refused (refusals.Step at cause))) (sym refused.0)
    (exact_of_step document at cause refused.1)

pub is_exact : (bytes : List ℕ) (outcome : Outcome) (text : List ℕ) → IsReply bytes outcome text → AnswersExactly (document_in bytes) outcome
is_exact bytes (Done column) text reply =
    let made = reply.0 in
    let answered = made.answered in
    let parts = parts_in made.document in
    subst (λ (said : Result Document DocFault). AnswersExactly said (Done column)) (sym made.read)
    (subst (λ (fault : Option Cause). AnswersAfter made.document fault (plan_meaning parts made.document.plan) (Done column)) (sym answered.sound)
    (subst (λ (meaning : Meaning). AnswersAfter made.document None meaning (Done column)) (sym answered.meaning) (inl tt)))
is_exact bytes (Refused refusal) text reply =
    let refused = reply.0 in
    subst (λ (said : Result Document DocFault). AnswersExactly said (Refused refusal)) (sym refused.read) (exact_of_refusal refused.document refusal refused.refused refused.cause)
is_exact bytes (BadDocument fault) text reply = subst (λ (said : Result Document DocFault). AnswersExactly said (BadDocument fault)) (sym reply.0) (inl refl)
is_exact bytes outcome text reply = absurd reply

pub ruleset reply_laws = (is_due, is_exact)
