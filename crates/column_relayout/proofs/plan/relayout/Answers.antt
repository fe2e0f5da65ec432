-- The loop goes on by one step; the error of a step is the plan's; a light plan meets no heavy step.
use Rattle.std.proofs.Common.{◌≡◌, ◌+◌, Bool, true, Ok, Err, ap, subst, sym}
use Rattle.column_base.specs.declared.errors.PolarsError.{PolarsError}
use Rattle.column_relayout.specs.declared.columns.AnyArray.{AnyArray}
use Rattle.column_relayout.specs.declared.columns.ColumnError.{ColumnError}
use Rattle.column_relayout.specs.Columns.{RawLists}
use Rattle.column_relayout.specs.Plans.{is_light}
use Rattle.column_relayout.specs.Arrays.{lists_of, lists_of_parts}
use Rattle.column_relayout.specs.Relayouts.{Cuts, StepAnswers, Relayouts}
use Rattle.column_relayout.proofs.PlansLemmas.{Reached, reached_step, reached_end, reached_error, light_error}
use Rattle.column_relayout.proofs.plan.relayout.Goals as goal
use Rattle.column_relayout.proofs.plan.relayout.Goals.{then-not-is_cut+in-Ok-apply, else-not-is_cut}

pub loop-i-preserved : goal.loop-i-preserved
loop-i-preserved c =
    let start = lists_of_parts c.args.parts in
    let old = lists_of c.loop-i.column in
    let step = c.index-plan-i.result in
    elim c.if-not-is_cut.branch [
      | then-not-is_cut+in-Ok-apply w ↦
          let same : lists_of c.cut.new.column ≡ old = subst (λ (b : Bool). Cuts old step (lists_of c.cut.new.column) (Ok b)) w.if-not-is_cut.true (c.in-Ok-cut.ensures {u = tt}) in
          let taken = subst (λ (lists : RawLists). StepAnswers lists step (Ok w.in-Ok-apply.next)) same (w.in-Ok-apply.ensures {u = tt}).step in
          let next = reached_step start old (lists_of w.in-Ok-apply.next) c.args.plan.now c.loop-i.i step c.loop-i.invariant c.loop-i-test.true c.index-plan-i.is taken.0 taken.1 in
          subst (λ (column : AnyArray). Reached start c.args.plan.now (c.loop-i.i + 1) (lists_of column)) (sym w.column-is) next
      | else-not-is_cut w ↦
          let taken = subst (λ (b : Bool). Cuts old step (lists_of c.cut.new.column) (Ok b)) w.if-not-is_cut.false (c.in-Ok-cut.ensures {u = tt}) in
          let next = reached_step start old (lists_of c.cut.new.column) c.args.plan.now c.loop-i.i step c.loop-i.invariant c.loop-i-test.true c.index-plan-i.is taken.0 taken.1 in
          subst (λ (column : AnyArray). Reached start c.args.plan.now (c.loop-i.i + 1) (lists_of column)) (sym w.column-is) next
    ]

pub returns-in-Err-apply-clause-answer : goal.returns-in-Err-apply-clause-answer
returns-in-Err-apply-clause-answer c =
    let start = lists_of_parts c.args.parts in
    let old = lists_of c.loop-i.column in
    let step = c.index-plan-i.result in
    let same : lists_of c.cut.new.column ≡ old = subst (λ (b : Bool). Cuts old step (lists_of c.cut.new.column) (Ok b)) c.if-not-is_cut.true (c.in-Ok-cut.ensures {u = tt}) in
    let told = c.in-Err-apply.ensures {u = tt} in
    let own = reached_error start old c.args.plan.now c.loop-i.i step c.in-Err-apply.error (c.in-Ok.ensures {u = tt}).answer.0 c.loop-i.invariant c.loop-i-test.true c.index-plan-i.is
    (subst (λ (lists : RawLists). StepAnswers lists step (Err c.in-Err-apply.error)) same told.step)
    (λ (light : is_light step ≡ true) wants. told.light light (ap (λ (e : PolarsError). Err e) wants)) in
    subst (λ (e : ColumnError). Relayouts start c.args.plan.now (Err e)) (sym c.step_error.ensures) own

pub returns-in-Err-apply-clause-light : goal.returns-in-Err-apply-clause-light
returns-in-Err-apply-clause-light c = λ light same. light_error (lists_of_parts c.args.parts) c.args.plan.now c.step_error.result (returns-in-Err-apply-clause-answer c) light (let h = same in cc)

pub returns-clause-answer : goal.returns-clause-answer
returns-clause-answer c = reached_end (lists_of_parts c.args.parts) (lists_of c.loop-i.column) c.args.plan.now c.loop-i.i (c.in-Ok.ensures {u = tt}).answer.0 c.loop-i.invariant c.loop-i-test.false
