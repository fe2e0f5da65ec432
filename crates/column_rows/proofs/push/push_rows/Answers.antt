-- A row more is pushed, or it is the first that is refused.
use Rattle.std.proofs.Common.{◌≡◌, ◌<◌, ◌∙◌, ap, map, length, Err, arith}
use Rattle.std.specs.Option.{option_copied}
use Rattle.std.proofs.lemmas.Result.{err_from_is_err_and}
use Rattle.column_base.specs.Pushes.{grown, growth_fault}
use Rattle.column_base.proofs.AnswersLemmas.{answers_err}
use Rattle.column_rows.proofs.PushLemmas.{pushed_more, pushed_refused}
use Rattle.column_rows.proofs.push.push_rows.Goals as goal

pub returns-in_err-push_row : goal.returns-in_err-push_row
returns-in_err-push_row g c =
    let rows = g.R.RowList.rows c.args.rows.now in
    let old = g.B.Growing.lists c.args.builder.now in
    let now = g.B.Growing.lists c.loop-i.builder in
    let next = g.B.Growing.lists c.push_row.new.self in
    let row = option_copied c.row.result in
    let within : c.loop-i.i < length rows = omega (arith, c.loop-i-test.true, c.count-i-end.ensures) in
    let is = err_from_is_err_and c.from_residual.result c.from_residual.ensures.1 in
    rw (is.1 ∙ ap Err is.2) (answers_err (g.B.Growing.growth.fault now (g.B.RowBuilder.taken row)) (growth_fault g.B.Growing.growth old (map g.B.RowBuilder.taken rows))
    (λ (done : Unit {0}). next ≡ g.B.Growing.growth.pushed now (g.B.RowBuilder.taken row)) (λ (done : Unit {0}). next ≡ grown g.B.Growing.growth old (map g.B.RowBuilder.taken rows)) c.in_err-push_row.field-0.0 c.in_err-push_row.ensures
    (λ cause refused. pushed_refused g.B.Growing.growth g.B.RowBuilder.taken rows old now c.loop-i.i row cause c.loop-i.invariant within c.row.ensures refused))

pub loop-i-preserved : goal.loop-i-preserved
loop-i-preserved g c =
    let rows = g.R.RowList.rows c.args.rows.now in
    let within : c.loop-i.i < length rows = omega (arith, c.loop-i-test.true, c.count-i-end.ensures) in
    pushed_more g.B.Growing.growth g.B.RowBuilder.taken rows (g.B.Growing.lists c.args.builder.now) (g.B.Growing.lists c.loop-i.builder) (g.B.Growing.lists c.push_row.new.self) c.loop-i.i (option_copied c.row.result) c.loop-i.invariant within c.row.ensures c.in_ok-push_row.ensures.0 c.in_ok-push_row.ensures.1
