-- The first slots are a slice.
use Rattle.std.proofs.Common.{◌≤◌, ◌∙◌, arith}
use Rattle.column_relayout.proofs.StepsLemmas.{left_fault, range_fits, left_steps}
use Rattle.column_relayout.proofs.cut.left.Goals as goal

pub returns-then-count : goal.returns-then-count
returns-then-count g c =
    let within : c.args.count ≤ c.count.result = omega (arith, c.if-count.true) in (
      left_fault _ _ c.args.count ∙ range_fits _ c.args.count (omega (arith, c.count.ensures.slots)),
      left_steps (g.C.Column.raw c.args.column.now) (g.C.Column.raw c.cut.new.self) c.args.count c.cut.ensures.part c.cut.ensures.slots c.known.ensures,
    )
