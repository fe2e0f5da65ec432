use Rattle.std.proofs.Common.{◌∙◌, ◌*◌, ◌<◌, ap, arith, take, refl}
use Rattle.std.proofs.lemmas.List.{take_all}
use Rattle.column_base.specs.Pushes.{grown}
use Rattle.column_fixed.specs.Slots.{FixedLists}
use Rattle.column_fixed.specs.Rows.{no_slots, row_growth}
use Rattle.column_fixed.proofs.RowsLemmas.{width_rows, rows_more}
use Rattle.column_fixed.proofs.builder.MutableFixedSizeBinaryArray.from.Goals as goal

pub push_row-requires : goal.push_row-requires
push_row-requires g c =
    let small : g.row.N * 1 < 9223372036854775808 = omega arith in
    (small, ap (λ (lists : FixedLists). lists.width) c.loop-row.invariant ∙ width_rows (no_slots g.row.N) (take c.loop-row.row-index c.args.slice.now))

pub loop-row-preserved : goal.loop-row-preserved
loop-row-preserved g c =
    rows_more (no_slots g.row.N) c.loop-row.builder.lists c.push_row.new.self.lists c.args.slice.now c.loop-row.row-index c.row-item.result c.loop-row-test.true c.row-item.is c.loop-row.invariant c.in_ok-push_row.ensures.1

pub returns : goal.returns
returns g c = (refl, c.loop-row.invariant ∙ ap (grown row_growth (no_slots g.row.N)) (take_all c.loop-row.row-index c.args.slice.now c.loop-row-test.false))
