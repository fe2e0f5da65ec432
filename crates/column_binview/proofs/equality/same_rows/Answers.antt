use Rattle.std.proofs.Common.{rules, ◌<◌, length}
use Rattle.column_binview.specs.Slots.{view_slots}
use Rattle.column_binview.proofs.RowsLemmas.{rows_differ, rows_go_on}
use Rattle.column_binview.proofs.equality.same_rows.Goals as goal

pub returns-then-not-same_row : goal.returns-then-not-same_row
returns-then-not-same_row g c =
    let first : c.loop-i.i < length (view_slots c.args.a.now) = search rules in
    let second : c.loop-i.i < length (view_slots c.args.b.now) = search rules in
    rows_differ c.args.a.now c.args.b.now c.loop-i.i c.same_row.result first second c.same_row.ensures c.if-not-same_row.true c.loop-i.invariant

pub loop-i-preserved : goal.loop-i-preserved
loop-i-preserved g c =
    let first : c.loop-i.i < length (view_slots c.args.a.now) = search rules in
    let second : c.loop-i.i < length (view_slots c.args.b.now) = search rules in
    rows_go_on c.args.a.now c.args.b.now c.loop-i.i c.same_row.result first second c.same_row.ensures c.if-not-same_row.false c.loop-i.invariant
