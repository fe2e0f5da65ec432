use Rattle.column_storage.specs.Bits.{given_bits}
use Rattle.column_boolean.specs.Rows.{boolean_rows}
use Rattle.column_boolean.proofs.TextLemmas.{wrote_both, text_more, text_all}
use Rattle.column_boolean.proofs.debug.write_rows.Goals as goal

pub loop-i-preserved : goal.loop-i-preserved
loop-i-preserved g c =
    rw (text_more (boolean_rows c.args.array.now) c.loop-i.i c.get.result c.get.ensures)
    (wrote_both g.W.Write.write_str_gives _ _ _ _ _ c.loop-i.invariant c.in_ok-write_part.ensures)

pub returns : goal.returns
returns g c = rw (text_all (given_bits c.args.array.now.flags) c.args.array.now.values c.loop-i.i (rw c.len-i-end.ensures.count at c.loop-i-test.false)) at c.loop-i.invariant
