use Rattle.std.proofs.Common.{◌++◌, refl}
use Rattle.std.specs.Prelude.{codes}
use Rattle.column_boolean.specs.Rows.{boolean_rows, rows_text}
use Rattle.column_boolean.proofs.TextLemmas.{wrote_once, wrote_both, on_ok}
use Rattle.column_boolean.proofs.debug.write_array.Goals as goal

pub returns : goal.returns
returns g c =
    let rows = rows_text (boolean_rows c.args.array.now) in
    on_ok c.write_str-2.result c.write_str-2.ensures.ok
    (λ step.
    wrote_both g.W.Write.write_str_gives _ _ _ (codes "BooleanArray[" ++ rows) (codes "]")
    (wrote_both g.W.Write.write_str_gives _ _ _ (codes "BooleanArray[") rows (wrote_once g.W.Write.write_str_gives _ _ _ (c.in_ok-write_str.ensures.ok refl)) c.in_ok-write_rows.ensures)
    (wrote_once g.W.Write.write_str_gives _ _ (codes "]") step))
