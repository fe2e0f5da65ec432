use Rattle.column_boolean.specs.Rows.{boolean_text}
use Rattle.column_boolean.proofs.TextLemmas.{plain_writes, of_ok}
use Rattle.column_boolean.proofs.debug.BooleanArrayDebug.fmt.Goals as goal

pub returns : goal.returns
returns g c = record {
  writes = λ plain ok. plain_writes g.W.Write.write_str_gives _ _ (boolean_text c.args.self.now) (of_ok c.write_array.result c.write_array.ensures ok) plain;
}
