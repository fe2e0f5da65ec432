use Rattle.column_binview.proofs.SlotsLemmas.{nulls_are_sound}
use Rattle.column_binview.proofs.array.BinaryViewArrayGeneric.tell_null.Goals as goal

pub returns : goal.returns
returns g c = nulls_are_sound g.K.ViewKind.IS_UTF8 c.args.length
