use Rattle.column_binview.proofs.BuildersLemmas.{sound-no_slots}
use Rattle.column_binview.proofs.builder.MutableBinaryViewArray.new.Goals as goal

pub invariant_of-result : goal.invariant_of-result
invariant_of-result g c = rw (c.new.ensures, c.new-2.ensures, c.new-3.ensures) (sound-no_slots g.K.ViewKind.IS_UTF8)
