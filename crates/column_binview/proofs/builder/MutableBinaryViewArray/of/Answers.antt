use Rattle.column_binview.proofs.BuildersLemmas.{sound-builder_of}
use Rattle.column_binview.proofs.builder.MutableBinaryViewArray.of.Goals as goal

pub invariant_of-result : goal.invariant_of-result
invariant_of-result g c = rw (c.from_parts.ensures, c.from_buffers.ensures, c.new-sources.ensures) (sound-builder_of g.K.ViewKind.IS_UTF8 _ c.requires)
