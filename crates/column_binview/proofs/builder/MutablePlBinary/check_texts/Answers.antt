use Rattle.std.proofs.Common.{◌-◌, length, false}
use Rattle.column_blocks.specs.Blocks.{buffers_of}
use Rattle.column_binview.proofs.ChangesLemmas.{tail_fine}
use Rattle.column_binview.proofs.builder.MutablePlBinary.check_texts.Goals as goal

pub check_contents_of-requires : goal.check_contents_of-requires
check_contents_of-requires c =
    tail_fine false c.views.result.now c.self.inside.rows.rows.views (buffers_of c.self.inside.blocks) c.args.from (length c.views.result.now - c.args.from) c.views.ensures c.self.invariant.array.fine
