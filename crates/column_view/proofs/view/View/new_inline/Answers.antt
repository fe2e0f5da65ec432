use Rattle.std.proofs.Common.{length, arith, ◌∙◌}
use Rattle.std.specs.Int.{w32, to_le_bytes}
use Rattle.column_view.specs.Views.{inline_view}
use Rattle.column_view.proofs.ViewsLemmas.{put_inline}
use Rattle.column_view.proofs.view.View.new_inline.Goals as goal

pub returns : goal.returns
unfolding inline_view
returns c =
    put_inline c.copy_from_slice.new.self c.copy_from_slice-2.new.self (to_le_bytes w32 (length c.args.bytes.now)) c.args.bytes.now
    (c.copy_from_slice.ensures.after ∙ c.to_le_bytes.ensures) c.copy_from_slice-2.ensures.after (omega arith) c.requires
