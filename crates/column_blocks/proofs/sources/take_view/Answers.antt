use Rattle.std.proofs.Common.{rules, ◌≡◌, true}
use Rattle.column_view.specs.Views.{is_long}
use Rattle.column_view.proofs.ViewsLemmas.{names_buffer, long_length}
use Rattle.column_blocks.specs.Sources.{source_at}
use Rattle.column_blocks.proofs.sources.take_view.Goals as goal

pub take_buffer-requires-clause-buffer : goal.take_buffer-requires-clause-buffer
take_buffer-requires-clause-buffer c =
    let long : is_long c.args.view ≡ true = search rules in
    rw c.buffer_idx.ensures (names_buffer c.args.view (source_at c.args.sources.now c.args.source) (long_length c.args.view long) c.requires.fine)
