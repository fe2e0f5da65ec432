-- The rows of texts are texts.
use Rattle.std.proofs.Common.{true, refl}
use Rattle.column_binview.specs.Slots.{view_slots}
use Rattle.column_relayout.specs.Columns.{view_column}
use Rattle.column_relayout.proofs.RebuildLemmas.{rows_answer, given_texts}
use Rattle.column_relayout.proofs.rebuild.rebuild_text_views.Goals as goal

pub write_rows-requires : goal.write_rows-requires
write_rows-requires c = λ same. rw c.into_binview-bytes.ensures (given_texts (view_slots c.args.array) (c.known.ensures.texts refl))

pub returns : goal.returns
returns c = rows_answer (view_column true c.args.array) c.args.kind c.write_rows.result (rw c.into_binview-bytes.ensures at c.write_rows.ensures)
