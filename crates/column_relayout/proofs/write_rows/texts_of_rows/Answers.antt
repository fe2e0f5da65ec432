-- Rows that are texts are texts.
use Rattle.column_relayout.proofs.WrittenLemmas.{parts_are}
use Rattle.column_relayout.proofs.RebuildLemmas.{rows_are_texts}
use Rattle.column_relayout.proofs.write_rows.texts_of_rows.Goals as goal

pub new_unchecked-texts-requires-clause-sound : goal.new_unchecked-texts-requires-clause-sound
new_unchecked-texts-requires-clause-sound g c =
    let inner = c.into_inner-offsets.ensures in
    rows_are_texts g.P.Offset.IS_LARGE (g.R.RowList.rows c.args.rows.now) c.in_ok-bytes.bytes _ (parts_are c.in_ok-bytes.bytes _ _ _ inner.offsets inner.values inner.flags) inner.sound c.in_ok-bytes.ensures.1.slots c.requires.texts
