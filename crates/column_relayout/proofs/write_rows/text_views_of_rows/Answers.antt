-- Rows that are texts are texts.
use Rattle.std.proofs.Common.{true}
use Rattle.column_relayout.proofs.AppendLemmas.{contents_fine, texts_of}
use Rattle.column_relayout.proofs.RebuildLemmas.{views_written}
use Rattle.column_relayout.proofs.write_rows.text_views_of_rows.Goals as goal

pub to_utf8view_unchecked-requires : goal.to_utf8view_unchecked-requires
to_utf8view_unchecked-requires g c =
    contents_fine c.in_ok-bytes.bytes c.known.ensures.sound.flagged (texts_of c.in_ok-bytes.bytes (g.R.RowList.rows c.args.rows.now) c.in_ok-bytes.ensures.0 c.requires.texts)

pub returns : goal.returns
returns g c =
    rw c.in_ok-texts.ensures.1 (views_written true c.in_ok-bytes.bytes (g.R.RowList.rows c.args.rows.now) c.in_ok-bytes.ensures.0 c.in_ok-bytes.ensures.1 (rw c.in_ok-texts.ensures.1 at c.known-2.ensures))
