-- The causes in their order.
use Rattle.std.proofs.Common.{sym}
use Rattle.column_relayout.proofs.RebuildLemmas.{text_views_fault}
use Rattle.column_relayout.proofs.write_rows.write_cause.Goals as goal

pub returns-in-Utf8View : goal.returns-in-Utf8View
returns-in-Utf8View g c = rw (c.in-Utf8View.is, c.if_text-in-Utf8View.ensures, c.view_cause-in-Utf8View.ensures) (sym (text_views_fault c.args.text (g.R.RowList.rows c.args.rows.now)))

pub returns-in-Fixed : goal.returns-in-Fixed
returns-in-Fixed g c = rw c.in-Fixed.is (c.fixed_cause.ensures c.args.text)
