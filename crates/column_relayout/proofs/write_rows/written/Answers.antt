-- What there is no cause against fits.
use Rattle.column_relayout.proofs.RebuildLemmas.{fits_binary32, fits_binary64, fits_utf8_32, fits_utf8_64}
use Rattle.column_relayout.proofs.write_rows.written.Goals as goal

pub bytes_of_rows-requires : goal.bytes_of_rows-requires
bytes_of_rows-requires g c = fits_binary32 c.args._text (g.R.RowList.rows c.args.rows.now) (rw c.in-Binary32.is at c.requires.fault)

pub bytes_of_rows-requires-in-Binary64 : goal.bytes_of_rows-requires-in-Binary64
bytes_of_rows-requires-in-Binary64 g c = fits_binary64 c.args._text (g.R.RowList.rows c.args.rows.now) (rw c.in-Binary64.is at c.requires.fault)

pub texts_of_rows-requires-clause-within : goal.texts_of_rows-requires-clause-within
texts_of_rows-requires-clause-within g c = (fits_utf8_32 c.args._text (g.R.RowList.rows c.args.rows.now) (rw c.in-Utf8_32.is at c.requires.fault)).1

pub texts_of_rows-requires-in-Utf8_64-clause-within : goal.texts_of_rows-requires-in-Utf8_64-clause-within
texts_of_rows-requires-in-Utf8_64-clause-within g c = (fits_utf8_64 c.args._text (g.R.RowList.rows c.args.rows.now) (rw c.in-Utf8_64.is at c.requires.fault)).1
