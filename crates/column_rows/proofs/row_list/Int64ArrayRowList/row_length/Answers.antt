-- A number has eight bytes.
use Rattle.std.proofs.Common.{◌∙◌, sym}
use Rattle.std.specs.Int.{w64}
use Rattle.column_base.specs.Native.{signed_bytes}
use Rattle.column_rows.proofs.RowsLemmas.{number_row}
use Rattle.column_rows.proofs.row_list.Int64ArrayRowList.row_length.Goals as goal

pub returns-then-is_valid : goal.returns-then-is_valid
returns-then-is_valid c =
    number_row c.args.self.now.lists c.args.i (c.slot_is_number.ensures.all (signed_bytes w64) c.args.self.now.lists c.known.ensures.sound) c.requires (sym c.is_valid.ensures ∙ c.if-is_valid.true)
