-- The rows of texts are texts.
use Rattle.std.proofs.Common.{true}
use Rattle.column_binary.specs.Slots.{offset_slots}
use Rattle.column_relayout.proofs.RebuildLemmas.{bytes_answer, given_texts}
use Rattle.column_relayout.proofs.rebuild.texts_to_others.Goals as goal

pub write_rows-requires : goal.write_rows-requires
write_rows-requires g c = λ same. rw c.into_binary-bytes.ensures.same (given_texts (offset_slots c.args.array) c.known.ensures.sound.texts)

pub returns : goal.returns
returns g c = bytes_answer g.O.Offset.IS_LARGE true c.args.array c.args.kind c.write_rows.result (rw c.into_binary-bytes.ensures.same at c.write_rows.ensures)
