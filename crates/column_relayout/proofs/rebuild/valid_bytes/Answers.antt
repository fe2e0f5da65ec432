-- Null slots' bytes are taken off one by one, where there are any.
use Rattle.std.proofs.Common.{◌∙◌, sym, ap, length}
use Rattle.column_binary.specs.Slots.{offset_slots}
use Rattle.column_relayout.specs.Written.{bytes_in}
use Rattle.column_relayout.proofs.WrittenLemmas.{length-concat, no_nulls, counts_start}
use Rattle.column_relayout.proofs.rebuild.valid_bytes.Goals as goal

pub returns-then-null_count-eq0 : goal.returns-then-null_count-eq0
returns-then-null_count-eq0 g c =
    let slots = offset_slots c.args.array.now in
    ap length c.used_bytes-bytes.ensures.bytes ∙ length-concat slots ∙ ap bytes_in (sym (no_nulls slots (sym c.null_count.ensures ∙ c.if-null_count-eq0.true)))

pub loop-i-init : goal.loop-i-init
loop-i-init g c =
    let slots = offset_slots c.args.array.now in
    counts_start slots _ (ap length c.used_bytes-bytes.ensures.bytes ∙ length-concat slots)
