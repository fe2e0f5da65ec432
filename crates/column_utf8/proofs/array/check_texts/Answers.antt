use Rattle.std.proofs.Common.{◌≡◌, None, arith}
use Rattle.std.specs.Option.{option_copied}
use Rattle.column_storage.specs.Validity.{flags_fault}
use Rattle.column_offset.specs.Offsets.{AreSoundOffsets}
use Rattle.column_offset.specs.Text.{cut_fault}
use Rattle.column_binary.specs.Slots.{offset_lists, slot_count}
use Rattle.column_utf8.proofs.TextsLemmas.{fine}
use Rattle.column_utf8.proofs.array.check_texts.Goals as goal

pub returns : goal.returns
returns g c =
    let lists = offset_lists c.args.offsets.now c.args.values.now (option_copied c.args.validity) in
    let sound : AreSoundOffsets lists.offsets = rw (← c.as_slice.ensures.same) c.as_slice.ensures.sound in
    let texts : cut_fault lists.offsets lists.values ≡ None = rw (← c.as_slice.ensures.same, ← c.as_slice-2.ensures) (c.in_ok-check_utf8.ensures {u = tt}).0 in
    let count : c.len_proxy.result ≡ slot_count lists = omega (arith, c.len_proxy.ensures) in
    let flags : flags_fault (slot_count lists) lists.flags ≡ None = rw (← count) (c.in_ok-check_validity.ensures {u = tt}).0 in
    fine lists sound texts flags
