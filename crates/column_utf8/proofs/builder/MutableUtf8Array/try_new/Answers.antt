use Rattle.std.proofs.Common.{ap}
use Rattle.column_storage.specs.Bits.{bits_given}
use Rattle.column_binary.specs.Slots.{offset_lists}
use Rattle.column_utf8.proofs.BuilderLemmas.{full_texts}
use Rattle.column_utf8.proofs.builder.MutableUtf8Array.try_new.Goals as goal

pub new_unchecked-requires-clause-full : goal.new_unchecked-requires-clause-full
new_unchecked-requires-clause-full g c =
    (full_texts (offset_lists c.args.offsets.offsets c.args.values.items (bits_given c.args.validity)) _ _ _ c.known.ensures.sound c.deref.ensures.value c.in_ok-check_full_texts.ensures.0 c.len_proxy.ensures (ap bits_given c.as_ref.ensures.value) c.in_ok-check_flags.ensures.1).0

pub new_unchecked-requires-clause-texts : goal.new_unchecked-requires-clause-texts
new_unchecked-requires-clause-texts g c =
    (full_texts (offset_lists c.args.offsets.offsets c.args.values.items (bits_given c.args.validity)) _ _ _ c.known.ensures.sound c.deref.ensures.value c.in_ok-check_full_texts.ensures.0 c.len_proxy.ensures (ap bits_given c.as_ref.ensures.value) c.in_ok-check_flags.ensures.1).1
