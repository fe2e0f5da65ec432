use Rattle.std.proofs.Common.{◌∙◌, length, ap}
use Rattle.column_fixed.proofs.SlotsLemmas.{sound_plain}
use Rattle.column_fixed.proofs.array.FixedSizeBinaryArray.from_slice.Goals as goal

pub of-requires : goal.of-requires
of-requires g c = sound_plain g.row.N (length c.args.a.now) c.in_ok-values-2.values c.requires (ap length (c.in_ok-values-2.ensures.1 ∙ c.in_ok-values.ensures.items) ∙ c.as_flattened.ensures.len)
