-- The range is tested against the number of slots.
use Rattle.std.proofs.Common.{◌≡◌, ◌+◌, ◌≤◌, ◌∙◌, sym, true, nat_le, arith}
use Rattle.std.proofs.lemmas.Bool.Decides.{nat_tests}
use Rattle.column_relayout.proofs.StepsLemmas.{slice_fault, range_fits, slice_steps}
use Rattle.column_relayout.proofs.cut.slice.Goals as goal

pub returns-then-is_within : goal.returns-then-is_within
returns-then-is_within g c =
    let test : nat_le (c.args.offset + c.args.length) c.count.result ≡ true = sym c.is_within.ensures ∙ c.if-is_within.true in
    let within : c.args.offset + c.args.length ≤ c.count.result = grind (arith, nat_tests) in (
      slice_fault _ _ c.args.offset c.args.length ∙ range_fits _ (c.args.offset + c.args.length) (omega (arith, c.count.ensures.slots)),
      slice_steps (g.C.Column.raw c.args.column.now) (g.C.Column.raw c.cut.new.self) c.args.offset c.args.length c.cut.ensures.part c.cut.ensures.slots c.known.ensures,
    )
