-- The slots from a place on are a slice up to the end.
use Rattle.std.proofs.Common.{◌≡◌, ◌≤◌, ◌-◌, ◌∙◌, sym, subst, arith, ℕ}
use Rattle.column_base.specs.Lists.{sublist}
use Rattle.column_relayout.specs.Columns.{slots_of, part_of}
use Rattle.column_relayout.proofs.StepsLemmas.{right_fault, range_fits, right_steps}
use Rattle.column_relayout.proofs.cut.right.Goals as goal

pub returns-then-count-slots : goal.returns-then-count-slots
returns-then-count-slots g c =
    let old = g.C.Column.raw c.args.column.now in
    let new = g.C.Column.raw c.cut.new.self in
    let within : c.args.count ≤ c.count-slots.result = omega (arith, c.if-count-slots.true) in (
      right_fault _ _ c.args.count ∙ range_fits _ c.args.count (omega (arith, c.count-slots.ensures.slots)),
      right_steps old new c.args.count (sym c.count-slots.ensures.slots ∙ c.count-slots.ensures.count)
          (subst (λ (n : ℕ). new ≡ part_of old c.args.count (n - c.args.count)) c.count-slots.ensures.count c.cut.ensures.part)
          (subst (λ (n : ℕ). slots_of new ≡ sublist (slots_of old) c.args.count (n - c.args.count)) c.count-slots.ensures.count c.cut.ensures.slots)
          c.known.ensures,
    )
