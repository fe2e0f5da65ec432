-- A row more is a slot more.
use Rattle.std.proofs.Common.{◌<◌, ◌++◌, ◌∙◌, ap, refl, pos, length, map, arith, List, Option, ℕ, ℤ}
use Rattle.std.specs.Int.{w64}
use Rattle.std.specs.Option.{option_copied}
use Rattle.std.proofs.lemmas.List.{take_all}
use Rattle.column_base.specs.Native.{signed_bytes}
use Rattle.column_fixed.specs.Rows.{slot_of}
use Rattle.column_primitive.specs.Numbers.{NumberArray, number_slots}
use Rattle.column_primitive.specs.Rows.{slot_of as number_slot}
use Rattle.column_rows.proofs.NumbersLemmas.{row_fits, slot_added}
use Rattle.column_rows.proofs.numbers.push_numbers.Goals as goal

pub number_of_row-requires : goal.number_of_row-requires
number_of_row-requires g c =
    let rows = g.R.RowList.rows c.args.rows.now in
    let within : c.loop-i.i < length rows = omega (arith, c.loop-i-test.true, c.count-i-end.ensures) in
    row_fits 8 rows c.loop-i.i (option_copied c.row.result) c.requires within c.row.ensures

pub loop-i-preserved : goal.loop-i-preserved
loop-i-preserved g c =
    let bytes = signed_bytes w64 in
    let rows = g.R.RowList.rows c.args.rows.now in
    let within : c.loop-i.i < length rows = omega (arith, c.loop-i-test.true, c.count-i-end.ensures) in
    let pushed = (c.in_ok-push.ensures {u = tt}).answer.1 in
    let row = c.number_of_row.result in
    record {
      dtype = ap (λ (a : NumberArray ℤ). a.dtype) pushed ∙ c.loop-i.invariant.dtype;
      slots = slot_added _ _ _ rows c.loop-i.i (option_copied c.row.result) (number_slot bytes (pos 0) row) within c.row.ensures c.loop-i.invariant.slots
          (ap (λ (a : NumberArray ℤ). number_slots bytes a.lists) pushed ∙ c.push_adds_a_slot.ensures bytes (pos 0) c.loop-i.builder.array row c.known.ensures.sound)
          c.number_of_row.ensures;
    }

pub returns : goal.returns
returns g c =
    let rows = g.R.RowList.rows c.args.rows.now in
    let all = take_all c.loop-i.i rows (omega (arith, c.loop-i-test.false, c.count-i-end.ensures)) in
    (refl, (c.loop-i.invariant.dtype, c.loop-i.invariant.slots ∙ ap (λ (rs : List (Option (List ℕ))). number_slots (signed_bytes w64) c.args.builder.now.array.lists ++ map (slot_of 8) rs) all))
