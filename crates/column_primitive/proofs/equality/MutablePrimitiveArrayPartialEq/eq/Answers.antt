use Rattle.std.proofs.Common.{◌≡◌, ◌<◌, ◌∙◌, sym, arith, true, false}
use Rattle.std.specs.Option.{option_eq}
use Rattle.std.specs.Cmp.Lexicographic.{unequal}
use Rattle.column_primitive.specs.Numbers.{number_at, number_count, number_rows}
use Rattle.column_primitive.proofs.RowsLemmas.{rows-count, row_at}
use Rattle.column_primitive.proofs.EqualLemmas.{equal_more, equal_none, equal_all}
use Rattle.column_primitive.proofs.equality.MutablePrimitiveArrayPartialEq.eq.Goals as goal

pub returns-then-count-len : goal.returns-then-count-len
returns-then-count-len g c =
    let here = rows-count c.args.self.now.array.lists in
    let there = rows-count c.args.other.now.array.lists in
    sym (unequal (option_eq g.T.PartialEq.eq) (number_rows c.args.self.now.array.lists) (number_rows c.args.other.now.array.lists) (λ e. absurd (omega arith)))

pub returns-then-not-is_same_row : goal.returns-then-not-is_same_row
returns-then-not-is_same_row g c =
    let i = c.loop-i.i in
    let one = c.args.self.now.array.lists in
    let two = c.args.other.now.array.lists in
    let first : i < number_count one = omega arith in
    let second : i < number_count two = omega arith in
    let other : option_eq g.T.PartialEq.eq (number_at one i) (number_at two i) ≡ false = cc in
    sym (equal_none (option_eq g.T.PartialEq.eq) (number_rows one) (number_rows two) i _ _ (row_at one i c.known.ensures.sound first) (row_at two i c.known-2.ensures.sound second) other c.loop-i.invariant)

pub loop-i-preserved : goal.loop-i-preserved
loop-i-preserved g c =
    let i = c.loop-i.i in
    let one = c.args.self.now.array.lists in
    let two = c.args.other.now.array.lists in
    let first : i < number_count one = omega arith in
    let second : i < number_count two = omega arith in
    let same : option_eq g.T.PartialEq.eq (number_at one i) (number_at two i) ≡ true = cc in
    equal_more (option_eq g.T.PartialEq.eq) (number_rows one) (number_rows two) i _ _ (row_at one i c.known.ensures.sound first) (row_at two i c.known-2.ensures.sound second) same c.loop-i.invariant

pub returns : goal.returns
returns g c =
    let one = c.args.self.now.array.lists in
    let two = c.args.other.now.array.lists in
    let here = rows-count one in
    let there = rows-count two in
    sym (equal_all (option_eq g.T.PartialEq.eq) (number_rows one) (number_rows two) c.loop-i.i (omega arith) (omega arith)) ∙ c.loop-i.invariant
