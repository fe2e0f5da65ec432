use Rattle.std.proofs.Common.{◌≤◌, ◌+◌, sym, subst, refl}
use Rattle.column_primitive.specs.Numbers.{number_lists, number_array, number_count, NumberArray, IsNumberPart}
use Rattle.column_primitive.proofs.NumbersLemmas.{part_given}
use Rattle.column_primitive.proofs.array.PrimitiveArray.slice.Goals as goal

pub returns : goal.returns
returns g c =
    let old = number_array c.self.inside.dtype (number_lists c.self.inside.values c.self.inside.validity) in
    let within : c.args.offset + c.args.length ≤ number_count old.lists = subst (λ (v : NumberArray _). c.args.offset + c.args.length ≤ number_count v.lists) (sym c.self.view_is) c.requires in
    subst (λ (v : NumberArray _). IsNumberPart g.T.NativeType.le_bytes v c.args.offset c.args.length (number_array c.self.inside.dtype (number_lists c.slice.new.self c.slice_validity.new.validity))) c.self.view_is
    (part_given g.T.NativeType.le_bytes old c.args.offset c.args.length _ _ _ c.self.invariant.sound within refl c.slice.ensures c.slice_validity.ensures)
