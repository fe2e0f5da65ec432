use Rattle.std.proofs.Common.{◌∙◌, ap, map, refl}
use Rattle.std.proofs.lemmas.List.{take_all}
use Rattle.column_primitive.proofs.RowsLemmas.{recast_more}
use Rattle.column_primitive.proofs.signs.recast_all.Goals as goal

pub loop-value-preserved : goal.loop-value-preserved
loop-value-preserved g c =
    recast_more g.T.Recast.recast g.T.NativeType.le_bytes g.T.Other.NativeType.le_bytes c.args.values.now c.loop-value.value-index c.value-item.result c.recast.result c.push.new.self.items c.loop-value.recasts.items
    c.loop-value-test.true c.value-item.is c.in_ok-push.ensures.items c.recast.ensures.value c.recast.ensures.bytes c.loop-value.invariant

pub returns : goal.returns
returns g c =
    let all = take_all c.loop-value.value-index c.args.values.now c.loop-value-test.false in
    (refl, (c.loop-value.invariant.0 ∙ ap (map g.T.Recast.recast) all, c.loop-value.invariant.1 ∙ ap (map g.T.NativeType.le_bytes) all))
