use Rattle.std.proofs.Common.{◌≡◌, ◌<◌, ◌∙◌, sym, ap, subst, List, ℕ, get_or}
use Rattle.column_base.specs.Slots.{slot_at}
use Rattle.column_base.specs.Utf8.{CanHold}
use Rattle.column_blocks.specs.Sources.{builder_bytes}
use Rattle.column_binview.specs.Slots.{view_count, view_slots}
use Rattle.column_binview.specs.Builders.{ViewBuilder, view_builder, lists_of}
use Rattle.column_binview.proofs.SlotsLemmas.{layout_at, bytes_at, held_at}
use Rattle.column_binview.proofs.builder.MutableBinaryViewArray.value_bytes.Goals as goal

pub value_from_view_unchecked-requires : goal.value_from_view_unchecked-requires
value_from_view_unchecked-requires g c =
    let old = view_builder c.self.inside.rows.rows (builder_bytes c.self.inside.blocks c.self.inside.sources) in
    let at = c.index-views-i.is ∙ ap (λ (xs : List (List ℕ)). get_or xs c.args.i c.index-views-i.result) c.views.ensures in
    let within = subst (λ (b : ViewBuilder). c.args.i < view_count (lists_of b)) (sym c.self.view_is) c.requires in
    layout_at g.K.ViewKind.IS_UTF8 (lists_of old) c.args.i c.index-views-i.result at c.self.invariant.array within

pub returns-clause-bytes : goal.returns-clause-bytes
returns-clause-bytes g c =
    let old = view_builder c.self.inside.rows.rows (builder_bytes c.self.inside.blocks c.self.inside.sources) in
    let at = c.index-views-i.is ∙ ap (λ (xs : List (List ℕ)). get_or xs c.args.i c.index-views-i.result) c.views.ensures in
    let within = subst (λ (b : ViewBuilder). c.args.i < view_count (lists_of b)) (sym c.self.view_is) c.requires in
    subst (λ (b : ViewBuilder). c.value_from_view_unchecked.result.now ≡ (slot_at (view_slots (lists_of b)) c.args.i).bytes) c.self.view_is
    (c.value_from_view_unchecked.ensures ∙ sym (bytes_at (lists_of old) c.args.i c.index-views-i.result at c.self.invariant.array.flagged within))

pub returns-clause-held : goal.returns-clause-held
returns-clause-held g c =
    let old = view_builder c.self.inside.rows.rows (builder_bytes c.self.inside.blocks c.self.inside.sources) in
    let at = c.index-views-i.is ∙ ap (λ (xs : List (List ℕ)). get_or xs c.args.i c.index-views-i.result) c.views.ensures in
    let within = subst (λ (b : ViewBuilder). c.args.i < view_count (lists_of b)) (sym c.self.view_is) c.requires in
    subst (CanHold g.K.ViewKind.IS_UTF8) (sym c.value_from_view_unchecked.ensures) (held_at g.K.ViewKind.IS_UTF8 (lists_of old) c.args.i c.index-views-i.result at c.self.invariant.array within)
