use Rattle.std.proofs.Common.{◌∙◌, sym, ap, arith, List, ℕ, get_or}
use Rattle.column_binview.proofs.SlotsLemmas.{layout_at, bytes_at, held_at, length-content}
use Rattle.column_binview.proofs.array.BinaryViewArrayGeneric.value_bytes.Goals as goal

pub get_slice_unchecked-requires : goal.get_slice_unchecked-requires
get_slice_unchecked-requires g c =
    let at = c.index-views-i.is ∙ ap (λ (xs : List (List ℕ)). get_or xs c.args.i c.index-views-i.result) (c.as_slice-views.ensures ∙ c.views.ensures) in
    rw c.data_buffers.ensures (layout_at g.K.ViewKind.IS_UTF8 c.args.self.now c.args.i c.index-views-i.result at c.known.ensures.sound c.requires)

pub returns-clause-bytes : goal.returns-clause-bytes
returns-clause-bytes g c =
    let at = c.index-views-i.is ∙ ap (λ (xs : List (List ℕ)). get_or xs c.args.i c.index-views-i.result) (c.as_slice-views.ensures ∙ c.views.ensures) in
    rw (c.get_slice_unchecked.ensures, c.data_buffers.ensures) (sym (bytes_at c.args.self.now c.args.i c.index-views-i.result at c.known.ensures.flagged c.requires))

pub returns-clause-held : goal.returns-clause-held
returns-clause-held g c =
    let at = c.index-views-i.is ∙ ap (λ (xs : List (List ℕ)). get_or xs c.args.i c.index-views-i.result) (c.as_slice-views.ensures ∙ c.views.ensures) in
    rw (c.get_slice_unchecked.ensures, c.data_buffers.ensures) (held_at g.K.ViewKind.IS_UTF8 c.args.self.now c.args.i c.index-views-i.result at c.known.ensures.sound c.requires)

pub returns-clause-fits : goal.returns-clause-fits
returns-clause-fits g c =
    rw c.get_slice_unchecked.ensures (omega (arith, length-content c.index-views-i.result c.data_buffers.result.now, c.length-length.ensures))
