use Rattle.std.proofs.Common.{◌≡◌, ◌++◌, ℕ, List, take, codes, sym, ◌∙◌, ap, append_assoc}
use Rattle.std.specs.List.{flat_map}
use Rattle.column_tool.specs.Text.{named_line}
use Rattle.column_tool.proofs.TextLemmas.{next_found}
use Rattle.column_tool.proofs.text.append_buffers.Goals as goal

pub loop-i-preserved : goal.loop-i-preserved
loop-i-preserved c =
    let line = named_line (codes "buffer=") in
    let all = c.args.buffers.now in
    c.in_ok-append_named.ensures
    ∙ ap (λ (bytes : List ℕ). c.loop-i.text.items ++ line bytes) c.as_slice.ensures
    ∙ ap (λ (text : List ℕ). text ++ line c.get.result.now) c.loop-i.invariant
    ∙ append_assoc c.args.text.now.items (flat_map line (take c.loop-i.i all)) (line c.get.result.now)
    ∙ ap (λ (text : List ℕ). c.args.text.now.items ++ text) (sym (next_found (codes "buffer=") all c.loop-i.i c.get.result.now c.get.ensures))
