-- By the laws of builders and of blocks.
use Rattle.std.proofs.Common.{false}
use Rattle.column_binview.specs.Builders.{builder_of, row_growth}
use Rattle.column_base.specs.Pushes.{grown}
use Rattle.column_rows.proofs.ViewsLemmas.{rows_appended, appended_slots, full_of}
use Rattle.column_rows.proofs.views.rows_are_appended.Goals as goal

pub returns-clause-appended : goal.returns-clause-appended
returns-clause-appended c = λ old rows sound fine.
    let appends = c.pushed_rows_append.ensures.rows false (builder_of old) rows (c.builder_of_lists_is_sound.ensures.sound false old sound) fine in
    let new = grown row_growth (builder_of old) rows in
    (appended_slots old rows new appends (c.builder_of_lists_is_sound.ensures.same old), rows_appended old rows new appends)

pub returns-clause-refused : goal.returns-clause-refused
returns-clause-refused c = λ old rows cause fits refused. (
  c.rows_overflow_alone.ensures (builder_of old) rows cause refused,
  full_of (λ blocks value. (c.calls_append.ensures.stored blocks value).count) old rows cause fits refused,
)
