-- Laws of faults of views.
use Rattle.std.proofs.Common.{◌≡◌, ◌↔◌, ℕ, zero, suc, ◌<◌, ◌^◌, ◌≤◌, Bool, true, false, not, List, [], ◌∷◌, length, Option, Some, None, refl, sym, subst, slice_index_or, arith}
use Rattle.std.specs.Prelude.{◌&&◌}
use Rattle.column_base.specs.declared.errors.Cause.{Cause}
use Rattle.column_base.specs.declared.errors.Cause.TheVariants.{InvalidUtf8}
use Rattle.column_base.specs.Answers.{cause_if, ◌or_else◌}
use Rattle.column_base.specs.Utf8.{is_well_formed_utf8, CanHold}
use Rattle.column_base.proofs.AnswersLemmas as answers
use Rattle.column_view.specs.Views.{StandsAt, view_content, inline_view, long_view}
use Rattle.column_view.specs.ViewFaults.{Says, layout_fault, content_fault, view_fault, views_fault, contents_fault}
use Rattle.column_view.proofs.ViewsLemmas.{view_length-inline_view, view_content-inline_view, layout_fault-inline_view, view_length-long_view, view_content-long_view, layout_fault-long_view}

-- ---- no fault

pub first_none : (first second : Option Cause) → first or_else second ≡ None → first ≡ None
first_none first second none = (answers.first_none first second none).0

pub rest_none : (first second : Option Cause) → first or_else second ≡ None → second ≡ None
rest_none first second none = (answers.first_none first second none).1

pub none_both : (first second : Option Cause) → first ≡ None → second ≡ None → first or_else second ≡ None
none_both first second none same = rw (none, same) refl

pub ruleset faults = (first_none, rest_none)

-- ---- texts

text_if : (text test : Bool) → cause_if (text && not test) InvalidUtf8 ≡ None → text ≡ true → test ≡ true
text_if true true fine is = refl
text_if true false fine is = absurd (cc)
text_if false test fine is = absurd (cc)

if_text : (text test : Bool) → (text ≡ true → test ≡ true) → cause_if (text && not test) InvalidUtf8 ≡ None
if_text true test holds = rw (holds refl) refl
if_text false test holds = refl

-- what a view without a fault says may be held
pub held : (text : Bool) (view : List ℕ) (buffers : List (List ℕ)) → view_fault text view buffers ≡ None → CanHold text (view_content view buffers)
unfolding content_fault
held text view buffers fine =
    text_if text (is_well_formed_utf8 (view_content view buffers)) (rest_none (layout_fault view buffers) (content_fault text view buffers) fine)

-- and a view of a sound layout has no fault where it may
pub fine_where_held : (text : Bool) (view : List ℕ) (buffers : List (List ℕ)) → layout_fault view buffers ≡ None → CanHold text (view_content view buffers) → view_fault text view buffers ≡ None
unfolding content_fault
fine_where_held text view buffers fine may =
    none_both (layout_fault view buffers) (content_fault text view buffers) fine (if_text text (is_well_formed_utf8 (view_content view buffers)) may)

-- byte strings have no fault of content
no_content_fault : (view : List ℕ) (buffers : List (List ℕ)) → content_fault false view buffers ≡ None
unfolding content_fault
no_content_fault view buffers = refl

or_none : (first : Option Cause) → first or_else None ≡ first
or_none None = refl
or_none (Some cause) = refl

-- no view has a fault exactly where each has none
fine_each : (text : Bool) (views buffers : List (List ℕ)) (i : ℕ) → views_fault text views buffers ≡ None → i < length views → view_fault text (slice_index_or views i []) buffers ≡ None
fine_each text [] buffers i fine within = absurd (omega arith)
fine_each text (view ∷ views) buffers zero fine within = first_none (view_fault text view buffers) (views_fault text views buffers) fine
fine_each text (view ∷ views) buffers (suc i) fine within =
    fine_each text views buffers i (rest_none (view_fault text view buffers) (views_fault text views buffers) fine) (omega arith)

each_fine : (text : Bool) (views buffers : List (List ℕ)) → ((i : ℕ) → i < length views → view_fault text (slice_index_or views i []) buffers ≡ None) → views_fault text views buffers ≡ None
each_fine text [] buffers each = refl
each_fine text (view ∷ views) buffers each =
    none_both (view_fault text view buffers) (views_fault text views buffers) (each 0 (omega arith)) (each_fine text views buffers (λ i within. each (suc i) (omega arith)))

pub fine_exactly : (text : Bool) (views buffers : List (List ℕ)) → (views_fault text views buffers ≡ None) ↔ ((i : ℕ) → i < length views → view_fault text (slice_index_or views i []) buffers ≡ None)
fine_exactly text views buffers = ((λ fine i within. fine_each text views buffers i fine within), each_fine text views buffers)

pub layout_fine : (text : Bool) (view : List ℕ) (buffers : List (List ℕ)) → view_fault text view buffers ≡ None → layout_fault view buffers ≡ None
layout_fine text view buffers fine = first_none (layout_fault view buffers) (content_fault text view buffers) fine

-- where no view has a fault as a byte string, the first fault as text is that of a content
pub texts_fault : (views buffers : List (List ℕ)) → views_fault false views buffers ≡ None → views_fault true views buffers ≡ contents_fault views buffers
texts_fault [] buffers fine = refl
texts_fault (view ∷ views) buffers fine =
    let this = first_none (view_fault false view buffers) (views_fault false views buffers) fine in
    let rest = rest_none (view_fault false view buffers) (views_fault false views buffers) fine in
    let layout = first_none (layout_fault view buffers) (content_fault false view buffers) this in
    rw (layout, texts_fault views buffers rest) refl

-- where no view has a fault as text, none has one as a byte string
pub strings_fault : (text : Bool) (views buffers : List (List ℕ)) → views_fault text views buffers ≡ None → views_fault false views buffers ≡ None
strings_fault text [] buffers fine = refl
strings_fault text (view ∷ views) buffers fine =
    let this = first_none (view_fault text view buffers) (views_fault text views buffers) fine in
    let rest = rest_none (view_fault text view buffers) (views_fault text views buffers) fine in
    let layout = first_none (layout_fault view buffers) (content_fault text view buffers) this in
    rw (layout, no_content_fault view buffers, strings_fault text views buffers rest) refl

-- ---- views that are made

pub says_inline : (bytes : List ℕ) (buffers : List (List ℕ)) → length bytes ≤ 12 → Says (inline_view bytes) buffers bytes
says_inline bytes buffers few =
    let is = view_content-inline_view bytes few buffers in
    record {
      count = view_length-inline_view bytes few;
      content = is;
      fine = λ text may. fine_where_held text (inline_view bytes) buffers (layout_fault-inline_view bytes few buffers) (subst (CanHold text) (sym is) may);
    }

pub says_long : (bytes : List ℕ) (index start : ℕ) (buffers : List (List ℕ)) → 12 < length bytes → length bytes < 2 ^ 32 → index < 2 ^ 32 → start < 2 ^ 32 → StandsAt bytes buffers index start → Says (long_view bytes index start) buffers bytes
says_long bytes index start buffers long fits small low stands =
    let is = view_content-long_view bytes index start long fits small low buffers stands in
    record {
      count = view_length-long_view bytes index start long fits;
      content = is;
      fine = λ text may. fine_where_held text (long_view bytes index start) buffers (layout_fault-long_view bytes index start long fits small low buffers stands) (subst (CanHold text) (sym is) may);
    }
