-- Contents that are texts, and the slots that have them.
use Rattle.std.proofs.Common.{◌≡◌, ℕ, Bool, true, false, not, List, [], ◌∷◌, Option, None, refl, sym, ◌∙◌, ap}
use Rattle.std.specs.Prelude.{◌&&◌}
use Rattle.column_base.specs.declared.errors.Cause.{Cause}
use Rattle.column_base.specs.declared.errors.Cause.TheVariants.{InvalidUtf8}
use Rattle.column_base.specs.Answers.{cause_if, ◌or_else◌}
use Rattle.column_base.specs.Slots.{values_of}
use Rattle.column_base.specs.Utf8.{is_well_formed_utf8, are_well_formed_utf8}
use Rattle.column_storage.specs.Validity.{AreFlagsOf}
use Rattle.column_view.specs.Views.{view_content}
use Rattle.column_view.specs.ViewFaults.{content_fault, contents_fault}
use Rattle.column_binview.specs.Slots.{ViewLists, view_count, contents, view_slots, AreSoundViews}
use Rattle.column_binview.proofs.SlotsLemmas.{values_of-view_slots, no_contents_fault}

first_text : (test rest : Bool) → cause_if (not test) InvalidUtf8 or_else cause_if (not rest) InvalidUtf8 ≡ cause_if (not (test && rest)) InvalidUtf8
first_text true rest = refl
first_text false rest = refl

contents_are_texts : (views buffers : List (List ℕ)) → contents_fault views buffers ≡ cause_if (not (are_well_formed_utf8 (contents views buffers))) InvalidUtf8
unfolding content_fault
contents_are_texts [] buffers = refl
contents_are_texts (view ∷ views) buffers =
    ap (λ (fault : Option Cause). content_fault true view buffers or_else fault) (contents_are_texts views buffers)
    ∙ first_text (is_well_formed_utf8 (view_content view buffers)) (are_well_formed_utf8 (contents views buffers))

pub contents_fault-slots : (lists : ViewLists) → AreFlagsOf (view_count lists) lists.flags → contents_fault lists.views lists.buffers ≡ cause_if (not (are_well_formed_utf8 (values_of (view_slots lists)))) InvalidUtf8
contents_fault-slots lists all =
    contents_are_texts lists.views lists.buffers
    ∙ ap (λ (values : List (List ℕ)). cause_if (not (are_well_formed_utf8 values)) InvalidUtf8) (sym (values_of-view_slots lists all))

no_cause : (test : Bool) → cause_if (not test) InvalidUtf8 ≡ None → test ≡ true
no_cause true none = refl
no_cause false none = absurd (cc)

pub texts_are : (lists : ViewLists) → AreSoundViews true lists → are_well_formed_utf8 (values_of (view_slots lists)) ≡ true
texts_are lists sound = no_cause _ (sym (contents_fault-slots lists sound.flagged) ∙ no_contents_fault lists sound)

pub ruleset text_slots = (contents_fault-slots, texts_are)
