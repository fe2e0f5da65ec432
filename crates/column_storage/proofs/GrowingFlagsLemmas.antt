-- Laws of flags that grow or are cut back, and of the slots that they make beside values.
use Rattle.std.proofs.Common.{◌≡◌, ℕ, zero, suc, ◌+◌, ◌<◌, ◌≤◌, Bool, true, false, List, [], ◌∷◌, ◌++◌, length, take, replicate, Option, Some, None, refl, sym, ◌∙◌, ap, subst, arith, length-set}
use Rattle.std.specs.Prelude.{option_map, is_some, if◌then◌else◌, slice_set}
use Rattle.std.proofs.lemmas.Bool.Decides.{nat_tests}
use Rattle.std.proofs.lemmas.List.{length-append, length-replicate, length-take-le, replicate-append-replicate, take-replicate}
use Rattle.column_base.specs.Kinds.{Slot}
use Rattle.column_base.specs.Slots.{slots_by}
use Rattle.column_base.proofs.SlotsLemmas.{slots_by-sublist}
use Rattle.column_storage.specs.Bits.{flags_of, frozen_flags, pushed_flag, joined_flags, constant_flags, changed_flag}
use Rattle.column_storage.specs.Slots.{flagged_slots}
use Rattle.column_storage.specs.Validity.{AreFlagsOf}
use Rattle.column_storage.proofs.FlagsLemmas.{length-flags_of, flags_of-kept, length-kept_flags}
use Rattle.column_storage.proofs.SlotsLemmas.{flagged_slots-same}

-- ---- flags

length-both : (n m : ℕ) (xs ys : List Bool) → length xs ≡ n → length ys ≡ m → length (xs ++ ys) ≡ n + m
length-both n m xs ys e f = let size = length-append xs ys in omega arith

pub are_flags-pushed : (n : ℕ) (flags : Option (List Bool)) (bit : Bool) → AreFlagsOf n flags → AreFlagsOf (n + 1) (pushed_flag n flags bit)
are_flags-pushed n None true all = tt
are_flags-pushed n None false all = length-both n 1 (replicate n true) (false ∷ []) (length-replicate n true) refl
are_flags-pushed n (Some bits) true all = length-both n 1 bits (true ∷ []) all refl
are_flags-pushed n (Some bits) false all = length-both n 1 bits (false ∷ []) all refl

pub flags_of-pushed : (n : ℕ) (flags : Option (List Bool)) (bit : Bool) → flags_of (n + 1) (pushed_flag n flags bit) ≡ flags_of n flags ++ bit ∷ []
flags_of-pushed n None true = sym (replicate-append-replicate n 1 true)
flags_of-pushed n None false = refl
flags_of-pushed n (Some bits) true = refl
flags_of-pushed n (Some bits) false = refl

pub are_flags-joined : (n : ℕ) (flags : Option (List Bool)) (m : ℕ) (others : Option (List Bool)) → AreFlagsOf n flags → AreFlagsOf m others → AreFlagsOf (n + m) (joined_flags n flags m others)
are_flags-joined n None m None all rest = tt
are_flags-joined n (Some flags) m None all rest = length-both n m flags (replicate m true) all (length-replicate m true)
are_flags-joined n None m (Some others) all rest = length-both n m (replicate n true) others (length-replicate n true) rest
are_flags-joined n (Some flags) m (Some others) all rest = length-both n m flags others all rest

pub flags_of-joined : (n : ℕ) (flags : Option (List Bool)) (m : ℕ) (others : Option (List Bool)) → flags_of (n + m) (joined_flags n flags m others) ≡ flags_of n flags ++ flags_of m others
flags_of-joined n None m None = sym (replicate-append-replicate n m true)
flags_of-joined n (Some flags) m None = refl
flags_of-joined n None m (Some others) = refl
flags_of-joined n (Some flags) m (Some others) = refl

-- flags that are made at need, and those of others after them
pub flags-joined : (n : ℕ) (flags : Option (List Bool)) (m : ℕ) (others : Option (List Bool)) → option_map (λ bits. bits ++ flags_of m others) (if is_some others then Some (flags_of n flags) else flags) ≡ joined_flags n flags m others
flags-joined n None m None = refl
flags-joined n (Some flags) m None = refl
flags-joined n None m (Some others) = refl
flags-joined n (Some flags) m (Some others) = refl

pub are_flags-first : (flags : Option (List Bool)) (n all : ℕ) → n ≤ all → AreFlagsOf all flags → AreFlagsOf n (option_map (take n) flags)
are_flags-first None n all within given = tt
are_flags-first (Some bits) n all within given = length-take-le n bits (omega arith)

pub flags_of-first : (flags : Option (List Bool)) (n all : ℕ) → n ≤ all → flags_of n (option_map (take n) flags) ≡ take n (flags_of all flags)
flags_of-first None n all within = sym (take-replicate n all true within)
flags_of-first (Some bits) n all within = refl

pub are_flags-frozen : (flags : Option (List Bool)) (n : ℕ) → AreFlagsOf n flags → AreFlagsOf n (frozen_flags flags)
are_flags-frozen None n all = tt
are_flags-frozen (Some bits) n all = length-kept_flags bits n all

pub flags_of-frozen : (flags : Option (List Bool)) (n : ℕ) → AreFlagsOf n flags → flags_of n (frozen_flags flags) ≡ flags_of n flags
flags_of-frozen None n all = refl
flags_of-frozen (Some bits) n all = flags_of-kept bits n all

-- ---- flags of slots that are alike, and a flag that is changed

pub flags_of-constant : (n : ℕ) (bit : Bool) → flags_of n (constant_flags n bit) ≡ replicate n bit
flags_of-constant zero true = refl
flags_of-constant zero false = refl
flags_of-constant (suc n) true = refl
flags_of-constant (suc n) false = grind (arith, nat_tests)

pub joined-given : (n : ℕ) (bits : List Bool) (m : ℕ) (bit : Bool) → joined_flags n (Some bits) m (constant_flags m bit) ≡ Some (bits ++ replicate m bit)
joined-given n bits m bit = ap (λ (flags : List Bool). Some (bits ++ flags)) (flags_of-constant m bit)

pub joined-nothing : (n m : ℕ) (bit : Bool) → m ≡ 0 → joined_flags n None m (constant_flags m bit) ≡ None
joined-nothing n m true none = refl
joined-nothing n m false none = rw none refl

pub joined-null : (n m : ℕ) → 0 < m → joined_flags n None m (constant_flags m false) ≡ Some (replicate n true ++ replicate m false)
joined-null n zero some = absurd (omega arith)
joined-null n (suc m) some = grind (arith, nat_tests)

-- the flags of null slots after others
pub joined-nulls : (n : ℕ) (flags : Option (List Bool)) (m : ℕ) → 0 < m → joined_flags n flags m (constant_flags m false) ≡ Some (flags_of n flags ++ replicate m false)
joined-nulls n None m some = joined-null n m some
joined-nulls n (Some bits) m some = joined-given n bits m false

constant-null : (n : ℕ) → 0 < n → constant_flags n false ≡ Some (replicate n false)
constant-null n some = grind (arith, nat_tests)

pub are_flags-constant : (n : ℕ) (bit : Bool) → AreFlagsOf n (constant_flags n bit)
are_flags-constant zero true = tt
are_flags-constant zero false = tt
are_flags-constant (suc n) true = tt
are_flags-constant (suc n) false = subst (λ (flags : Option (List Bool)). AreFlagsOf (suc n) flags) (sym (constant-null (suc n) (omega arith))) (length-replicate (suc n) false)

pub are_flags-changed : (n : ℕ) (flags : Option (List Bool)) (i : ℕ) (bit : Bool) → AreFlagsOf n flags → AreFlagsOf n (changed_flag n flags i bit)
are_flags-changed n None i true all = tt
are_flags-changed n None i false all = length-set (replicate n true) i false ∙ length-replicate n true
are_flags-changed n (Some bits) i true all = length-set bits i true ∙ all
are_flags-changed n (Some bits) i false all = length-set bits i false ∙ all

set_alike : (n i : ℕ) → slice_set (replicate n true) i true ≡ replicate n true
set_alike zero i = refl
set_alike (suc n) zero = refl
set_alike (suc n) (suc i) = ap (λ bits. true ∷ bits) (set_alike n i)

pub flags_of-changed : (n : ℕ) (flags : Option (List Bool)) (i : ℕ) (bit : Bool) → flags_of n (changed_flag n flags i bit) ≡ slice_set (flags_of n flags) i bit
flags_of-changed n None i true = sym (set_alike n i)
flags_of-changed n None i false = refl
flags_of-changed n (Some bits) i true = refl
flags_of-changed n (Some bits) i false = refl

-- ---- slots

slots_by-append : (fs gs : List Bool) (ps qs : List (List ℕ)) → length fs ≡ length ps → slots_by (fs ++ gs) (ps ++ qs) ≡ slots_by fs ps ++ slots_by gs qs
slots_by-append [] gs [] qs same = refl
slots_by-append [] gs (p ∷ ps) qs same = absurd (omega arith)
slots_by-append (f ∷ fs) gs [] qs same = absurd (omega arith)
slots_by-append (f ∷ fs) gs (p ∷ ps) qs same = ap (λ (slots : List Slot). record { valid = f; bytes = p } ∷ slots) (slots_by-append fs gs ps qs (omega arith))

-- one slot more
pub flagged_slots-pushed : (flags : Option (List Bool)) (values : List (List ℕ)) (bit : Bool) (bytes : List ℕ) → AreFlagsOf (length values) flags
    → flagged_slots (pushed_flag (length values) flags bit) (values ++ bytes ∷ []) ≡ flagged_slots flags values ++ record { valid = bit; bytes = bytes } ∷ []
unfolding flagged_slots
flagged_slots-pushed flags values bit bytes all =
    ap (λ (n : ℕ). slots_by (flags_of n (pushed_flag (length values) flags bit)) (values ++ bytes ∷ [])) (length-append values (bytes ∷ []))
    ∙ ap (λ (fs : List Bool). slots_by fs (values ++ bytes ∷ [])) (flags_of-pushed (length values) flags bit)
    ∙ slots_by-append (flags_of (length values) flags) (bit ∷ []) values (bytes ∷ []) (length-flags_of flags (length values) all)

-- the first slots
pub flagged_slots-first : (flags : Option (List Bool)) (values : List (List ℕ)) (n : ℕ) → n ≤ length values → flagged_slots (option_map (take n) flags) (take n values) ≡ take n (flagged_slots flags values)
unfolding flagged_slots
flagged_slots-first flags values n within =
    ap (λ (m : ℕ). slots_by (flags_of m (option_map (take n) flags)) (take n values)) (length-take-le n values within)
    ∙ ap (λ (fs : List Bool). slots_by fs (take n values)) (flags_of-first flags n (length values) within)
    ∙ slots_by-sublist (flags_of (length values) flags) values 0 n

-- those of others after them
pub flagged_slots-joined : (flags : Option (List Bool)) (values : List (List ℕ)) (others : Option (List Bool)) (rest : List (List ℕ)) → AreFlagsOf (length values) flags
    → flagged_slots (joined_flags (length values) flags (length rest) others) (values ++ rest) ≡ flagged_slots flags values ++ flagged_slots others rest
unfolding flagged_slots
flagged_slots-joined flags values others rest all =
    ap (λ (n : ℕ). slots_by (flags_of n (joined_flags (length values) flags (length rest) others)) (values ++ rest)) (length-append values rest)
    ∙ ap (λ (fs : List Bool). slots_by fs (values ++ rest)) (flags_of-joined (length values) flags (length rest) others)
    ∙ slots_by-append (flags_of (length values) flags) (flags_of (length rest) others) values rest (length-flags_of flags (length values) all)

-- without flags that are all true
pub flagged_slots-frozen : (flags : Option (List Bool)) (values : List (List ℕ)) → AreFlagsOf (length values) flags → flagged_slots (frozen_flags flags) values ≡ flagged_slots flags values
flagged_slots-frozen flags values all = flagged_slots-same (frozen_flags flags) flags values (flags_of-frozen flags (length values) all)

pub ruleset added_slots = (are_flags-pushed, flagged_slots-pushed)

pub ruleset joined_slots = (are_flags-joined, flagged_slots-joined)

pub ruleset first_slots = (are_flags-first, flagged_slots-first)

pub ruleset frozen_slots = (are_flags-frozen, flagged_slots-frozen)

pub ruleset constants = (joined-given, joined-nothing, joined-null)
