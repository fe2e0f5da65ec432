-- The parts of an iterator over values beside a validity.
use Rattle.std.specs.Prelude.{◌≡◌, Option, List, [], ◌∷◌, Bool, length, refl}
use Rattle.std.proofs.Common.{ap, arith}
use Rattle.column_storage.specs.Bits.{optional_values}
use Rattle.column_storage.specs.declared.listed.Rest.{Ghosts as Rest}
use Rattle.column_storage.specs.declared.zip_validity.ZipValidity.{ZipValidity}

abbrev pub zipped_values : {T I V Shown : Type 0} {values : Rest I Shown} {bits : Rest V Bool} → ZipValidity T I V Shown values bits → I
zipped_values zip = zip.values

abbrev pub zipped_validity : {T I V Shown : Type 0} {values : Rest I Shown} {bits : Rest V Bool} → ZipValidity T I V Shown values bits → Option V
zipped_validity zip = zip.validity

-- where no row is left, no value is
pub no_values : {X : Type 0} (bits : List Bool) (xs : List X) → optional_values bits xs ≡ [] → xs ≡ []
no_values bits [] none = refl
no_values [] (x ∷ xs) none = absurd (cc)
no_values (bit ∷ bits) (x ∷ xs) none = absurd (cc)

-- nor is a bit, where there are as many
pub no_bits : {X : Type 0} (bits : List Bool) (xs : List X) → length bits ≡ length xs → xs ≡ [] → bits ≡ []
no_bits [] xs same none = refl
no_bits (bit ∷ bits) xs same none = let count = ap length none in absurd (omega arith)
