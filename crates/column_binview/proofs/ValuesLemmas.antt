-- Laws of values without a validity, and of sources that are registered.
use Rattle.std.proofs.Common.{◌≡◌, ℕ, Bool, true, List, [], ◌∷◌, ◌++◌, length, map, Option, Some, None, refl, ap}
use Rattle.std.specs.Prelude.{slice_index_or}
use Rattle.column_base.specs.Pushes.{grown}
use Rattle.column_storage.specs.Bits.{pushed_flag}
use Rattle.column_binview.specs.Builders.{ViewBuilder, pushed_value, row_growth}

-- values need no flags
pub flags-values : (builder : ViewBuilder) (values : List (List ℕ)) → builder.rows.flags ≡ None → (grown row_growth builder (map Some values)).rows.flags ≡ None
flags-values builder [] none = none
flags-values builder (value ∷ values) none = flags-values (pushed_value builder value) values (ap (λ (flags : Option (List Bool)). pushed_flag (length builder.rows.views) flags true) none)

-- the source that was registered last
pub last_source : (sources : List (List (List ℕ))) (buffers : List (List ℕ)) → slice_index_or (sources ++ buffers ∷ []) (length sources) [] ≡ buffers
last_source [] buffers = refl
last_source (first ∷ sources) buffers = last_source sources buffers
