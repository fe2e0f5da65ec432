-- What an operation leaves of a builder: this library's own. Operations in a row leave the fold.
use Rattle.std.specs.Prelude.{◌-◌, Bool, List, [], ◌∷◌, ◌++◌, length, take, replicate}
use Rattle.column_storage.specs.declared.operations.BitOperation.{BitOperation}
use Rattle.column_storage.specs.declared.operations.BitOperation.TheVariants.{Push, Pop, ExtendConstant}

-- the bits after an operation; where there is none, none is taken
abbrev pub bits_after : List Bool → BitOperation → List Bool
bits_after bits (Push bit) = bits ++ bit ∷ []
bits_after bits Pop = take (length bits - 1) bits
bits_after bits (ExtendConstant additional bit) = bits ++ replicate additional bit
