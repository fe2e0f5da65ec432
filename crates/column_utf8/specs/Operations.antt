-- What an operation does to the slots of a builder of texts: this library's own.
use Rattle.std.specs.String.{string_vec}
use Rattle.column_binary.specs.declared.operations.BinaryOperation.{BinaryOperation}
use Rattle.column_binary.specs.declared.operations.BinaryOperation.TheVariants as bytes
use Rattle.column_utf8.specs.declared.operations.Utf8Operation.{Utf8Operation}
use Rattle.column_utf8.specs.declared.operations.Utf8Operation.TheVariants.{Push, PushNull, Pop}

-- the same operation on byte strings: a text is pushed as its bytes
abbrev pub on_bytes : Utf8Operation → BinaryOperation
on_bytes (Push text) = bytes.Push (string_vec text)
on_bytes PushNull = bytes.PushNull
on_bytes Pop = bytes.Pop
