-- Byte strings in examples, written as hexadecimal digits.
use Prim.Native.String.{String}
use Rattle.std.specs.Prelude.{codes, List, ℕ, []}
use Rattle.std.specs.Result.{result_unwrap_or}
use Rattle.hex.specs.Hex.{decode_of}

-- the bytes that a text spells by two digits each
abbrev pub from_hex : String → List ℕ
from_hex text = result_unwrap_or (decode_of (codes text)) []
