-- What is read by two digits a byte is bytes.
use Rattle.std.proofs.Common.{◌≡◌, [], Option, Some, None, Result, Ok, Err, refl, arith, unwrap_or}
use Rattle.std.specs.Result.{result_ok}
use Rattle.hex.specs.Hex.{decode_of}
use Rattle.hex.specs.declared.error.FromHexError.{FromHexError}
use Rattle.hex.proofs.HexLemmas.{decode_of-ok}
use Rattle.def_script.specs.Bytes.{Bytes, IsBytes}
use Rattle.def_files.specs.Json.{spelled}

no_bytes : IsBytes []
no_bytes i = omega arith

pub spelled-IsBytes : (text : Option Bytes) → IsBytes (unwrap_or (spelled text) [])
spelled-IsBytes None = no_bytes
spelled-IsBytes (Some text) = go (decode_of text) refl
  where
    go : (r : Result Bytes FromHexError) → decode_of text ≡ r → IsBytes (unwrap_or (result_ok r) [])
    go (Ok bytes) e = (decode_of-ok text bytes e).3
    go (Err fault) e = no_bytes
