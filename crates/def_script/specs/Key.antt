-- The form of a public key.
use Rattle.std.specs.Prelude.{◌==◌, ◌&&◌, ◌||◌, Bool, length, slice_index}
use Rattle.def_script.specs.Bytes.{Bytes}

-- a compressed public key, as BIP 143 asks of P2WSH: 33 bytes of which the first is 02 or 03
abbrev pub is_key : Bytes → Bool
is_key bytes = (length bytes == 33) && ((slice_index bytes 0 == 2) || (slice_index bytes 0 == 3))
