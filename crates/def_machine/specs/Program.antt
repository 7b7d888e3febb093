-- The program of a P2WSH output (BIP 141): version 0, and a push of the 32 bytes of its Script's SHA-256.
use Rattle.std.specs.Prelude.{◌∷◌}
use Rattle.def_hash.specs.Hash.{sha256}
use Rattle.def_script.specs.Bytes.{Bytes}

abbrev pub program_of : (script : Bytes) → Bytes
program_of script = 0x00 ∷ 0x20 ∷ sha256 script
