-- What the definitions imply.
use Rattle.std.specs.Prelude.{◌≡◌, ℕ, List, length}
use Rattle.hex.specs.Hex.{IsBytes}
use Rattle.def_hash.specs.declared.HashKind.{HashKind}
use Rattle.def_hash.specs.Hash.{digest_of, digest_length}

-- each digest has its function's length
abbrev pub DigestHasItsLength : Type 0
DigestHasItsLength = (kind : HashKind) (message : List ℕ) → length (digest_of kind message) ≡ digest_length kind

-- and consists of bytes
abbrev pub DigestHasBytes : Type 0
DigestHasBytes = (kind : HashKind) (message : List ℕ) → IsBytes (digest_of kind message)
