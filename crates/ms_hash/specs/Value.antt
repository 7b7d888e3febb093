-- What contracts see of a hash value: its function and its bytes.
use Rattle.std.specs.Prelude.{ℕ, List}
use Rattle.def_hash.specs.declared.HashKind.{HashKind}
use Rattle.def_hash.specs.declared.HashKind.TheVariants as kind
use Rattle.ms_hash.specs.declared.value.HashValue.{HashValue}
use Rattle.ms_hash.specs.declared.value.HashValue.TheVariants as value

-- the function that a value is of
abbrev pub kind_of : HashValue → HashKind
kind_of (value.Sha256 bytes) = kind.Sha256
kind_of (value.Hash256 bytes) = kind.Hash256
kind_of (value.Ripemd160 bytes) = kind.Ripemd160
kind_of (value.Hash160 bytes) = kind.Hash160

-- its bytes
abbrev pub bytes_of : HashValue → List ℕ
bytes_of (value.Sha256 bytes) = bytes
bytes_of (value.Hash256 bytes) = bytes
bytes_of (value.Ripemd160 bytes) = bytes
bytes_of (value.Hash160 bytes) = bytes
