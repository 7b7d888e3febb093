-- The hash functions of Script, over lists of bytes (Bitcoin Core: `OP_RIPEMD160`, `OP_SHA256`,
-- `OP_HASH160`, `OP_HASH256`). SHA-256 is that of FIPS 180-4.
use Rattle.std.specs.Prelude.{ℕ, List}
unfoldable pub use Rattle.sha2.specs.Sha256.{sha256}
unfoldable pub use Rattle.def_hash.specs.Ripemd.{ripemd160}
use Rattle.def_hash.specs.declared.HashKind.{HashKind}
use Rattle.def_hash.specs.declared.HashKind.TheVariants as kind

-- RIPEMD-160 of SHA-256
unfoldable pub hash160 : List ℕ → List ℕ
hash160 m = ripemd160 (sha256 m)

-- SHA-256 twice
unfoldable pub hash256 : List ℕ → List ℕ
hash256 m = sha256 (sha256 m)

-- the digest of a message by the named function
abbrev pub digest_of : HashKind → List ℕ → List ℕ
digest_of kind.Sha256 m = sha256 m
digest_of kind.Hash256 m = hash256 m
digest_of kind.Ripemd160 m = ripemd160 m
digest_of kind.Hash160 m = hash160 m

-- how many bytes such a digest has
abbrev pub digest_length : HashKind → ℕ
digest_length kind.Sha256 = 32
digest_length kind.Hash256 = 32
digest_length kind.Ripemd160 = 20
digest_length kind.Hash160 = 20
