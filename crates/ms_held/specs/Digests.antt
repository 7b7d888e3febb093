-- The digests that are kept with a preimage.
use Rattle.std.specs.Prelude.{◌≡◌}
use Rattle.def_script.specs.Bytes.{Bytes}
use Rattle.def_hash.specs.Hash.{digest_of}
use Rattle.ms_hash.specs.declared.value.HashValue.{HashValue}
use Rattle.ms_hash.specs.Value.{kind_of, bytes_of}

-- a hash value is a preimage's
abbrev pub HashesTo : (preimage : Bytes) → HashValue → Type 0
HashesTo preimage value = bytes_of value ≡ digest_of (kind_of value) preimage
