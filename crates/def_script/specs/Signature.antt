-- The length of a signature.
use Rattle.std.specs.Prelude.{◌&&◌, ℕ, nat_le, Bool}

-- the most bytes of a signature: 72 in DER (BIP 66), and one for the hash type
abbrev pub MAX_SIGNATURE_SIZE : ℕ
MAX_SIGNATURE_SIZE = 73

-- a signature can have so many bytes
abbrev pub is_signature_size : ℕ → Bool
is_signature_size n = nat_le 1 n && nat_le n MAX_SIGNATURE_SIZE
