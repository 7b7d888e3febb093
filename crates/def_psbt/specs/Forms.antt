-- The forms of keys and values (BIP 174, "Specification"; BIP 66 for signatures).
use Rattle.std.specs.Prelude.{ℕ, suc, ◌%◌, ◌==◌, ◌&&◌, ◌||◌, not, nat_lt, nat_le, Bool, false, List, [], ◌∷◌, length, map, slice_index, if◌then◌else◌, is_some, Option, Some, None}
use Rattle.std.specs.Int.{w32, from_le_bytes}
use Rattle.std.specs.List.{list_any, list_all}
use Rattle.std.specs.Str.{bytes_eq}
use Rattle.def_script.specs.Bytes.{Bytes}
use Rattle.def_script.specs.Key.{is_key}
use Rattle.def_script.specs.Signature.{MAX_SIGNATURE_SIZE}
use Rattle.def_psbt.specs.Transaction.{Transaction, TransactionInput, TransactionOutput, outpoint_text}
use Rattle.def_psbt.specs.Part.{Part, ◌>>=◌, first_bytes, first_size, whole}
use Rattle.def_psbt.specs.TransactionReading.{first_output, first_witness}

-- a public key: 33 bytes that begin with 02 or 03, or 65 that begin with 04
abbrev pub is_public_key : Bytes → Bool
is_public_key bytes = is_key bytes || ((length bytes == 65) && (slice_index bytes 0 == 4))

-- a number of a signature, high byte first: its first byte has no high bit, which would be a minus, and
-- is 00 only where the next one has the high bit
abbrev pub is_der_number : Bytes → Bool
is_der_number [] = false
is_der_number (b ∷ []) = nat_lt 0 b && nat_lt b 128
is_der_number (b ∷ c ∷ rest) = nat_lt b 128 && (nat_lt 0 b || nat_le 128 c)

-- a number at the front: 02, a length of one byte, and that many bytes
unfoldable pub first_der_number : Bytes → Part Bytes
first_der_number [] = None
first_der_number (tag ∷ []) = None
first_der_number (tag ∷ size ∷ rest) = do
  number ← first_bytes size rest
  if (tag == 2) && is_der_number number.0 then Some number else None

-- both numbers, and then the byte of the hash type alone
abbrev pub two_numbers : Bytes → Option (Bytes × Bytes)
two_numbers bytes = do
  first ← first_der_number bytes
  second ← first_der_number first.1
  if length second.1 == 1 then Some (first.0, second.0) else None

-- 30, and the length of what follows without the last byte
abbrev pub is_der_sequence : Bytes → Bool
is_der_sequence (tag ∷ size ∷ rest) = (tag == 0x30) && (suc size == length rest) && is_some (two_numbers rest)
is_der_sequence bytes = false

-- a signature in strict DER, 9 to 73 bytes with that of its hash type
unfoldable pub is_signature : Bytes → Bool
is_signature bytes = nat_le 9 (length bytes) && nat_le (length bytes) MAX_SIGNATURE_SIZE && is_der_sequence bytes

-- some bytes that stand twice in a list
abbrev pub stands_twice : List Bytes → Bool
stands_twice [] = false
stands_twice (bytes ∷ rest) = list_any (bytes_eq bytes) rest || stands_twice rest

abbrev pub has_no_script_sig : TransactionInput → Bool
has_no_script_sig input = nat_le (length input.script_sig) 0

-- the outpoints of a transaction's inputs, as bytes
abbrev pub outpoint_texts : List TransactionInput → List Bytes
outpoint_texts = map (λ (input : TransactionInput). outpoint_text input.outpoint)

-- a transaction that isn't signed: its inputs have empty scriptSigs, and no outpoint stands twice
abbrev pub is_unsigned : Option Transaction → Bool
is_unsigned None = false
is_unsigned (Some transaction) =
    list_all has_no_script_sig transaction.inputs && not (stands_twice (outpoint_texts transaction.inputs))

-- an amount, and a Script behind its size, whole
abbrev pub output_of : Bytes → Option TransactionOutput
output_of bytes = whole (first_output bytes)

-- the items of a witness, whole
abbrev pub witness_of : Bytes → Option (List Bytes)
witness_of bytes = whole (first_witness bytes)

-- 4 bytes, and 4 more for each step of a path
abbrev pub is_derivation : Bytes → Bool
is_derivation bytes = nat_le 4 (length bytes) && (length bytes % 4 == 0)

-- ---- the fields of version 2 (BIP 370, "Specification")

-- a size and nothing else
abbrev pub is_size : Bytes → Bool
is_size bytes = is_some (whole (first_size bytes))

-- a lock time that is a time, and one that is a height (BIP 65: a time is from 500,000,000 on)
abbrev pub LOCKTIME_THRESHOLD : ℕ
LOCKTIME_THRESHOLD = 500000000

abbrev pub is_time : Bytes → Bool
is_time bytes = (length bytes == 4) && nat_le LOCKTIME_THRESHOLD (from_le_bytes w32 bytes)

abbrev pub is_height : Bytes → Bool
is_height bytes = (length bytes == 4) && nat_lt 0 (from_le_bytes w32 bytes) && nat_lt (from_le_bytes w32 bytes) LOCKTIME_THRESHOLD
