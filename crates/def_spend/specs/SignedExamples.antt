-- What signatures sign, as BIP 143 publishes it: "Native P2WPKH", whose second input is signed, and "P2SH-P2WSH", where
-- each hash type signs.
use Rattle.std.specs.Prelude.{◌≡◌, ℕ, [], ◌∷◌, Some, None}
use Rattle.def_hash.specs.Hex.{from_hex}
use Rattle.def_script.specs.Bytes.{Bytes}
use Rattle.def_psbt.specs.Transaction.{TransactionInput, TransactionOutput, Transaction}
use Rattle.def_spend.specs.declared.SignedOutputs.TheVariants.{All, Single}
use Rattle.def_spend.specs.declared.SignedOutputs.TheVariants as outputs
use Rattle.std.specs.Prelude.{true, false}
use Rattle.def_spend.specs.declared.HashType.{HashType}
use Rattle.def_spend.specs.HashTypes.{hash_type, hash_type_of}
use Rattle.def_spend.specs.Kinds.{is_key_hash}
use Rattle.def_spend.specs.Reading.{key_hash_script}
use Rattle.def_spend.specs.SignatureHash.{hash_prevouts, hash_sequence, hash_outputs, signature_hash, signed_outputs, NO_HASH}

abbrev pub input : (id : Bytes) → (index sequence : ℕ) → TransactionInput
input id index sequence = record { outpoint = record { id = id; index = index }; script_sig = []; sequence = sequence }

abbrev pub output : (amount : ℕ) → (script : Bytes) → TransactionOutput
output amount script = record { amount = amount; script = script }

-- ---- "Native P2WPKH"

abbrev pub second_input : TransactionInput
second_input = input (from_hex "ef51e1b804cc89d182d279655c3aa89e815b1b309fe287d9b2b55d57b90ec68a") 1 0xffffffff

abbrev pub two_inputs : Transaction
two_inputs = record {
  version = 1;
  inputs =
      input (from_hex "fff7f7881a8099afa6940d42d1e7f6362bec38171ea3edf433541db4e4ad969f") 0 0xffffffee
      ∷ second_input ∷ [];
  outputs =
      output 112340000 (from_hex "76a9148280b37df378db99f66f85c95a783a76ac7a6d5988ac")
      ∷ output 223450000 (from_hex "76a9143bde42dbee7e4dbe6a21b2d50ce2f0167faa815988ac") ∷ [];
  lock_time = 17;
}

abbrev pub SignedOfTwo : Type 0
SignedOfTwo =
    (hash_prevouts two_inputs ≡ from_hex "96b827c8483d4e9b96712b6713a7b68d6e8003a781feba36c31143470b4efd37")
    × (hash_sequence two_inputs ≡ from_hex "52b0a642eea2fb7ae638c36f6252b6750293dbe574a806984b8e4d8548339a3b")
    × (hash_outputs two_inputs ≡ from_hex "863ef3e1a92afbfdb97f31ad0fc7683ee943e9abcf2501590ff8f6551f47e5e5")
    × (signature_hash (hash_type All false) two_inputs 1 second_input
    (from_hex "76a9141d0f172a0ecb48aee1be1f2687d2963ae33f71a188ac") 600000000
    ≡ from_hex "c37af31116d1b27caf68aae9e3ac82f1477929014d5b917657d0eb49478cb670")

-- the program of the second input, and the Script that is signed for it
abbrev pub second_program : Bytes
second_program = from_hex "00141d0f172a0ecb48aee1be1f2687d2963ae33f71a1"

abbrev pub ScriptOfSecond : Type 0
ScriptOfSecond =
    (is_key_hash second_program ≡ true) × (key_hash_script second_program ≡ from_hex "76a9141d0f172a0ecb48aee1be1f2687d2963ae33f71a188ac")

-- ---- "P2SH-P2WSH": a witness script of six keys

abbrev pub only_input : TransactionInput
only_input = input (from_hex "36641869ca081e70f394c6948e8af409e18b619df2ed74aa106c1ca29787b96e") 1 0xffffffff

abbrev pub one_input : Transaction
one_input = record {
  version = 1;
  inputs = only_input ∷ [];
  outputs =
      output 900000000 (from_hex "76a914389ffce9cd9ae88dcc0631e88a821ffdbe9bfe2688ac")
      ∷ output 87000000 (from_hex "76a9147480a33f950689af511e6e84c138dbbd3c3ee41588ac") ∷ [];
  lock_time = 0;
}

abbrev pub six_keys : Bytes
six_keys = from_hex "56210307b8ae49ac90a048e9b53357a2354b3334e9c8bee813ecb98e99a7e07e8c3ba32103b28f0c28bfab54554ae8c658ac5c3e0ce6e79ad336331f78c428dd43eea8449b21034b8113d703413d57761b8b9781957b8c0ac1dfe69f492580ca4195f50376ba4a21033400f6afecb833092a9a21cfdf1ed1376e58c5d1f47de74683123987e967a8f42103a6d48b1131e94ba04d9737d61acdaa1322008af9602b3b14862c07a1789aac162102d8b661b0b3302ee2f162b09e07a55ad5dfbe673a9f01d9f0c19617681024306b56ae"

-- what is signed by the hash type of this number
abbrev pub SignsBy : (number : ℕ) → HashType → (hash : Bytes) → Type 0
SignsBy number type hash =
    (hash_type_of number ≡ Some type) × (signature_hash type one_input 0 only_input six_keys 987654321 ≡ hash)

abbrev pub SignedByType : Type 0
SignedByType =
    SignsBy 0x01 (hash_type All false) (from_hex "185c0be5263dce5b4bb50a047973c1b6272bfbd0103a89444597dc40b248ee7c")
    × SignsBy 0x02 (hash_type outputs.None false) (from_hex "e9733bc60ea13c95c6527066bb975a2ff29a925e80aa14c213f686cbae5d2f36")
    × SignsBy 0x03 (hash_type Single false) (from_hex "1e1f1c303dc025bd664acb72e583e933fae4cff9148bf78c157d1e8f78530aea")
    × SignsBy 0x81 (hash_type All true) (from_hex "2a67f03e63a6a422125878b40b82da593be8d4efaafe88ee528af6e5a9955c6e")
    × SignsBy 0x82 (hash_type outputs.None true) (from_hex "781ba15f3779d5542ce8ecb5c18716733a5ee42a6f51488ec96154934e2c890a")
    × SignsBy 0x83 (hash_type Single true) (from_hex "511e8e52ed574121fc1b654970395502128263f62662e076dc6baf05c2e6a99b")

-- other numbers are no hash types, and SINGLE without an output of the input's number signs zeros in its place
abbrev pub NoHashType : Type 0
NoHashType =
    (hash_type_of 0x00 ≡ None) × (hash_type_of 0x04 ≡ None) × (hash_type_of 0x80 ≡ None) × (hash_type_of 0x101 ≡ None)
    × (signed_outputs Single one_input 2 ≡ NO_HASH)
