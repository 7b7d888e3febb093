-- The types of keys in the maps of a PSBT, by their names without `PSBT_` (BIP 174, "Defined Types"; BIP 370, "Specification").
use Rattle.std.specs.Prelude.{ℕ}

-- ---- the global map

abbrev pub GLOBAL_UNSIGNED_TX : ℕ
GLOBAL_UNSIGNED_TX = 0x00

abbrev pub GLOBAL_TX_VERSION : ℕ
GLOBAL_TX_VERSION = 0x02

abbrev pub GLOBAL_FALLBACK_LOCKTIME : ℕ
GLOBAL_FALLBACK_LOCKTIME = 0x03

abbrev pub GLOBAL_INPUT_COUNT : ℕ
GLOBAL_INPUT_COUNT = 0x04

abbrev pub GLOBAL_OUTPUT_COUNT : ℕ
GLOBAL_OUTPUT_COUNT = 0x05

abbrev pub GLOBAL_TX_MODIFIABLE : ℕ
GLOBAL_TX_MODIFIABLE = 0x06

abbrev pub GLOBAL_VERSION : ℕ
GLOBAL_VERSION = 0xfb

-- ---- a map of an input

abbrev pub IN_NON_WITNESS_UTXO : ℕ
IN_NON_WITNESS_UTXO = 0x00

abbrev pub IN_WITNESS_UTXO : ℕ
IN_WITNESS_UTXO = 0x01

abbrev pub IN_PARTIAL_SIG : ℕ
IN_PARTIAL_SIG = 0x02

abbrev pub IN_SIGHASH_TYPE : ℕ
IN_SIGHASH_TYPE = 0x03

abbrev pub IN_REDEEM_SCRIPT : ℕ
IN_REDEEM_SCRIPT = 0x04

abbrev pub IN_WITNESS_SCRIPT : ℕ
IN_WITNESS_SCRIPT = 0x05

abbrev pub IN_BIP32_DERIVATION : ℕ
IN_BIP32_DERIVATION = 0x06

abbrev pub IN_FINAL_SCRIPTSIG : ℕ
IN_FINAL_SCRIPTSIG = 0x07

abbrev pub IN_FINAL_SCRIPTWITNESS : ℕ
IN_FINAL_SCRIPTWITNESS = 0x08

abbrev pub IN_RIPEMD160 : ℕ
IN_RIPEMD160 = 0x0a

abbrev pub IN_SHA256 : ℕ
IN_SHA256 = 0x0b

abbrev pub IN_HASH160 : ℕ
IN_HASH160 = 0x0c

abbrev pub IN_HASH256 : ℕ
IN_HASH256 = 0x0d

abbrev pub IN_PREVIOUS_TXID : ℕ
IN_PREVIOUS_TXID = 0x0e

abbrev pub IN_OUTPUT_INDEX : ℕ
IN_OUTPUT_INDEX = 0x0f

abbrev pub IN_SEQUENCE : ℕ
IN_SEQUENCE = 0x10

abbrev pub IN_REQUIRED_TIME_LOCKTIME : ℕ
IN_REQUIRED_TIME_LOCKTIME = 0x11

abbrev pub IN_REQUIRED_HEIGHT_LOCKTIME : ℕ
IN_REQUIRED_HEIGHT_LOCKTIME = 0x12

-- ---- a map of an output

abbrev pub OUT_REDEEM_SCRIPT : ℕ
OUT_REDEEM_SCRIPT = 0x00

abbrev pub OUT_WITNESS_SCRIPT : ℕ
OUT_WITNESS_SCRIPT = 0x01

abbrev pub OUT_BIP32_DERIVATION : ℕ
OUT_BIP32_DERIVATION = 0x02

abbrev pub OUT_AMOUNT : ℕ
OUT_AMOUNT = 0x03

abbrev pub OUT_SCRIPT : ℕ
OUT_SCRIPT = 0x04
