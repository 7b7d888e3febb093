-- Examples of PSBTs and of refusals; keys, signatures and amounts are made up, and the ids of the
-- transactions and the digests are those of other programs.
use Prim.Native.String.{String}
use Rattle.std.specs.Prelude.{◌≡◌, ℕ, [], ◌∷◌, ◌++◌, length, replicate, reverse, codes, Option, Some, None, Result, Ok, Err}
use Rattle.def_hash.specs.Hex.{from_hex}
use Rattle.def_script.specs.Bytes.{Bytes}
use Rattle.def_psbt.specs.declared.PsbtFault.TheVariants as fault
use Rattle.def_psbt.specs.declared.Refusal.{Refusal}
use Rattle.def_psbt.specs.declared.Refusal.TheVariants.{NotBase64, Magic, At}
use Rattle.def_psbt.specs.Transaction.{id_of}
use Rattle.def_psbt.specs.Map.{Psbt, psbt_text}
use Rattle.def_psbt.specs.Source.{psbt_of}

-- the magic and the global map of a transaction with one input of the given sequence, and one output
abbrev pub unsigned_with : (sequence : String) → Bytes
unsigned_with sequence =
    from_hex "70736274ff010052020000000105050505050505050505050505050505050505050505050505050505050505050000000000" ++ from_hex sequence
    ++ from_hex "01905f01000000000016001407070707070707070707070707070707070707070000000000"

-- the pair of the spent output, a P2WSH program
abbrev pub SPENT : Bytes
SPENT = from_hex "01012ba086010000000000220020df533ab97795e72c2cf08989bf5d133f2063ff81fd3d927a43294f625571655b"

-- the pair of its witness script, a multisignature of two of three keys
abbrev pub WITNESS_SCRIPT : Bytes
WITNESS_SCRIPT = from_hex "0105695221020101010101010101010101010101010101010101010101010101010101010101210279be667ef9dcbbac55a06295ce870b07029bfcdb2dce28d959f2815b16f817982103030303030303030303030303030303030303030303030303030303030303030353ae"

-- what is seen of a PSBT that was read: how many maps of inputs and of outputs, the id of the
-- transaction as users know it, and the bytes of what was read
pub record Seen : Type 0 where
  pub inputs : ℕ
  pub outputs : ℕ
  pub id : Bytes
  pub text : Bytes

abbrev pub seen : Result Psbt Refusal → Option Seen
seen (Ok psbt) = Some (record {
  inputs = length psbt.inputs;
  outputs = length psbt.outputs;
  id = reverse (id_of psbt.transaction);
  text = psbt_text psbt.global psbt.inputs psbt.outputs;
})
seen (Err refusal) = None

-- the source is a PSBT, and its bytes are those that were read
abbrev pub Reads : (source text : Bytes) → (inputs outputs : ℕ) → (id : String) → Type 0
Reads source text inputs outputs id =
    seen (psbt_of source) ≡ Some (record { inputs = inputs; outputs = outputs; id = from_hex id; text = text })

abbrev pub Refuses : (source : Bytes) → Refusal → Type 0
Refuses source refusal = psbt_of source ≡ Err refusal

-- a PSBT with empty maps
abbrev pub BARE : Bytes
BARE = unsigned_with "feffffff" ++ from_hex "0000"

-- empty maps
abbrev pub BareIsRead : Type 0
BareIsRead = Reads BARE BARE 1 1 "fc13434055c19a48ec006f9c4951550f5ba2013f0cb368a52d5ca429a73223ec"

-- a transaction without inputs
abbrev pub NO_INPUTS : Bytes
NO_INPUTS = from_hex "70736274ff010029020000000001905f0100000000001600140707070707070707070707070707070707070707000000000000"

-- no input
abbrev pub NoInputsAreRead : Type 0
NoInputsAreRead = Reads NO_INPUTS NO_INPUTS 0 1 "a5c87450d49207db4411be49edf2adee052e48f4f33aae24635e87543b052fb4"

-- two signatures of three, a derivation, an asked hash type and an unknown type
abbrev pub TWO_OF_THREE : Bytes
TWO_OF_THREE = unsigned_with "feffffff" ++ SPENT ++ WITNESS_SCRIPT ++ from_hex "2202030303030303030303030303030303030303030303030303030303030303030303463043021f1c1c1c1c1c1c1c1c1c1c1c1c1c1c1c1c1c1c1c1c1c1c1c1c1c1c1c1c1c1c1c02202c2c2c2c2c2c2c2c2c2c2c2c2c2c2c2c2c2c2c2c2c2c2c2c2c2c2c2c2c2c2c2c01220202010101010101010101010101010101010101010101010101010101010101010147304402201a1a1a1a1a1a1a1a1a1a1a1a1a1a1a1a1a1a1a1a1a1a1a1a1a1a1a1a1a1a1a1a02202a2a2a2a2a2a2a2a2a2a2a2a2a2a2a2a2a2a2a2a2a2a2a2a2a2a2a2a2a2a2a2a01220602010101010101010101010101010101010101010101010101010101010101010108deadbeef300000800103040100000004406e6577046b6570740000"

-- all that it holds
abbrev pub TwoOfThreeIsRead : Type 0
TwoOfThreeIsRead = Reads TWO_OF_THREE TWO_OF_THREE 1 1 "fc13434055c19a48ec006f9c4951550f5ba2013f0cb368a52d5ca429a73223ec"

-- a previous transaction beside the spent output
abbrev pub PREVIOUS_TRANSACTION : Bytes
PREVIOUS_TRANSACTION = from_hex "70736274ff01005202000000019a4dc0525ae9dd72ba4351a63beade3e4db47390b3d951a49ba0188a66116c910100000000feffffff01905f01000000000016001407070707070707070707070707070707070707070000000000010068020000000109090909090909090909090909090909090909090909090909090909090909090000000000010000000205000000000000000151a086010000000000220020df533ab97795e72c2cf08989bf5d133f2063ff81fd3d927a43294f625571655b00000000" ++ WITNESS_SCRIPT ++ from_hex "220202010101010101010101010101010101010101010101010101010101010101010147304402201a1a1a1a1a1a1a1a1a1a1a1a1a1a1a1a1a1a1a1a1a1a1a1a1a1a1a1a1a1a1a1a02202a2a2a2a2a2a2a2a2a2a2a2a2a2a2a2a2a2a2a2a2a2a2a2a2a2a2a2a2a2a2a2a0122020279be667ef9dcbbac55a06295ce870b07029bfcdb2dce28d959f2815b16f81798483045022100bbbbbbbbbbbbbbbbbbbbbbbbbbbbbbbbbbbbbbbbbbbbbbbbbbbbbbbbbbbbbbbb02202b2b2b2b2b2b2b2b2b2b2b2b2b2b2b2b2b2b2b2b2b2b2b2b2b2b2b2b2b2b2b2b010000"

-- the previous transaction is whole
abbrev pub PreviousTransactionIsRead : Type 0
PreviousTransactionIsRead = Reads PREVIOUS_TRANSACTION PREVIOUS_TRANSACTION 1 1 "cc38b21d289e5c0e150f480a7a307619bed2b9ddeda561425d154f2ce2823235"

-- a preimage under its SHA-256
abbrev pub PREIMAGE : Bytes
PREIMAGE = unsigned_with "feffffff" ++ from_hex "210b02d449a31fbb267c8f352e9968a79e3e5fc95c1bbeaa502fd6454ebde5a4bedc201111111111111111111111111111111111111111111111111111111111111111220202010101010101010101010101010101010101010101010101010101010101010147304402201a1a1a1a1a1a1a1a1a1a1a1a1a1a1a1a1a1a1a1a1a1a1a1a1a1a1a1a1a1a1a1a02202a2a2a2a2a2a2a2a2a2a2a2a2a2a2a2a2a2a2a2a2a2a2a2a2a2a2a2a2a2a2a2a0101054a21020101010101010101010101010101010101010101010101010101010101010101ad82012088a82002d449a31fbb267c8f352e9968a79e3e5fc95c1bbeaa502fd6454ebde5a4bedc8701012ba08601000000000022002069e5b8e13c7127277c9b02c19a19553cb566a2de930536ebf9a9769ed7742e200000"

-- the preimage fits
abbrev pub PreimageIsRead : Type 0
PreimageIsRead = Reads PREIMAGE PREIMAGE 1 1 "fc13434055c19a48ec006f9c4951550f5ba2013f0cb368a52d5ca429a73223ec"

-- three inputs
abbrev pub THREE_INPUTS : Bytes
THREE_INPUTS = from_hex "70736274ff0100a4020000000305050505050505050505050505050505050505050505050505050505050505050000000000900000000505050505050505050505050505050505050505050505050505050505050505010000000090000000050505050505050505050505050505050505050505050505050505050505050502000000009000000001905f01000000000016001407070707070707070707070707070707070707070000000000" ++ SPENT ++ WITNESS_SCRIPT ++ from_hex "220202010101010101010101010101010101010101010101010101010101010101010147304402201a1a1a1a1a1a1a1a1a1a1a1a1a1a1a1a1a1a1a1a1a1a1a1a1a1a1a1a1a1a1a1a02202a2a2a2a2a2a2a2a2a2a2a2a2a2a2a2a2a2a2a2a2a2a2a2a2a2a2a2a2a2a2a2a0122020279be667ef9dcbbac55a06295ce870b07029bfcdb2dce28d959f2815b16f81798483045022100bbbbbbbbbbbbbbbbbbbbbbbbbbbbbbbbbbbbbbbbbbbbbbbbbbbbbbbbbbbbbbbb02202b2b2b2b2b2b2b2b2b2b2b2b2b2b2b2b2b2b2b2b2b2b2b2b2b2b2b2b2b2b2b2b010001012ba08601000000000022002040c4e29abc7498fa39fb4a9f7db49aa7f3c50c47d2f758fd70e51f1afc5aea6501054321020101010101010101010101010101010101010101010101010101010101010101ac736476a914751e76e8199196d454941c45d1b3a323f1433bd688ad029000b26822020279be667ef9dcbbac55a06295ce870b07029bfcdb2dce28d959f2815b16f81798483045022100bbbbbbbbbbbbbbbbbbbbbbbbbbbbbbbbbbbbbbbbbbbbbbbbbbbbbbbbbbbbbbbb02202b2b2b2b2b2b2b2b2b2b2b2b2b2b2b2b2b2b2b2b2b2b2b2b2b2b2b2b2b2b2b2b010001070201510000"

-- a map for each
abbrev pub ThreeInputsAreRead : Type 0
ThreeInputsAreRead = Reads THREE_INPUTS THREE_INPUTS 3 1 "a70ed2c6db0fd90a600ac62071983f43da957ccf5846dae53bd3c5ed2ec75f02"

-- the same as base64 in two lines
abbrev pub BARE_BASE64 : Bytes
BARE_BASE64 = codes "cHNidP8BAFICAAAAAQUFBQUFBQUFBQUFBQUFBQUFBQUFBQUFBQUFBQUFBQUFAAAA" ++ 0x0d ∷ 0x0a ∷ codes "AAD+////AZBfAQAAAAAAFgAUBwcHBwcHBwcHBwcHBwcHBwcHBwcAAAAAAAAA" ++ 0x0a ∷ []

-- base64 gives its bytes
abbrev pub Base64IsRead : Type 0
Base64IsRead = Reads BARE_BASE64 BARE 1 1 "fc13434055c19a48ec006f9c4951550f5ba2013f0cb368a52d5ca429a73223ec"

-- base64 without its padding; a character that isn't of base64; base64 of `psbt` and another byte than 0xff; no byte
abbrev pub SourceRefusals : Type 0
SourceRefusals =
    (Refuses (codes "cHNidP8BAA") NotBase64)
    × (Refuses (codes "cHNidP8*BAA==") NotBase64)
    × (Refuses (codes "cHNidAA=") Magic)
    × (Refuses [] Magic)

-- a global map without a transaction; a size of 1 in three bytes; a value that isn't whole; a byte behind the last map
abbrev pub SizeRefusals : Type 0
SizeRefusals =
    (Refuses (from_hex "70736274ff00") (At fault.NoTransaction 5))
    × (Refuses (from_hex "70736274fffd010000") (At fault.Size 5))
    × (Refuses (unsigned_with "feffffff" ++ SPENT ++ from_hex "0105695221020101010101010101010101010101010101010101010101010101010101010101210279be667ef9dcbbac55a06295ce870b07029bfcdb2dce28") (At fault.Truncated 140))
    × (Refuses (unsigned_with "feffffff" ++ SPENT ++ WITNESS_SCRIPT ++ from_hex "2202030303030303030303030303030303030303030303030303030303030303030303463043021f1c1c1c1c1c1c1c1c1c1c1c1c1c1c1c1c1c1c1c1c1c1c1c1c1c1c1c1c1c1c1c02202c2c2c2c2c2c2c2c2c2c2c2c2c2c2c2c2c2c2c2c2c2c2c2c2c2c2c2c2c2c2c2c01220202010101010101010101010101010101010101010101010101010101010101010147304402201a1a1a1a1a1a1a1a1a1a1a1a1a1a1a1a1a1a1a1a1a1a1a1a1a1a1a1a1a1a1a1a02202a2a2a2a2a2a2a2a2a2a2a2a2a2a2a2a2a2a2a2a2a2a2a2a2a2a2a2a2a2a2a2a01220602010101010101010101010101010101010101010101010101010101010101010108deadbeef300000800103040100000004406e6577046b657074000000") (At fault.Trailing 521))

-- the witness script twice; a key that begins with 05; the global version 2
abbrev pub PairRefusals : Type 0
PairRefusals =
    (Refuses (unsigned_with "01000000" ++ WITNESS_SCRIPT ++ WITNESS_SCRIPT ++ from_hex "0000") (At fault.RepeatedKey 199))
    × (Refuses (unsigned_with "01000000" ++ from_hex "220205050505050505050505050505050505050505050505050505050505050505050547304402201a1a1a1a1a1a1a1a1a1a1a1a1a1a1a1a1a1a1a1a1a1a1a1a1a1a1a1a1a1a1a1a02202a2a2a2a2a2a2a2a2a2a2a2a2a2a2a2a2a2a2a2a2a2a2a2a2a2a2a2a2a2a2a2a010000") (At fault.KeyForm 91))
    × (Refuses (from_hex "70736274ff0100520200000001050505050505050505050505050505050505050505050505050505050505050500000000000100000001905f01000000000016001407070707070707070707070707070707070707070000000001fb0402000000000000") (At fault.Version 90))

-- a preimage of another digest; an outpoint that stands twice; a scriptSig in the transaction; a signature that isn't DER; a signature of its hash type alone
abbrev pub ValueRefusals : Type 0
ValueRefusals =
    (Refuses (unsigned_with "feffffff" ++ from_hex "210b02d449a31fbb267c8f352e9968a79e3e5fc95c1bbeaa502fd6454ebde5a4bedc20121212121212121212121212121212121212121212121212121212121212121201054a21020101010101010101010101010101010101010101010101010101010101010101ad82012088a82002d449a31fbb267c8f352e9968a79e3e5fc95c1bbeaa502fd6454ebde5a4bedc870000") (At fault.ValueForm 91))
    × (Refuses (from_hex "70736274ff01007b02000000020505050505050505050505050505050505050505050505050505050505050505000000000001000000050505050505050505050505050505050505050505050505050505050505050500000000000200000001905f01000000000016001407070707070707070707070707070707070707070000000000000000") (At fault.ValueForm 5))
    × (Refuses (from_hex "70736274ff010053020000000105050505050505050505050505050505050505050505050505050505050505050000000001510100000001905f010000000000160014070707070707070707070707070707070707070700000000000000") (At fault.ValueForm 5))
    × (Refuses (unsigned_with "01000000" ++ from_hex "220202010101010101010101010101010101010101010101010101010101010101010147aaaaaaaaaaaaaaaaaaaaaaaaaaaaaaaaaaaaaaaaaaaaaaaaaaaaaaaaaaaaaaaaaaaaaaaaaaaaaaaaaaaaaaaaaaaaaaaaaaaaaaaaaaaaaaaaaaaaaaaaaaaaaaaaaaaaaaaaaaaaaa0000") (At fault.ValueForm 91))
    × (Refuses (unsigned_with "01000000" ++ SPENT ++ WITNESS_SCRIPT ++ from_hex "220202010101010101010101010101010101010101010101010101010101010101010101010000") (At fault.ValueForm 245))

-- ---- version 2 (BIP 370)

-- BIP 370's test vector "1 input, 2 output updated PSBTv2"
abbrev pub UPDATED : Bytes
UPDATED = from_hex "70736274ff01020402000000010401010105010201fb0402000000000100520200000001c1aa256e214b96a1822f93de42bff3b5f3ff8d0519306e3515d7515a5e805b120000000000ffffffff0118c69a3b00000000160014b0a3af144208412693ca7d166852b52db0aef06e0000000001011f18c69a3b00000000160014b0a3af144208412693ca7d166852b52db0aef06e010e200b0ad921419c1c8719735d72dc739f9ea9e0638d1fe4c1eef0f9944084815fc8010f040000000000220202d601f84846a6755f776be00e3d9de8fb10acc935fb83c45fb0162d4cad5ab79218f69d873e540000800100008000000080000000002a0000000103080008af2f000000000104160014c430f64c4756da310dbd1a085572ef299926272c00220202e36fbff53dd534070cf8fd396614680f357a9b85db7340bf1cfa745d2ad7b34018f69d873e54000080010000800000008001000000640000000103088bbdeb0b0000000001041600144dd193ac964a56ac1b9e1cca8454fe2f474f851300"

-- it has the transaction of the same vector's id
abbrev pub UpdatedIsRead : Type 0
UpdatedIsRead = Reads UPDATED UPDATED 1 2 "a788e535663f0ea63284364eeacd42aeea6abf4b8cc5c6acb8c4a870d2564275"

-- the magic, and of the global map the version of the transaction, the number of inputs, one output and the version of the PSBT
abbrev pub later_with : (inputs : ℕ) → Bytes
later_with inputs = from_hex "70736274ff010204020000000104" ++ (0x01 ∷ inputs ∷ []) ++ from_hex "0105010101fb0402000000"

-- the map of an input whose outpoint's id is this byte 32 times, with the sequence number fffffffe and other pairs
abbrev pub later_input : (id : ℕ) → (pairs : String) → Bytes
later_input id pairs = from_hex "010e20" ++ replicate 32 id ++ from_hex "010f0400000000011004feffffff" ++ from_hex pairs ++ 0x00 ∷ []

-- the map of the output
abbrev pub LATER_OUTPUT : Bytes
LATER_OUTPUT = from_hex "010308905f0100000000000104160014070707070707070707070707070707070707070700"

-- the same transaction as that of empty maps in version 0
abbrev pub LaterIsRead : Type 0
LaterIsRead =
    let later = later_with 1 ++ from_hex "00" ++ later_input 0x05 "" ++ LATER_OUTPUT in
    Reads later later 1 1 "fc13434055c19a48ec006f9c4951550f5ba2013f0cb368a52d5ca429a73223ec"

-- the lock time of the global map where no input has one; the greatest height; the height where the input that has either has both; the
-- time where one input has no height
abbrev pub LockTimes : Type 0
LockTimes =
    let fallback = later_with 1 ++ from_hex "01030461ae0a0000" ++ later_input 0x05 "" ++ LATER_OUTPUT in
    let greatest = later_with 3 ++ from_hex "0103040500000000" ++ later_input 0x05 "01120460ae0a00" ++ later_input 0x06 "01120461ae0a00" ++ later_input 0x07 "" ++ LATER_OUTPUT in
    let height = later_with 2 ++ from_hex "00" ++ later_input 0x05 "01110400f1536501120461ae0a00" ++ later_input 0x06 "" ++ LATER_OUTPUT in
    let time = later_with 2 ++ from_hex "00" ++ later_input 0x05 "01110400f1536501120461ae0a00" ++ later_input 0x06 "01110401f15365" ++ LATER_OUTPUT in
    Reads fallback fallback 1 1 "3ea69159ac9557b83578138c1e386641bfa3bc5ac32f8ef05e3da773cb2539c2"
    × Reads greatest greatest 3 1 "f21e529e358e67e14130c8ee38cf3312b1e3f51e2804321b660a1eff439b307d"
    × Reads height height 2 1 "be7d5d1a526c43e9e5719c37de8c0a2859f968bfab8425a91039fb130b450461"
    × Reads time time 2 1 "b5d947b1e231438325e24429d5d46ac34c718c574ef19302074670487c5081ec"

-- a transaction beside the fields of version 2; the number of inputs, a sequence number and an amount in version 0
abbrev pub VersionRefusals : Type 0
VersionRefusals =
    (Refuses (later_with 1 ++ from_hex "010029020000000001905f010000000000160014070707070707070707070707070707070707070700000000" ++ 0x00 ∷ []) (At fault.Version 20))
    × (Refuses (from_hex "70736274ff01000a02000000000000000000" ++ from_hex "01040100" ++ 0x00 ∷ []) (At fault.Excluded 18))
    × (Refuses (unsigned_with "feffffff" ++ from_hex "01100400000000" ++ from_hex "0000") (At fault.Excluded 91))
    × (Refuses (unsigned_with "feffffff" ++ from_hex "00" ++ from_hex "0103080000000000000000" ++ 0x00 ∷ []) (At fault.Excluded 92))

-- no version of the transaction; no index of an outpoint; no amount
abbrev pub NeededRefusals : Type 0
NeededRefusals =
    (Refuses (from_hex "70736274ff0104010001050100" ++ from_hex "01fb040200000000") (At fault.NoTransaction 20))
    × (Refuses (later_with 1 ++ from_hex "00010e20" ++ replicate 32 0x05 ++ from_hex "00") (At fault.NoTransaction 63))
    × (Refuses (later_with 1 ++ from_hex "00" ++ later_input 0x05 "" ++ from_hex "01040000") (At fault.NoTransaction 81))

-- an outpoint that stands twice; a time alone behind a height alone; a height that is a time; a time that is a height
abbrev pub JoinedRefusals : Type 0
JoinedRefusals =
    (Refuses (later_with 2 ++ from_hex "00" ++ later_input 0x05 "" ++ later_input 0x05 "" ++ LATER_OUTPUT) (At fault.RepeatedOutpoint 78))
    × (Refuses (later_with 3 ++ from_hex "00" ++ later_input 0x05 "01120461ae0a00" ++ later_input 0x06 "" ++ later_input 0x07 "01110400f15365" ++ LATER_OUTPUT) (At fault.LockTime 135))
    × (Refuses (later_with 1 ++ from_hex "00" ++ later_input 0x05 "0112040065cd1d" ++ LATER_OUTPUT) (At fault.ValueForm 77))
    × (Refuses (later_with 1 ++ from_hex "00" ++ later_input 0x05 "011104ff64cd1d" ++ LATER_OUTPUT) (At fault.ValueForm 77))

-- the redeem script of an output whose key has data; a derivation of an output without a key
abbrev pub OutputRefusals : Type 0
OutputRefusals =
    (Refuses (unsigned_with "feffffff" ++ from_hex "00" ++ from_hex "0200000151" ++ 0x00 ∷ []) (At fault.KeyForm 92))
    × (Refuses (unsigned_with "feffffff" ++ from_hex "00" ++ from_hex "010204deadbeef" ++ 0x00 ∷ []) (At fault.KeyForm 92))
