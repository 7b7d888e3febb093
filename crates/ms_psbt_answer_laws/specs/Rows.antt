-- Answers to worked PSBTs.
use Rattle.std.specs.Prelude.{List, [], ◌∷◌, ◌++◌, codes}
use Rattle.hex.specs.Hex.{encode_lower}
use Rattle.def_hash.specs.Hex.{from_hex}
use Rattle.def_script.specs.Bytes.{Bytes}
use Rattle.def_machine.specs.Samples.{key_a, key_c}
use Rattle.def_psbt.specs.Examples.{TWO_OF_THREE, NO_INPUTS, BARE}
use Rattle.def_answer.specs.Samples.{A, B, C, lines}
use Rattle.def_psbt_answer.specs.declared.status.Status.{Status}
use Rattle.def_psbt_answer.specs.declared.status.Status.TheVariants as status
use Rattle.def_psbt_answer.specs.Words.{OPTION}
use Rattle.def_psbt_answer.specs.Answer.{Answer}
use Rattle.def_psbt_answer.specs.Samples.{pair, sig_a, sig_b, sig_c, signed_a, signed_b, signed_c, asking, derived, two_of_three, later_key, one_or_two, key_or_lock, with_sequence, with_map, second_with, kept, final_two_of_three, spent_two_of_three}

-- the answer to a word
abbrev pub Answers : (word : Bytes) → (source : Bytes) → Status → (report : Bytes) → Type 0
Answers word source status report = Answer (word ∷ []) source status report

-- and to one with the option behind it: no signature is looked at
abbrev pub AnswersUnverified : (word : Bytes) → (source : Bytes) → Status → (report : Bytes) → Type 0
AnswersUnverified word source status report = Answer (word ∷ OPTION ∷ []) source status report

-- an output that is P2SH of the program of `multi(2,A,B,C)`, that program as its redeem script, the witness script, and the one push
-- of the redeem script
abbrev pub nested_two_of_three : Bytes
nested_two_of_three = pair (0x01 ∷ []) (from_hex "a08601000000000017a914c30819a2f5580aae53e7fe5ff491def00bfb0cb787")

abbrev pub redeem_two_of_three : Bytes
redeem_two_of_three = pair (0x04 ∷ []) (from_hex "0020df533ab97795e72c2cf08989bf5d133f2063ff81fd3d927a43294f625571655b")

abbrev pub script_two_of_three : Bytes
script_two_of_three = pair (0x05 ∷ []) (from_hex "5221020101010101010101010101010101010101010101010101010101010101010101210279be667ef9dcbbac55a06295ce870b07029bfcdb2dce28d959f2815b16f817982103030303030303030303030303030303030303030303030303030303030303030353ae")

abbrev pub nested_script_sig : Bytes
nested_script_sig = pair (0x07 ∷ []) (from_hex "220020df533ab97795e72c2cf08989bf5d133f2063ff81fd3d927a43294f625571655b")

-- ---- words and refusals

abbrev pub NoForm : Type 0
NoForm =
    Answer [] BARE status.Usage (codes "refused usage\n")
    × Answers (codes "Finalize") BARE status.Usage (codes "refused usage\n")
    × Answer (codes "inspect" ∷ codes "inspect" ∷ []) BARE status.Usage (codes "refused usage\n")
    × Answer (OPTION ∷ codes "inspect" ∷ []) BARE status.Usage (codes "refused usage\n")
    × AnswersUnverified (codes "extract") BARE status.Usage (codes "refused usage\n")

abbrev pub Refused : Type 0
Refused =
    Answers (codes "finalize") [] status.Refused (codes "refused psbt Magic\n")
    × Answers (codes "inspect") (codes "cHNidP8BAA") status.Refused (codes "refused psbt NotBase64\n")
    × Answers (codes "extract") (from_hex "70736274ff00") status.Refused (codes "refused psbt NoTransaction at 5\n")

-- ---- inspect

abbrev pub Inspects : (source : Bytes) → Status → (report : List Bytes) → Type 0
Inspects source status report = AnswersUnverified (codes "inspect") source status (lines report)

-- the first lines of a PSBT with the usual transaction, and those of an input that spends 100,000
abbrev pub usual : (fee : Bytes) → List Bytes
usual fee =
    codes "psbt inputs 1 outputs 1 version 2 locktime 0 txid fc13434055c19a48ec006f9c4951550f5ba2013f0cb368a52d5ca429a73223ec"
    ∷ codes "output 0 90000 00140707070707070707070707070707070707070707" ∷ (codes "fee " ++ fee) ∷ []

abbrev pub outpoint_0 : Bytes
outpoint_0 = codes "outpoint 0505050505050505050505050505050505050505050505050505050505050505 0 sequence 4294967294"

abbrev pub claimed : (state : Bytes) → List Bytes
claimed state = usual (codes "10000 claimed") ++ (codes "input 0 " ++ state) ∷ outpoint_0 ∷ codes "amount 100000 claimed" ∷ []

-- and the kind of a P2WSH output
abbrev pub guarded : (state : Bytes) → List Bytes
guarded state = claimed state ++ codes "kind p2wsh" ∷ []

-- what is told of `multi(2,A,B,C)`
abbrev pub multi_lines : List Bytes
multi_lines =
    (codes "text multi(2," ++ A ++ codes "," ++ B ++ codes "," ++ C ++ codes ")")
    ∷ (codes "policy thresh(2,key(" ++ A ++ codes "),key(" ++ B ++ codes "),key(" ++ C ++ codes "))") ∷ []

abbrev pub InspectReady : Type 0
InspectReady =
    Inspects TWO_OF_THREE status.Done
    (guarded (codes "Ready") ++ (codes "signature " ++ C ++ codes " 1") ∷ (codes "signature " ++ A ++ codes " 1")
    ∷ multi_lines ++ codes "weight 144" ∷ [])

-- one signature of two
abbrev pub InspectOneSignature : Type 0
InspectOneSignature =
    Inspects (with_map (two_of_three ∷ signed_c 1 ∷ [])) status.Open
    (guarded (codes "Unsatisfied") ++ (codes "signature " ++ C ++ codes " 1")
    ∷ multi_lines ++ (codes "ask " ++ A) ∷ codes "weight at most 146" ∷ [])

-- the lightest plan isn't that with the fewest signatures missing
abbrev pub InspectLightest : Type 0
InspectLightest =
    Inspects (with_map (one_or_two ∷ signed_b 1 ∷ derived key_a ∷ derived key_c ∷ [])) status.Open
    (guarded (codes "Unsatisfied") ++ (codes "signature " ++ B ++ codes " 1")
    ∷ (codes "text or_i(c:pk_k(" ++ A ++ codes "),and_v(vc:pk_k(" ++ B ++ codes "),c:pk_k(" ++ C ++ codes ")))")
    ∷ (codes "policy any(key(" ++ A ++ codes "),all(key(" ++ B ++ codes "),key(" ++ C ++ codes ")))")
    ∷ (codes "ask " ++ A) ∷ codes "weight at most 76" ∷ [])

-- a lock that doesn't hold yet
abbrev pub InspectTooEarly : Type 0
InspectTooEarly =
    Inspects (second_with "8f000000" (later_key ∷ signed_b 1 ∷ [])) status.Open
    (codes "psbt inputs 1 outputs 1 version 2 locktime 0 txid 5615472e250cfd234e58f0c012353b1f81dc39d302336a9d3005f5ce7880c70b"
    ∷ codes "output 0 90000 00140707070707070707070707070707070707070707"
    ∷ codes "fee 10000 claimed"
    ∷ codes "input 0 Unsatisfied"
    ∷ codes "outpoint 0505050505050505050505050505050505050505050505050505050505050505 1 sequence 143"
    ∷ codes "amount 100000 claimed"
    ∷ codes "kind p2wsh"
    ∷ (codes "signature " ++ B ++ codes " 1")
    ∷ (codes "text or_d(c:pk_k(" ++ A ++ codes "),and_v(vc:pk_h(" ++ B ++ codes "),older(144)))")
    ∷ (codes "policy any(key(" ++ A ++ codes "),all(key(" ++ B ++ codes "),older(144)))")
    ∷ (codes "ask " ++ A)
    ∷ codes "weight at most 74" ∷ [])

-- a key that isn't in the map, of which the script has the hash alone
abbrev pub InspectNoReading : Type 0
InspectNoReading =
    Inspects (second_with "90000000" (later_key ∷ [])) status.Open
    (codes "psbt inputs 1 outputs 1 version 2 locktime 0 txid 325a90e9c83a378374c4bbaf0875764809da0e7f26252bddd9af5e2331b1bccf"
    ∷ codes "output 0 90000 00140707070707070707070707070707070707070707"
    ∷ codes "fee 10000 claimed"
    ∷ codes "input 0 NoReading"
    ∷ codes "outpoint 0505050505050505050505050505050505050505050505050505050505050505 1 sequence 144"
    ∷ codes "amount 100000 claimed"
    ∷ codes "kind p2wsh" ∷ [])

abbrev pub InspectUnfit : Type 0
InspectUnfit =
    Inspects (with_sequence "05000000" (key_or_lock ∷ derived key_a ∷ [])) status.Open
    (codes "psbt inputs 1 outputs 1 version 2 locktime 0 txid 05cf1f3e3938f511530a7fba1ae7d2f12719135262ec47af4b16dbfff0f22550"
    ∷ codes "output 0 90000 00140707070707070707070707070707070707070707"
    ∷ codes "fee 10000 claimed"
    ∷ codes "input 0 Unfit NoSignature"
    ∷ codes "outpoint 0505050505050505050505050505050505050505050505050505050505050505 0 sequence 5"
    ∷ codes "amount 100000 claimed"
    ∷ codes "kind p2wsh"
    ∷ (codes "text or_d(c:pk_k(" ++ A ++ codes "),older(5))") ∷ [])

-- a signature of another type than is asked, and signatures of the type that is
abbrev pub InspectTypes : Type 0
InspectTypes =
    Inspects (with_map (two_of_three ∷ signed_a 1 ∷ asking 2 ∷ [])) status.Open
    (guarded (codes "WrongSighash") ++ (codes "signature " ++ A ++ codes " 1") ∷ multi_lines)
    × Inspects (with_map (two_of_three ∷ signed_a 2 ∷ signed_c 2 ∷ asking 2 ∷ [])) status.Done
    (guarded (codes "Ready") ++ (codes "signature " ++ A ++ codes " 2") ∷ (codes "signature " ++ C ++ codes " 2")
    ∷ multi_lines ++ codes "weight 144" ∷ [])

-- no spent output; no witness script; a final witness, of which nothing more is told
abbrev pub InspectOthers : Type 0
InspectOthers =
    Inspects BARE status.Open (usual (codes "unknown") ++ codes "input 0 NoUtxo" ∷ outpoint_0 ∷ codes "amount unknown" ∷ [])
    × Inspects (with_map (spent_two_of_three ∷ [])) status.Open (guarded (codes "NoScript"))
    × Inspects (with_map (two_of_three ∷ pair (0x08 ∷ []) (from_hex "010151") ∷ [])) status.Done
    (claimed (codes "Final") ++ codes "unchecked" ∷ [])

-- P2SH of the program of `multi(2,A,B,C)`: the redeem script is missing, it is another one, and it is there
abbrev pub InspectNested : Type 0
InspectNested =
    Inspects (with_map (nested_two_of_three ∷ [])) status.Open (claimed (codes "NoScript") ++ codes "kind other" ∷ [])
    × Inspects (with_map (nested_two_of_three ∷ pair (0x04 ∷ []) (from_hex "0020") ∷ [])) status.Open
    (claimed (codes "WrongScript") ++ codes "kind other" ∷ [])
    × Inspects (with_map (nested_two_of_three ∷ redeem_two_of_three ∷ [])) status.Open
    (codes "psbt inputs 1 outputs 1 version 2 locktime 0 txid fc13434055c19a48ec006f9c4951550f5ba2013f0cb368a52d5ca429a73223ec"
    ∷ codes "final txid d7f689596ea3de26c9287330971150582c2515d64a2a92773a44163bd9946b4c"
    ∷ codes "output 0 90000 00140707070707070707070707070707070707070707"
    ∷ codes "fee 10000 claimed"
    ∷ codes "input 0 NoScript"
    ∷ outpoint_0
    ∷ codes "amount 100000 claimed"
    ∷ codes "kind p2sh-p2wsh" ∷ [])

-- ---- finalize

-- the PSBT is written as bytes, or as base64
abbrev pub FinalizesTwoOfThree : Type 0
FinalizesTwoOfThree =
    AnswersUnverified (codes "finalize") TWO_OF_THREE status.Done (with_map (spent_two_of_three ∷ kept ∷ final_two_of_three ∷ []))

-- P2SH of it is spent with the one push of the redeem script
abbrev pub FinalizesNested : Type 0
FinalizesNested =
    AnswersUnverified (codes "finalize") (with_map (nested_two_of_three ∷ script_two_of_three ∷ signed_c 1 ∷ redeem_two_of_three ∷ signed_a 1 ∷ kept ∷ [])) status.Done
    (with_map (nested_two_of_three ∷ kept ∷ nested_script_sig ∷ final_two_of_three ∷ []))

abbrev pub FinalizesBase64 : Type 0
FinalizesBase64 =
    AnswersUnverified (codes "finalize")
    (codes "cHNidP8BAFICAAAAAQUFBQUFBQUFBQUFBQUFBQUFBQUFBQUFBQUFBQUFBQUFAAAAAAD+////AZBfAQAAAAAAFgAUBwcHBwcHBwcHBwcHBwcHBwcHBwcAAAAAAAEBK6CGAQAAAAAAIgAg31M6uXeV5yws8ImJv10TPyBj/4H9PZJ6QylPYlVxZVsBBWlSIQIBAQEBAQEBAQEBAQEBAQEBAQEBAQEBAQEBAQEBAQEBASECeb5mfvncu6xVoGKVzocLBwKb/NstzijZWfKBWxb4F5ghAwMDAwMDAwMDAwMDAwMDAwMDAwMDAwMDAwMDAwMDAwMDU64iAgMDAwMDAwMDAwMDAwMDAwMDAwMDAwMDAwMDAwMDAwMDA0YwQwIfHBwcHBwcHBwcHBwcHBwcHBwcHBwcHBwcHBwcHBwcHAIgLCwsLCwsLCwsLCwsLCwsLCwsLCwsLCwsLCwsLCwsLCwBIgICAQEBAQEBAQEBAQEBAQEBAQEBAQEBAQEBAQEBAQEBAQFHMEQCIBoaGhoaGhoaGhoaGhoaGhoaGhoaGhoaGhoaGhoaGhoaAiAqKioqKioqKioqKioqKioqKioqKioqKioqKioqKioqKgEiBgIBAQEBAQEBAQEBAQEBAQEBAQEBAQEBAQEBAQEBAQEBAQjerb7vMAAAgAEDBAEAAAAEQG5ldwRrZXB0AAA=")
    status.Done
    (lines (codes "cHNidP8BAFICAAAAAQUFBQUFBQUFBQUFBQUFBQUFBQUFBQUFBQUFBQUFBQUFAAAAAAD+////AZBfAQAAAAAAFgAUBwcHBwcHBwcHBwcHBwcHBwcHBwcAAAAAAAEBK6CGAQAAAAAAIgAg31M6uXeV5yws8ImJv10TPyBj/4H9PZJ6QylPYlVxZVsEQG5ldwRrZXB0AQj7BABHMEQCIBoaGhoaGhoaGhoaGhoaGhoaGhoaGhoaGhoaGhoaGhoaAiAqKioqKioqKioqKioqKioqKioqKioqKioqKioqKioqKgFGMEMCHxwcHBwcHBwcHBwcHBwcHBwcHBwcHBwcHBwcHBwcHBwCICwsLCwsLCwsLCwsLCwsLCwsLCwsLCwsLCwsLCwsLCwsAWlSIQIBAQEBAQEBAQEBAQEBAQEBAQEBAQEBAQEBAQEBAQEBASECeb5mfvncu6xVoGKVzocLBwKb/NstzijZWfKBWxb4F5ghAwMDAwMDAwMDAwMDAwMDAwMDAwMDAwMDAwMDAwMDAwMDU64AAA==" ∷ []))

-- one signature of two: nothing is changed; a final scriptSig without a byte and a final witness without an item: they
-- aren't final, and are cleared
abbrev pub FinalizesOthers : Type 0
FinalizesOthers =
    AnswersUnverified (codes "finalize") (with_map (two_of_three ∷ signed_c 1 ∷ [])) status.Open (with_map (two_of_three ∷ signed_c 1 ∷ []))
    × AnswersUnverified (codes "finalize")
    (with_map (pair (0x07 ∷ []) [] ∷ two_of_three ∷ pair (0x08 ∷ []) (0x00 ∷ []) ∷ signed_a 1 ∷ signed_c 1 ∷ [])) status.Done
    (with_map (spent_two_of_three ∷ final_two_of_three ∷ []))
    × AnswersUnverified (codes "finalize") NO_INPUTS status.Done NO_INPUTS

-- ---- extract

abbrev pub Extracts : Type 0
Extracts =
    Answers (codes "extract") (with_map (spent_two_of_three ∷ kept ∷ final_two_of_three ∷ [])) status.Done
    (lines ((codes "0200000000010105050505050505050505050505050505050505050505050505050505050505050000000000feffffff01905f0100000000001600140707070707070707070707070707070707070707040047"
    ++ encode_lower (sig_a 1) ++ codes "46" ++ encode_lower (sig_c 1)
    ++ codes "695221" ++ A ++ codes "21" ++ B ++ codes "21" ++ C ++ codes "53ae00000000") ∷ []))

abbrev pub ExtractsNested : Type 0
ExtractsNested =
    Answers (codes "extract") (with_map (nested_two_of_three ∷ nested_script_sig ∷ final_two_of_three ∷ [])) status.Done
    (lines ((codes "0200000000010105050505050505050505050505050505050505050505050505050505050505050000000023220020df533ab97795e72c2cf08989bf5d133f2063ff81fd3d927a43294f625571655bfeffffff01905f0100000000001600140707070707070707070707070707070707070707040047"
    ++ encode_lower (sig_a 1) ++ codes "46" ++ encode_lower (sig_c 1)
    ++ codes "695221" ++ A ++ codes "21" ++ B ++ codes "21" ++ C ++ codes "53ae00000000") ∷ []))

abbrev pub NotFinal : Type 0
NotFinal =
    Answers (codes "extract") TWO_OF_THREE status.Open (codes "not final 0\n")
    × Answers (codes "extract") NO_INPUTS status.Open (codes "not final 0\n")

-- ---- hashes

-- two inputs: SINGLE is asked of the first, whose signatures have other types, and nothing of the second
abbrev pub HashesOfTypes : Type 0
HashesOfTypes =
    AnswersUnverified (codes "hashes")
    (from_hex "70736274ff01007b020000000205050505050505050505050505050505050505050505050505050505050505050000000000feffffff050505050505050505050505050505050505050505050505050505050505050501000000000700000001905f010000000000160014070707070707070707070707070707070707070700000000"
    ++ 0x00 ∷ two_of_three ++ signed_a 0x83 ++ signed_b 0x02 ++ signed_c 0x00 ++ asking 3
    ++ 0x00 ∷ two_of_three ++ signed_a 0x03 ++ signed_b 0x81 ++ 0x00 ∷ 0x00 ∷ []) status.Done
    (lines (
    codes "input 0 WrongSighash"
    ∷ codes "sign-other 3 a15cff383bf7b30891a9a05df3e0917fc3045fbb29a7f027d4a140e8f4218a76"
    ∷ (codes "check " ++ A ++ codes " " ++ encode_lower (sig_a 0x83) ++ codes " fdbf28749a1138adefa54706499b921d40d3339315445a017e834324c89d0ebc")
    ∷ (codes "check " ++ B ++ codes " " ++ encode_lower (sig_b 0x02) ++ codes " 4d41950ef4b633d690c23b7487c1b7a74ce03fb482621a1e0d7da143d9f733c1")
    ∷ (codes "check " ++ C ++ codes " " ++ encode_lower (sig_c 0x00) ++ codes " -")
    ∷ codes "input 1 WrongSighash"
    ∷ codes "sign 1 74edeaeebd8c10f971597d91f5917a9cdf5cfe3bbbc827bc588ded2439f0b9d3"
    ∷ (codes "check " ++ A ++ codes " " ++ encode_lower (sig_a 0x03) ++ codes " 59cfb6110b5e20ab88e8d009b41763429aba9d63db66b86427fec1cefdaad743")
    ∷ (codes "check " ++ B ++ codes " " ++ encode_lower (sig_b 0x81) ++ codes " 8d4dbcf4c2e5f009630107b8f064d2b711f857c7d0cdf04bf1161e3847907402") ∷ []))

abbrev pub HashesOfNone : Type 0
HashesOfNone = Answers (codes "hashes") BARE status.Done (codes "input 0 NoUtxo\n")
