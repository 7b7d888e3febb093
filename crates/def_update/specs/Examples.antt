-- Examples of what belongs to maps and of what bars it; keys, scripts and amounts are made up.
use Prim.Native.String.{String}
use Rattle.std.specs.Prelude.{◌≡◌, ℕ, List, [], ◌∷◌, ◌++◌, Bool, true, false, Option, Some, None, Result, Ok, Err}
use Rattle.def_hash.specs.Hex.{from_hex}
use Rattle.def_script.specs.Bytes.{Bytes}
use Rattle.def_psbt.specs.declared.Refusal.{Refusal}
use Rattle.def_psbt.specs.Map.{Psbt, psbt_text}
use Rattle.def_psbt.specs.Source.{psbt_of}
use Rattle.def_psbt.specs.Examples.{unsigned_with, SPENT}
use Rattle.def_update.specs.Known.{Known}
use Rattle.def_update.specs.Updated.{update_of}

-- ---- what is known

-- of the output that SPENT has, a P2WSH program
abbrev pub OF_SPENT : Known
OF_SPENT = record {
  output = from_hex "0020df533ab97795e72c2cf08989bf5d133f2063ff81fd3d927a43294f625571655b";
  redeem = None;
  witness = Some (from_hex "51");
  keys = (from_hex "020101010101010101010101010101010101010101010101010101010101010101", record { print = from_hex "deadbeef"; steps = 0x80000030 ∷ 3 ∷ [] }) ∷ [];
}

-- of the output that the transaction of `unsigned_with` pays, a P2WPKH program
abbrev pub OF_PAID : Known
OF_PAID = record {
  output = from_hex "00140707070707070707070707070707070707070707";
  redeem = None;
  witness = None;
  keys = (from_hex "030303030303030303030303030303030303030303030303030303030303030303", record { print = from_hex "00000001"; steps = [] }) ∷ [];
}

-- of a P2SH output
abbrev pub OF_HASH : Known
OF_HASH = record {
  output = from_hex "a914080808080808080808080808080808080808080887";
  redeem = Some (from_hex "00140909090909090909090909090909090909090909");
  witness = None;
  keys = [];
}

-- ---- PSBTs

-- with these pairs behind SPENT in the map of its input, and these in that of its output
abbrev pub with_pairs : (input output : String) → Bytes
with_pairs input output = unsigned_with "feffffff" ++ (SPENT ++ (from_hex input ++ (from_hex "00" ++ (from_hex output ++ from_hex "00"))))

-- the input spends a P2SH output
abbrev pub with_hash : (input : String) → Bytes
with_hash input =
    unsigned_with "feffffff" ++ (from_hex "010120a08601000000000017a914080808080808080808080808080808080808080887" ++ (from_hex input ++ from_hex "0000"))

-- its bytes, and whether an input is known; or the place of what bars it
abbrev pub seen : Result (Psbt × Bool) ℕ → Result (Bytes × Bool) ℕ
seen (Ok whole) = Ok (psbt_text whole.0.global whole.0.inputs whole.0.outputs, whole.1)
seen (Err at) = Err at

abbrev pub seen_of : List Known → Result Psbt Refusal → Option (Result (Bytes × Bool) ℕ)
seen_of known (Ok psbt) = Some (seen (update_of known psbt))
seen_of known (Err why) = None

abbrev pub Updates : List Known → (source text : Bytes) → (has_known_input : Bool) → Type 0
Updates known source text has_known_input = seen_of known (psbt_of source) ≡ Some (Ok (text, has_known_input))

abbrev pub Bars : List Known → (source : Bytes) → (at : ℕ) → Type 0
Bars known source at = seen_of known (psbt_of source) ≡ Some (Err at)

-- ---- what they are updated to

-- the witness script, and the key with its fingerprint and two steps, the first of them hardened
abbrev pub BelongsToInput : Type 0
BelongsToInput =
    Updates (OF_SPENT ∷ []) (with_pairs "" "")
    (with_pairs "0105015122060201010101010101010101010101010101010101010101010101010101010101010cdeadbeef3000008003000000" "") true

-- an output's key, whose origin is itself; no input is known
abbrev pub BelongsToOutput : Type 0
BelongsToOutput =
    Updates (OF_PAID ∷ []) (with_pairs "" "")
    (with_pairs "" "22020303030303030303030303030303030303030303030303030303030303030303030400000001") false

-- the redeem script of a P2SH output
abbrev pub RedeemScript : Type 0
RedeemScript = Updates (OF_HASH ∷ []) (with_hash "") (with_hash "01041600140909090909090909090909090909090909090909") true

-- behind another pair, and without the one that stands there
abbrev pub GoesBehind : Type 0
GoesBehind =
    Updates (OF_PAID ∷ OF_SPENT ∷ []) (with_pairs "01f0010a01050151" "01f1010b")
    (with_pairs "01f0010a0105015122060201010101010101010101010101010101010101010101010101010101010101010cdeadbeef3000008003000000" "01f1010b22020303030303030303030303030303030303030303030303030303030303030303030400000001")
    true

-- once more it stays the same
abbrev pub AgainTheSame : Type 0
AgainTheSame =
    let again = with_pairs "0105015122060201010101010101010101010101010101010101010101010101010101010101010cdeadbeef3000008003000000" "" in
    Updates (OF_SPENT ∷ []) again again true

-- nothing belongs to the map of an input with a final witness, whatever stands there; yet the input is known
abbrev pub FinalStays : Type 0
FinalStays =
    let final = with_pairs "01050152010803010151" "" in
    Updates (OF_SPENT ∷ []) final final true

-- another witness script, in the map of an input; another origin, in that of an output
abbrev pub BarsAnother : Type 0
BarsAnother =
    (Bars (OF_SPENT ∷ []) (with_pairs "01f0010a01050152" "") 141)
    × (Bars (OF_SPENT ∷ OF_PAID ∷ []) (with_pairs "" "22020303030303030303030303030303030303030303030303030303030303030303030400000002") 138)
