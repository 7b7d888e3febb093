-- Examples of what is combined and of what is refused; the maps are made up.
use Prim.Native.String.{String}
use Rattle.std.specs.Prelude.{◌≡◌, [], ◌∷◌, ◌++◌, codes, Option, Some, None, Result, Ok, Err}
use Rattle.base64.specs.Engines.{standard}
use Rattle.base64.specs.GeneralPurpose.{encode_of}
use Rattle.def_hash.specs.Hex.{from_hex}
use Rattle.def_script.specs.Bytes.{Bytes}
use Rattle.def_psbt.specs.declared.Refusal.TheVariants.{NotBase64, Magic}
use Rattle.def_psbt.specs.Map.{Psbt, psbt_text}
use Rattle.def_psbt.specs.Examples.{unsigned_with, later_with, later_input, LATER_OUTPUT, BARE}
use Rattle.def_combine.specs.declared.LineFault.TheVariants as fault
use Rattle.def_combine.specs.declared.CombineRefusal.{CombineRefusal}
use Rattle.def_combine.specs.declared.CombineRefusal.TheVariants as refusal
use Rattle.def_combine.specs.Combine.{LF, combined_of}

-- the bytes of what was combined
abbrev pub text_of : Result Psbt CombineRefusal → Option Bytes
text_of (Ok psbt) = Some (psbt_text psbt.global psbt.inputs psbt.outputs)
text_of (Err why) = None

-- a line with the base64 of a PSBT
abbrev pub line_of : (psbt : Bytes) → Bytes
line_of psbt = encode_of standard psbt ++ LF ∷ []

abbrev pub Combines : (source text : Bytes) → Type 0
Combines source text = text_of (combined_of source) ≡ Some text

abbrev pub Refuses : (source : Bytes) → CombineRefusal → Type 0
Refuses source why = combined_of source ≡ Err why

-- a PSBT with these pairs of unlisted types in the map of its input and in that of its output
abbrev pub with_pairs : (input output : String) → Bytes
with_pairs input output = unsigned_with "feffffff" ++ from_hex input ++ from_hex "00" ++ from_hex output ++ from_hex "00"

-- one line with blanks, between two without a PSBT, and without a line feed behind it
abbrev pub OneIsCombined : Type 0
OneIsCombined = Combines (0x20 ∷ LF ∷ 0x0d ∷ LF ∷ 0x09 ∷ encode_of standard BARE) BARE

-- the second line's new keys behind those of the first, in their order; of f0 the first value stays
abbrev pub NewKeysFollow : Type 0
NewKeysFollow =
    Combines (line_of (with_pairs "01f1010a01f0010b" "") ++ line_of (with_pairs "01f2010c01f0010d01ef010e" "01f0010f"))
    (with_pairs "01f1010a01f0010b01f2010c01ef010e" "01f0010f")

-- so do the third line's
abbrev pub ThreeAreCombined : Type 0
ThreeAreCombined =
    Combines (line_of (with_pairs "01f1010a" "") ++ line_of (with_pairs "01f0010b" "") ++ line_of (with_pairs "01f2010c01f0010d01f1010e" ""))
    (with_pairs "01f1010a01f0010b01f2010c" "")

-- no byte; blanks alone; a line that is no base64, counted from 1; one whose bytes don't begin with the magic
abbrev pub LineRefusals : Type 0
LineRefusals =
    (Refuses [] refusal.NoPsbt)
    × (Refuses (0x20 ∷ LF ∷ LF ∷ []) refusal.NoPsbt)
    × (Refuses (LF ∷ line_of BARE ++ codes "cHNidP8BAA") (refusal.Line 3 (fault.Psbt NotBase64)))
    × (Refuses BARE (refusal.Line 1 (fault.Psbt NotBase64)))
    × (Refuses (codes "cHNidAA=") (refusal.Line 1 (fault.Psbt Magic)))

-- version 2 behind version 0, of one transaction; another sequence number
abbrev pub OtherRefusals : Type 0
OtherRefusals =
    (Refuses (line_of BARE ++ line_of (later_with 1 ++ from_hex "00" ++ later_input 0x05 "" ++ LATER_OUTPUT)) (refusal.Line 2 fault.OtherVersion))
    × (Refuses (line_of BARE ++ line_of (unsigned_with "fdffffff" ++ from_hex "0000")) (refusal.Line 2 fault.OtherTransaction))

-- two inputs, each with both lock times of its own in one of two PSBTs that lack the other's height
abbrev pub OtherLockTime : Type 0
OtherLockTime =
    let both : String = "01110400f1536501120461ae0a00" in
    let time : String = "01110400f15365" in
    let one = later_with 2 ++ from_hex "00" ++ later_input 0x05 both ++ later_input 0x06 time ++ LATER_OUTPUT in
    let two = later_with 2 ++ from_hex "00" ++ later_input 0x05 time ++ later_input 0x06 both ++ LATER_OUTPUT in
    Refuses (line_of one ++ line_of two) refusal.OtherTransaction
