-- Examples of files: what they give, and why they are refused.
use Rattle.std.specs.Prelude.{◌≡◌, List, [], ◌∷◌, ◌++◌, codes, replicate, drop, Ok, Err}
use Rattle.hex.specs.Hex.{encode_lower}
use Rattle.def_script.specs.Bytes.{Bytes}
use Rattle.def_machine.specs.declared.Locks.{Locks}
use Rattle.def_machine.specs.Samples.{key_a, sig_a, sig_c}
use Rattle.def_assets.specs.Assets.{Assets}
use Rattle.def_files.specs.declared.Member.TheVariants as member
use Rattle.def_files.specs.declared.AssetFault.TheVariants as fault
use Rattle.def_files.specs.AssetFile.{assets_of}
use Rattle.def_files.specs.RunFile.{RunFile, run_of}

-- ---- writing files

-- a signature with its key
abbrev pub signature_text : (key sig : Bytes) → Bytes
signature_text key sig =
    codes "{\"key\":\"" ++ encode_lower key ++ codes "\",\"sig\":\"" ++ encode_lower sig ++ codes "\"}"

-- a file with one signature, or with two
abbrev pub with_one : (one : Bytes) → Bytes
with_one one = codes "{\"signatures\":[" ++ one ++ codes "]}"

abbrev pub with_both : (one two : Bytes) → Bytes
with_both one two = codes "{\"signatures\":[" ++ one ++ codes "," ++ two ++ codes "]}"

-- version 2, sequence number 4294967294 and locktime 0
abbrev pub default_locks : Locks
default_locks = record { version = 2; sequence = 4294967294; locktime = 0 }

abbrev pub no_assets : Assets
no_assets = record { locks = default_locks; pairs = []; preimages = [] }

-- ---- asset files

-- no bytes, and a text that ends too soon
abbrev pub NoBytes : Type 0
NoBytes = assets_of [] ≡ Err fault.NotJson

abbrev pub EndsTooSoon : Type 0
EndsTooSoon = assets_of (codes "{\"version\":2") ≡ Err fault.NotJson

-- a byte that no UTF-8 text has
abbrev pub NotUtf8 : Type 0
NotUtf8 = assets_of (codes "{\"" ++ 0xff ∷ codes "\":0}") ≡ Err fault.NotJson

-- 127 lists in one another, which are no object, and 128
abbrev pub DeepestFile : Type 0
DeepestFile = assets_of (replicate 127 91 ++ replicate 127 93) ≡ Err (fault.Shape member.Whole)

abbrev pub TooDeepFile : Type 0
TooDeepFile = assets_of (replicate 128 91 ++ replicate 128 93) ≡ Err fault.NotJson

abbrev pub ListAsFile : Type 0
ListAsFile = assets_of (codes "[]") ≡ Err (fault.Shape member.Whole)

-- all that is missing has its default
abbrev pub EmptyFile : Type 0
EmptyFile = assets_of (codes "{}") ≡ Ok no_assets

-- a signature, a preimage, a member that isn't known
abbrev pub WholeFile : Type 0
WholeFile =
    assets_of (codes "{\"sequence\": 144, \"note\": [null], \"preimages\": [\"" ++ encode_lower (replicate 32 0x11)
    ++ codes "\"], \"signatures\": [" ++ signature_text key_a sig_a ++ codes "]}\n")
    ≡ Ok (record {
      locks = record default_locks { sequence = 144 };
      pairs = (key_a, sig_a) ∷ [];
      preimages = replicate 32 0x11 ∷ [];
    })

-- digits in upper case
abbrev pub UpperCase : Type 0
UpperCase =
    assets_of (with_one (codes "{\"key\":\"02ABABABABABABABABABABABABABABABABABABABABABABABABABABABABABABABAB\",\"sig\":\"Aa\"}"))
    ≡ Ok (record no_assets { pairs = (0x02 ∷ replicate 32 0xab, 0xaa ∷ []) ∷ [] })

-- the greatest number, and the one after it
abbrev pub GreatestSequence : Type 0
GreatestSequence =
    assets_of (codes "{\"sequence\":4294967295}")
    ≡ Ok (record no_assets { locks = record default_locks { sequence = 4294967295 } })

abbrev pub SequenceTooGreat : Type 0
SequenceTooGreat = assets_of (codes "{\"sequence\":4294967296}") ≡ Err (fault.Number member.Sequence)

-- no whole numbers, and a member that is there
abbrev pub NoWholeNumbers : Type 0
NoWholeNumbers =
    (assets_of (codes "{\"version\":-0}") ≡ Err (fault.Number member.Version))
    × (assets_of (codes "{\"version\":1.0}") ≡ Err (fault.Number member.Version))
    × (assets_of (codes "{\"version\":1e0}") ≡ Err (fault.Number member.Version))
    × (assets_of (codes "{\"version\":\"2\"}") ≡ Err (fault.Number member.Version))
    × (assets_of (codes "{\"version\":null}") ≡ Err (fault.Number member.Version))
    × (assets_of (codes "{\"signatures\":null}") ≡ Err (fault.Shape member.Signatures))

-- of members with one name the last counts, also where its name is written by an escape
abbrev pub LastCounts : Type 0
LastCounts =
    assets_of (codes "{\"version\":-1,\"locktime\":[],\"version\":1,\"lockt\\u0069me\":7}")
    ≡ Ok (record no_assets { locks = record default_locks { version = 1; locktime = 7 } })

-- elements of the wrong shape
abbrev pub WrongElements : Type 0
WrongElements =
    (assets_of (codes "{\"signatures\":[{\"key\":\"\"}]}") ≡ Err (fault.Shape member.Signatures))
    × (assets_of (codes "{\"signatures\":[{\"key\":\"\",\"sig\":0}]}") ≡ Err (fault.Shape member.Signatures))
    × (assets_of (codes "{\"preimages\":[\"\",[]]}") ≡ Err (fault.Shape member.Preimages))

-- the number of a refusal goes first, then the member, then the place
abbrev pub ShapeFirst : Type 0
ShapeFirst =
    assets_of (codes "{\"version\":-1,\"preimages\":{},\"signatures\":{}}") ≡ Err (fault.Shape member.Signatures)

abbrev pub NumberBeforeDigits : Type 0
NumberBeforeDigits = assets_of (codes "{\"preimages\":[\"0\"],\"locktime\":-1}") ≡ Err (fault.Number member.Locktime)

abbrev pub FirstOddDigits : Type 0
FirstOddDigits =
    assets_of (codes "{\"preimages\":[\"0\"],\"signatures\":[{\"key\":\"\",\"sig\":\"00\"},{\"key\":\"00\",\"sig\":\"0\"},{\"key\":\"g0\",\"sig\":\"\"}]}")
    ≡ Err (fault.Hex member.Signatures 1)

abbrev pub OddPreimage : Type 0
OddPreimage = assets_of (codes "{\"preimages\":[\"00\",\"0x\"]}") ≡ Err (fault.Hex member.Preimages 1)

-- an empty key and an empty signature; a key that begins with 4
abbrev pub NoKey : Type 0
NoKey = assets_of (with_one (signature_text [] [])) ≡ Err (fault.KeyForm 0)

abbrev pub UncompressedKey : Type 0
UncompressedKey =
    assets_of (with_both (signature_text key_a []) (signature_text (0x04 ∷ replicate 32 0x01) sig_a))
    ≡ Err (fault.KeyForm 1)

-- a signature of 74 bytes, and an empty one
abbrev pub SignatureTooLong : Type 0
SignatureTooLong = assets_of (with_one (signature_text key_a (replicate 74 0xaa))) ≡ Err (fault.SigLength 0)

abbrev pub EmptySignature : Type 0
EmptySignature =
    assets_of (with_both (signature_text key_a sig_a) (signature_text key_a [])) ≡ Err (fault.SigLength 1)

-- a preimage of 31 bytes
abbrev pub ShortPreimage : Type 0
ShortPreimage =
    assets_of (codes "{\"preimages\":[\"" ++ encode_lower (replicate 31 0x11) ++ codes "\"]}")
    ≡ Err (fault.PreimageLength 0)

-- one key twice
abbrev pub KeyTwice : Type 0
KeyTwice = assets_of (with_both (signature_text key_a sig_a) (signature_text key_a sig_c)) ≡ Err (fault.RepeatedKey 1)

-- in format 2 a key may have several signatures, but none twice; format 1 may be named
abbrev pub with_format : (format : Bytes) → (file : Bytes) → Bytes
with_format format file = codes "{\"format\":" ++ format ++ codes "," ++ drop 1 file

abbrev pub TwoSignatures : Type 0
TwoSignatures =
    assets_of (with_format (codes "2") (with_both (signature_text key_a sig_a) (signature_text key_a sig_c)))
    ≡ Ok (record no_assets { pairs = (key_a, sig_a) ∷ (key_a, sig_c) ∷ [] })

abbrev pub SignatureTwice : Type 0
SignatureTwice =
    assets_of (with_format (codes "2") (with_both (signature_text key_a sig_a) (signature_text key_a sig_a)))
    ≡ Err (fault.RepeatedKey 1)

abbrev pub FormatOne : Type 0
FormatOne =
    assets_of (with_format (codes "1") (with_both (signature_text key_a sig_a) (signature_text key_a sig_c)))
    ≡ Err (fault.RepeatedKey 1)

-- no other format; its number comes after those of the locks
abbrev pub OtherFormats : Type 0
OtherFormats =
    (assets_of (codes "{\"format\":3}") ≡ Err (fault.Number member.Format))
    × (assets_of (codes "{\"format\":0}") ≡ Err (fault.Number member.Format))
    × (assets_of (codes "{\"format\":2.0}") ≡ Err (fault.Number member.Format))
    × (assets_of (codes "{\"format\":\"2\"}") ≡ Err (fault.Number member.Format))

abbrev pub VersionBeforeFormat : Type 0
VersionBeforeFormat =
    (assets_of (codes "{\"format\":3,\"version\":-1}") ≡ Err (fault.Number member.Version))
    × (assets_of (codes "{\"format\":3,\"preimages\":[\"0\"]}") ≡ Err (fault.Number member.Format))

-- 257 signatures, each with an empty key
abbrev pub joined : List Bytes → Bytes
joined [] = []
joined (text ∷ []) = text
joined (text ∷ next ∷ texts) = text ++ codes "," ++ joined (next ∷ texts)

abbrev pub many_signatures : Bytes
many_signatures = with_one (joined (replicate 257 (signature_text [] [])))

abbrev pub KeyFormFirst : Type 0
KeyFormFirst = assets_of many_signatures ≡ Err (fault.KeyForm 0)

-- 257 preimages
abbrev pub TooManyPreimages : Type 0
TooManyPreimages =
    assets_of (codes "{\"preimages\":[" ++ joined (replicate 257 (codes "\"" ++ encode_lower (replicate 32 0x00)
    ++ codes "\"")) ++ codes "]}") ≡ Err (fault.TooMany member.Preimages)

-- ---- run files

abbrev pub one_run : RunFile
one_run = record { script = 0x51 ∷ []; stack = []; locks = default_locks; pairs = [] }

-- the script `1`
abbrev pub RunOfOne : Type 0
RunOfOne = run_of (codes "{\"script\":\"51\"}") ≡ Ok one_run

-- the format is passed over
abbrev pub RunPassesFormat : Type 0
RunPassesFormat = run_of (codes "{\"format\":3,\"script\":\"51\"}") ≡ Ok one_run

-- a stack, a locktime, a key of any form twice; preimages are passed over
abbrev pub RunOfMore : Type 0
RunOfMore =
    run_of (codes "{\"script\":\"\",\"witness\":[\"\",\"0aFF\"],\"locktime\":1,\"preimages\":0,\"signatures\":["
    ++ signature_text [] []
    ++ codes "," ++ signature_text [] [] ++ codes "]}")
    ≡ Ok (record {
      script = [];
      stack = [] ∷ (0x0a ∷ 0xff ∷ []) ∷ [];
      locks = record default_locks { locktime = 1 };
      pairs = ([], []) ∷ ([], []) ∷ [];
    })

-- the script is missing, no text, or no digits
abbrev pub NoScript : Type 0
NoScript = run_of (codes "{}") ≡ Err (fault.Shape member.Script)

abbrev pub ScriptOfNumber : Type 0
ScriptOfNumber = run_of (codes "{\"script\":51}") ≡ Err (fault.Shape member.Script)

abbrev pub ScriptOfOneDigit : Type 0
ScriptOfOneDigit = run_of (codes "{\"script\":\"5\"}") ≡ Err (fault.Hex member.Script 0)

-- signatures come before the script, and the script before the stack
abbrev pub SignaturesFirst : Type 0
SignaturesFirst =
    (run_of (codes "{\"signatures\":0}") ≡ Err (fault.Shape member.Signatures))
    × (run_of (codes "{\"script\":\"5\",\"witness\":[\"5\"],\"signatures\":[{\"key\":\"\",\"sig\":\"5\"}]}")
    ≡ Err (fault.Hex member.Signatures 0))
    × (run_of (codes "{\"script\":\"5\",\"witness\":[\"5\"]}") ≡ Err (fault.Hex member.Script 0))
    × (run_of (codes "{\"script\":\"51\",\"witness\":[\"\",\"5\"]}") ≡ Err (fault.Hex member.Witness 1))
    × (run_of (codes "{\"script\":\"51\",\"witness\":[0]}") ≡ Err (fault.Shape member.Witness))

-- 257 signatures, and 2,001 elements
abbrev pub TooManySignatures : Type 0
TooManySignatures =
    run_of (codes "{\"script\":\"\"," ++ drop 1 many_signatures) ≡ Err (fault.TooMany member.Signatures)

abbrev pub TooManyElements : Type 0
TooManyElements =
    run_of (codes "{\"script\":\"\",\"witness\":[" ++ joined (replicate 2001 (codes "\"\"")) ++ codes "]}")
    ≡ Err (fault.TooMany member.Witness)
