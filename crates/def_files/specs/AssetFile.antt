-- The asset file: signatures, preimages and the values of the locks.
use Rattle.std.specs.Prelude.{ℕ, ◌==◌, Bool, List, [], ◌∷◌, length, map, Result, unwrap_or}
use Rattle.serde_json.specs.Data.{Data}
use Rattle.def_script.specs.Bytes.{Bytes}
use Rattle.def_script.specs.Key.{is_key}
use Rattle.def_script.specs.Signature.{is_signature_size}
use Rattle.def_assets.specs.Assets.{Assets}
use Rattle.def_files.specs.declared.Format.TheVariants.{One as one}
use Rattle.def_files.specs.declared.Member.TheVariants as member
use Rattle.def_files.specs.declared.AssetFault.{AssetFault}
use Rattle.def_files.specs.declared.AssetFault.TheVariants as fault
use Rattle.def_files.specs.Json.{reading}
use Rattle.def_files.specs.Parts.{locks, format, same_under, elements, is_text, is_hex, is_pair, is_hex_pair, key_of, sig_of, pairs, strings}
use Rattle.def_files.specs.Refusals.{Refusal, unless_each, unless_any, given, no_object, no_list_of, no_version, no_sequence, no_locktime, no_format, no_hex, too_many, no_repeat, MOST_SIGNATURES}

-- how many preimages a file may have
abbrev pub MOST_PREIMAGES : ℕ
MOST_PREIMAGES = 256

-- a signature's length, and that of a preimage, which has 32 bytes
abbrev pub is_signature : Bytes → Bool
is_signature sig = is_signature_size (length sig)

abbrev pub is_preimage : Bytes → Bool
is_preimage preimage = length preimage == 32

-- after NotJson, which is number 1
abbrev pub asset_refusals : Data → List Refusal
asset_refusals file =
    -- 2, the shape
    no_object file ∷
    no_list_of is_pair member.Signatures file ∷
    no_list_of is_text member.Preimages file ∷
    -- 3, the numbers
    no_version file ∷
    no_sequence file ∷
    no_locktime file ∷
    no_format file ∷
    -- 4, the digits
    no_hex is_hex_pair member.Signatures file ∷
    no_hex is_hex member.Preimages file ∷
    -- 5, 6, 7: the form of a key, the length of a signature, the length of a preimage
    unless_each is_key fault.KeyForm (map key_of (elements member.Signatures file)) ∷
    unless_each is_signature fault.SigLength (map sig_of (elements member.Signatures file)) ∷
    unless_each is_preimage fault.PreimageLength (strings member.Preimages file) ∷
    -- 8, how many there are
    too_many MOST_SIGNATURES member.Signatures file ∷
    too_many MOST_PREIMAGES member.Preimages file ∷
    -- 9, in format 1 a key has one signature, in format 2 none twice
    no_repeat (same_under (unwrap_or (format file) one)) fault.RepeatedKey (pairs file) ∷ []

-- the assets of a file
abbrev pub assets_in : Data → Assets
assets_in file = record {
  locks = locks file;
  pairs = pairs file;
  preimages = strings member.Preimages file;
}

-- what the bytes of an asset file give, or why they are refused
unfoldable pub assets_of : Bytes → Result Assets AssetFault
assets_of bytes = given (λ file. unless_any (asset_refusals file) (assets_in file)) (reading bytes)
