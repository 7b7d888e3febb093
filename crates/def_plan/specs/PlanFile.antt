-- The plan file: the keys that can sign with the lengths of their signatures, preimages and the values of the locks.
use Rattle.std.specs.Prelude.{ℕ, nat_le, ◌&&◌, Bool, is_some, List, [], ◌∷◌, codes, length, map, Option, Some, None, unwrap_or, option_and_then, Result, Err}
use Rattle.std.specs.Str.{bytes_eq}
use Rattle.serde_json.specs.Data.{Data}
use Rattle.serde_json.specs.Find.{get}
use Rattle.def_script.specs.Bytes.{Bytes}
use Rattle.def_script.specs.Key.{is_key}
use Rattle.def_script.specs.Signature.{is_signature_size}
use Rattle.def_assets.specs.Assets.{Assets}
use Rattle.def_files.specs.declared.Member.TheVariants as file_member
use Rattle.def_files.specs.Json.{reading, is_object, number_of, elements_or_empty, is_list_of, spelled}
use Rattle.def_files.specs.Parts.{version, sequence, locktime, locks, list, elements, strings, is_text, is_hex, key_text, key_of}
use Rattle.def_files.specs.Refusals.{unless, unless_each, unless_any, no_repeat}
use Rattle.def_files.specs.AssetFile.{MOST_PREIMAGES, is_preimage}
use Rattle.def_plan.specs.declared.PlanMember.TheVariants as member
use Rattle.def_plan.specs.declared.PlanFault.{PlanFault}
use Rattle.def_plan.specs.declared.PlanFault.TheVariants as fault
use Rattle.def_plan.specs.Lengths.{Lengths, MOST_KEYS}

pub record PlanFile : Type 0 where
  -- the locks and preimages; without signatures
  pub assets : Assets
  pub table : Lengths

-- ---- the parts of the file; version, sequence, locktime and preimages are those of an asset file

-- the list `keys`, and its elements
abbrev pub key_list : Data → Option (List Data)
key_list file = elements_or_empty (get (codes "keys") file)

abbrev pub key_elements : Data → List Data
key_elements file = unwrap_or (key_list file) []

-- an element is an object with the text `key` and the number `length`
abbrev pub number_at_length : Data → Option ℕ
number_at_length e = option_and_then number_of (get (codes "length") e)

abbrev pub is_estimate : Data → Bool
is_estimate e = is_some (key_text e) && is_some (number_at_length e)

-- the key that it spells, and its length
abbrev pub is_hex_key : Data → Bool
is_hex_key e = is_some (spelled (key_text e))

abbrev pub length_at : Data → ℕ
length_at e = unwrap_or (number_at_length e) 0

-- ---- the refusals

-- after NotJson, which is number 1
abbrev pub plan_refusals : Data → List (Option PlanFault)
plan_refusals file =
    -- 2, the shape
    unless (is_object file) (fault.Shape member.Whole) ∷
    unless (is_list_of is_estimate (key_list file)) (fault.Shape member.Keys) ∷
    unless (is_list_of is_text (list file_member.Preimages file)) (fault.Shape member.Preimages) ∷
    -- 3, the numbers of the locks
    unless (is_some (version file)) (fault.Number member.Version) ∷
    unless (is_some (sequence file)) (fault.Number member.Sequence) ∷
    unless (is_some (locktime file)) (fault.Number member.Locktime) ∷
    -- 4, the digits
    unless_each is_hex_key (fault.Hex member.Keys) (key_elements file) ∷
    unless_each is_hex (fault.Hex member.Preimages) (elements file_member.Preimages file) ∷
    -- 5, 6, 7: the form of a key, the length of its signature, the length of a preimage
    unless_each is_key fault.KeyForm (map key_of (key_elements file)) ∷
    unless_each is_signature_size fault.Length (map length_at (key_elements file)) ∷
    unless_each is_preimage fault.PreimageLength (strings file_member.Preimages file) ∷
    -- 8, how many there are
    unless (nat_le (length (key_elements file)) MOST_KEYS) (fault.TooMany member.Keys) ∷
    unless (nat_le (length (elements file_member.Preimages file)) MOST_PREIMAGES) (fault.TooMany member.Preimages) ∷
    -- 9, a key stands once
    no_repeat bytes_eq fault.RepeatedKey (map key_of (key_elements file)) ∷ []

-- what stands in a plan file
abbrev pub plan_in : Data → PlanFile
plan_in file = record {
  assets = record { locks = locks file; pairs = []; preimages = strings file_member.Preimages file };
  table = map (λ e. (key_of e, length_at e)) (key_elements file);
}

-- what a file gives: where it has no reading, it is refused
abbrev pub given : Option Data → Result PlanFile PlanFault
given None = Err fault.NotJson
given (Some file) = unless_any (plan_refusals file) (plan_in file)

-- what the bytes of a plan file give, or why they are refused
unfoldable pub plan_file_of : Bytes → Result PlanFile PlanFault
plan_file_of bytes = given (reading bytes)
