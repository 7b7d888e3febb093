-- The parts of a plan file as contracts see them, and the refusals that speak of them.
use Rattle.std.specs.Prelude.{nat_le, List, [], ◌∷◌, length, map, Option, Result, Ok, Err}
use Rattle.serde_json.specs.Data.{Data}
use Rattle.def_script.specs.Bytes.{Bytes}
use Rattle.def_script.specs.Signature.{is_signature_size}
use Rattle.def_script.specs.Key.{is_key}
use Rattle.def_machine.specs.declared.Locks.{Locks}
use Rattle.def_files.specs.Json.{is_list_of}
use Rattle.def_files.specs.Parts.{key_of}
use Rattle.def_files.specs.Refusals.{unless}
use Rattle.def_files.specs.AssetFile.{is_preimage, MOST_PREIMAGES}
use Rattle.def_plan.specs.declared.PlanMember.TheVariants as member
use Rattle.def_plan.specs.declared.PlanFault.{PlanFault}
use Rattle.def_plan.specs.declared.PlanFault.TheVariants as fault
use Rattle.def_plan.specs.Lengths.{Lengths, MOST_KEYS}
use Rattle.def_plan.specs.PlanFile.{PlanFile, key_list, is_estimate, length_at}
use Rattle.ms_assets.specs.Parts.{first_refused, repeated}
use Rattle.ms_plan_file.specs.declared.plan_file.PlanParts.{PlanParts}

-- a plan file with these parts
abbrev pub file_with : Locks → (preimages : List Bytes) → Lengths → PlanFile
file_with locks preimages table = record { assets = record { locks = locks; pairs = []; preimages = preimages }; table = table }

abbrev pub seen : PlanParts → PlanFile
seen parts = file_with parts.locks parts.preimages.items parts.table

abbrev pub parts_seen : Result PlanParts PlanFault → Result PlanFile PlanFault
parts_seen (Ok parts) = Ok (seen parts)
parts_seen (Err why) = Err why

-- the refusal of a list `keys` without its shape
abbrev pub shape_of_keys : Data → Option PlanFault
shape_of_keys file = unless (is_list_of is_estimate (key_list file)) (fault.Shape member.Keys)

-- the keys that elements spell, and their lengths
abbrev pub entries_at : List Data → Lengths
entries_at elements = map (λ e. (key_of e, length_at e)) elements

-- the refusals of a plan file that speak of its keys with their lengths, and of its preimages
abbrev pub value_refusals : Lengths → (preimages : List Bytes) → List (Option PlanFault)
value_refusals table preimages =
    first_refused (λ entry. is_key entry.0) fault.KeyForm table ∷
    first_refused (λ entry. is_signature_size entry.1) fault.Length table ∷
    first_refused is_preimage fault.PreimageLength preimages ∷
    unless (nat_le (length table) MOST_KEYS) (fault.TooMany member.Keys) ∷
    unless (nat_le (length preimages) MOST_PREIMAGES) (fault.TooMany member.Preimages) ∷
    repeated fault.RepeatedKey table ∷ []
