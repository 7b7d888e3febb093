-- The refusals of a run file in their order.
use Rattle.std.proofs.Common.{◌≡◌, ℕ, is_some, Bool, true, refl, unwrap_or, List, [], ◌∷◌, Option, Some, None, Result, Err, ◌⊎◌, inl, inr, drop, sym, ◌∙◌, ap}
use Rattle.std.proofs.lemmas.List.{length-map}
use Rattle.serde_json.specs.Data.{Data}
use Rattle.def_script.specs.Bytes.{Bytes}
use Rattle.def_machine.specs.declared.Locks.{Locks}
use Rattle.def_machine.specs.Stacks.{Pairs}
use Rattle.def_files.specs.declared.Member.TheVariants as member
use Rattle.def_files.specs.declared.AssetFault.{AssetFault}
use Rattle.def_files.specs.declared.AssetFault.TheVariants as fault
use Rattle.def_files.specs.Json.{spelled, is_object}
use Rattle.def_files.specs.Parts.{locks, elements, is_pair, is_text, is_hex, is_hex_pair, key_of, sig_of, bytes_of, pairs, strings}
use Rattle.def_files.specs.Refusals.{Refusal, unless, unless_any, no_object, no_list_of, no_version, no_sequence, no_locktime, no_hex}
use Rattle.def_files.specs.RunFile.{RunFile, script_text, run_refusals, run_in}
use Rattle.ms_assets.specs.Parts.{first, first_refused, IsOrMemory}
use Rattle.ms_assets.specs.Runs.{count_refusals}
use Rattle.ms_assets.proofs.Refusals.{after_three, stops_in_three, object_none, no_hex_first}

abbrev pub value_of : Data → Result RunFile AssetFault
value_of file = unless_any (run_refusals file) (run_in file)

abbrev pub left_of : ℕ → Data → Result RunFile AssetFault
left_of k file = unless_any (drop k (run_refusals file)) (run_in file)

-- the refusals of the script
abbrev pub no_script : Data → Refusal
no_script file = unless (is_some (script_text file)) (fault.Shape member.Script)

abbrev pub no_digits : Option Bytes → Refusal
no_digits text = unless (is_some (spelled text)) (fault.Hex member.Script 0)

-- the shapes are right
pub record HasShapes (file : Data) : Type 0 where
  pub object : no_object file ≡ None
  pub signatures : no_list_of is_pair member.Signatures file ≡ None
  pub script : no_script file ≡ None
  pub witness : no_list_of is_text member.Witness file ≡ None

pub shapes_are : (file : Data) (said : Bool) → said ≡ true → said ≡ is_object file → no_list_of is_pair member.Signatures file ≡ None
    → no_script file ≡ None → no_list_of is_text member.Witness file ≡ None → HasShapes file
shapes_are file said holds is signatures script witness =
    record { object = object_none file said holds is; signatures = signatures; script = script; witness = witness }

-- the shapes and the numbers are right
pub record HasNumbers (file : Data) : Type 0 where
  pub shapes : HasShapes file
  pub numbers : first (no_version file ∷ no_sequence file ∷ no_locktime file ∷ []) ≡ None

after_shapes : (file : Data) (answer : Result RunFile AssetFault) → HasShapes file → answer ≡ left_of 4 file → answer ≡ value_of file
after_shapes file answer shapes e = rw (shapes.object, shapes.signatures, shapes.script, shapes.witness) e

after_numbers : (file : Data) (answer : Result RunFile AssetFault) → HasNumbers file → answer ≡ left_of 7 file → answer ≡ value_of file
after_numbers file answer has e =
    after_shapes file answer has.shapes (after_three (no_version file) (no_sequence file) (no_locktime file) (drop 7 (run_refusals file)) (run_in file) answer has.numbers e)

-- ---- where reading ends

-- a number is refused
pub number_stops : (file : Data) (why : AssetFault) → HasShapes file → first (no_version file ∷ no_sequence file ∷ no_locktime file ∷ []) ≡ Some why → Err why ≡ value_of file
number_stops file why shapes some =
    after_shapes file (Err why) shapes (stops_in_three (no_version file) (no_sequence file) (no_locktime file) (drop 7 (run_refusals file)) (run_in file) why some)

-- the digits of a signature, of the script or of an element are refused
pub pairs_end : (file : Data) (list : List Data) (why : AssetFault) (result : Result RunFile AssetFault) → HasNumbers file → list ≡ elements member.Signatures file
    → (why ≡ fault.Memory) ⊎ (first_refused is_hex_pair (fault.Hex member.Signatures) list ≡ Some why) → result ≡ Err why → IsOrMemory (value_of file) result
pairs_end file list why result has same (inl memory) e = inr (e ∙ ap Err memory)
pairs_end file list why result has same (inr some) e =
    inl (e ∙ after_numbers file (Err why) has (rw (no_hex_first is_hex_pair member.Signatures file list (Some why) same some) refl))

pub digits_end : (file : Data) (text : Option Bytes) (why : AssetFault) (result : Result RunFile AssetFault) → HasNumbers file → no_hex is_hex_pair member.Signatures file ≡ None
    → text ≡ script_text file → (why ≡ fault.Memory) ⊎ (no_digits text ≡ Some why) → result ≡ Err why → IsOrMemory (value_of file) result
digits_end file text why result has signatures same (inl memory) e = inr (e ∙ ap Err memory)
digits_end file text why result has signatures same (inr some) e =
    inl (e ∙ after_numbers file (Err why) has (rw (signatures, ap no_digits (sym same) ∙ some) refl))

pub strings_end : (file : Data) (list : List Data) (why : AssetFault) (result : Result RunFile AssetFault) → HasNumbers file
    → no_hex is_hex_pair member.Signatures file ≡ None → no_digits (script_text file) ≡ None
    → list ≡ elements member.Witness file → (why ≡ fault.Memory) ⊎ (first_refused is_hex (fault.Hex member.Witness) list ≡ Some why) → result ≡ Err why → IsOrMemory (value_of file) result
strings_end file list why result has signatures script same (inl memory) e = inr (e ∙ ap Err memory)
strings_end file list why result has signatures script same (inr some) e =
    inl (e ∙ after_numbers file (Err why) has (rw (signatures, script, no_hex_first is_hex member.Witness file list (Some why) same some) refl))

-- ---- what was read

pub record HasRead (file : Data) (code : Bytes) (texts : List Bytes) (found : Locks) (read : Pairs) : Type 0 where
  pub numbers : HasNumbers file
  pub signatures : no_hex is_hex_pair member.Signatures file ≡ None
  pub digits : no_digits (script_text file) ≡ None
  pub witness : no_hex is_hex member.Witness file ≡ None
  pub script : Some code ≡ spelled (script_text file)
  pub stack : texts ≡ strings member.Witness file
  pub locks : found ≡ locks file
  pub pairs : read ≡ pairs file

counts_same : (file : Data) → count_refusals (pairs file) (strings member.Witness file) ≡ drop 10 (run_refusals file)
counts_same file =
    let pair_of : Data → Bytes × Bytes = λ e. (key_of e, sig_of e) in
    rw (length-map (elements member.Signatures file) pair_of, length-map (elements member.Witness file) bytes_of)

-- then the numbers of elements tell
pub read_done : (file : Data) (script : Bytes) (stack : List Bytes) (found : Locks) (read : Pairs) → HasRead file script stack found read
    → unless_any (count_refusals read stack) (record { script = script; stack = stack; locks = found; pairs = read }) ≡ value_of file
read_done file script stack found read has =
    rw (ap (λ o. unwrap_or o []) has.script, has.stack, has.locks, has.pairs)
    (after_numbers file _ has.numbers (rw (has.signatures, has.digits, has.witness) (ap (λ rs. unless_any rs (run_in file)) (counts_same file))))
