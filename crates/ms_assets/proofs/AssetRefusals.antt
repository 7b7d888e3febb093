-- The refusals of an asset file in their order.
use Rattle.std.proofs.Common.{◌≡◌, ℕ, Bool, true, unwrap_or, List, [], ◌∷◌, Some, None, Result, Err, ◌⊎◌, inl, inr, map, drop, refl, sym, ◌∙◌, ap}
use Rattle.std.proofs.lemmas.List.{length-map}
use Rattle.serde_json.specs.Data.{Data}
use Rattle.def_script.specs.Bytes.{Bytes}
use Rattle.def_machine.specs.declared.Locks.{Locks}
use Rattle.def_machine.specs.Stacks.{Pairs}
use Rattle.def_script.specs.Key.{is_key}
use Rattle.def_assets.specs.Assets.{Assets}
use Rattle.def_files.specs.declared.Format.{Format}
use Rattle.def_files.specs.declared.Format.TheVariants as formats
use Rattle.def_files.specs.declared.Member.TheVariants as member
use Rattle.def_files.specs.declared.AssetFault.{AssetFault}
use Rattle.def_files.specs.declared.AssetFault.TheVariants as fault
use Rattle.def_files.specs.Json.{is_object}
use Rattle.def_files.specs.Parts.{locks, format, same_under, elements, is_pair, is_text, is_hex, is_hex_pair, key_of, sig_of, bytes_of, pairs, strings}
use Rattle.def_files.specs.Refusals.{unless_each, unless_any, no_object, no_list_of, no_version, no_sequence, no_locktime, no_format, no_hex, no_repeat}
use Rattle.def_files.specs.AssetFile.{is_signature, is_preimage, asset_refusals, assets_in}
use Rattle.ms_assets.specs.Parts.{first, first_refused, IsOrMemory, repeats, value_refusals}
use Rattle.ms_assets.proofs.Refusals.{after_three, stops_in_three, object_none, each_first, first_refused-map, no_hex_first}

-- the shapes are right
pub record HasShapes (file : Data) : Type 0 where
  pub object : no_object file ≡ None
  pub signatures : no_list_of is_pair member.Signatures file ≡ None
  pub preimages : no_list_of is_text member.Preimages file ≡ None

pub shapes_are : (file : Data) (said : Bool) → said ≡ true → said ≡ is_object file → no_list_of is_pair member.Signatures file ≡ None
    → no_list_of is_text member.Preimages file ≡ None → HasShapes file
shapes_are file said holds is signatures preimages = record { object = object_none file said holds is; signatures = signatures; preimages = preimages }

abbrev value_of : Data → Result Assets AssetFault
value_of file = unless_any (asset_refusals file) (assets_in file)

abbrev left_of : ℕ → Data → Result Assets AssetFault
left_of k file = unless_any (drop k (asset_refusals file)) (assets_in file)

after_shapes : (file : Data) (answer : Result Assets AssetFault) → HasShapes file → answer ≡ left_of 3 file → answer ≡ value_of file
after_shapes file answer shapes e = rw (shapes.object, shapes.signatures, shapes.preimages) e

after_locks : (file : Data) (answer : Result Assets AssetFault) → HasShapes file → first (no_version file ∷ no_sequence file ∷ no_locktime file ∷ []) ≡ None
    → answer ≡ left_of 6 file → answer ≡ value_of file
after_locks file answer shapes locks e =
    after_shapes file answer shapes (after_three (no_version file) (no_sequence file) (no_locktime file) (drop 6 (asset_refusals file)) (assets_in file) answer locks e)

-- the shapes and the numbers are right
pub record HasNumbers (file : Data) : Type 0 where
  pub shapes : HasShapes file
  pub locks : first (no_version file ∷ no_sequence file ∷ no_locktime file ∷ []) ≡ None
  pub format : no_format file ≡ None

after_numbers : (file : Data) (answer : Result Assets AssetFault) → HasNumbers file → answer ≡ left_of 7 file → answer ≡ value_of file
after_numbers file answer has e = after_locks file answer has.shapes has.locks (rw has.format e)

-- a number is refused
pub number_stops : (file : Data) (why : AssetFault) → HasShapes file → first (no_version file ∷ no_sequence file ∷ no_locktime file ∷ []) ≡ Some why → Err why ≡ value_of file
number_stops file why shapes some =
    after_shapes file (Err why) shapes (stops_in_three (no_version file) (no_sequence file) (no_locktime file) (drop 6 (asset_refusals file)) (assets_in file) why some)

-- the format is refused
pub format_stops : (file : Data) (why : AssetFault) → HasShapes file → first (no_version file ∷ no_sequence file ∷ no_locktime file ∷ []) ≡ None → no_format file ≡ Some why → Err why ≡ value_of file
format_stops file why shapes locks some = after_locks file (Err why) shapes locks (rw some refl)

-- the digits of a signature or of a preimage are refused, want of memory aside
pub pairs_end : (file : Data) (list : List Data) (why : AssetFault) (result : Result Assets AssetFault) → HasNumbers file
    → list ≡ elements member.Signatures file → (why ≡ fault.Memory) ⊎ (first_refused is_hex_pair (fault.Hex member.Signatures) list ≡ Some why) → result ≡ Err why → IsOrMemory (value_of file) result
pairs_end file list why result has same (inl memory) e = inr (e ∙ ap Err memory)
pairs_end file list why result has same (inr some) e =
    inl (e ∙ after_numbers file (Err why) has (rw (no_hex_first is_hex_pair member.Signatures file list (Some why) same some) refl))

pub strings_end : (file : Data) (signatures preimages : List Data) (why : AssetFault) (result : Result Assets AssetFault) → HasNumbers file
    → signatures ≡ elements member.Signatures file → first_refused is_hex_pair (fault.Hex member.Signatures) signatures ≡ None
    → preimages ≡ elements member.Preimages file → (why ≡ fault.Memory) ⊎ (first_refused is_hex (fault.Hex member.Preimages) preimages ≡ Some why) → result
    ≡ Err why → IsOrMemory (value_of file) result
strings_end file signatures preimages why result has same none same' (inl memory) e = inr (e ∙ ap Err memory)
strings_end file signatures preimages why result has same none same' (inr some) e =
    let read = no_hex_first is_hex_pair member.Signatures file signatures None same none in
    inl (e ∙ after_numbers file (Err why) has (rw (read, no_hex_first is_hex member.Preimages file preimages (Some why) same' some) refl))

-- ---- the refusals that speak of byte strings

abbrev pair_of : Data → Bytes × Bytes
pair_of e = (key_of e, sig_of e)

keys_same : (list : List Data) → first_refused (λ (pair : Bytes × Bytes). is_key pair.0) fault.KeyForm (map pair_of list) ≡ unless_each is_key fault.KeyForm (map key_of list)
keys_same list =
    first_refused-map (λ (pair : Bytes × Bytes). is_key pair.0) fault.KeyForm pair_of list
    ∙ sym (each_first is_key fault.KeyForm (map key_of list) ∙ first_refused-map is_key fault.KeyForm key_of list)

sigs_same : (list : List Data) → first_refused (λ (pair : Bytes × Bytes). is_signature pair.1) fault.SigLength (map pair_of list) ≡ unless_each is_signature fault.SigLength (map sig_of list)
sigs_same list =
    first_refused-map (λ (pair : Bytes × Bytes). is_signature pair.1) fault.SigLength pair_of list
    ∙ sym (each_first is_signature fault.SigLength (map sig_of list) ∙ first_refused-map is_signature fault.SigLength sig_of list)

repeats_same : (format : Format) (read : Pairs) → repeats format fault.RepeatedKey read ≡ no_repeat (same_under format) fault.RepeatedKey read
unfolding repeats
repeats_same format read = refl

-- the format of a file that has one
abbrev pub format_in : Data → Format
format_in file = unwrap_or (format file) formats.One

-- those of the byte strings of a file are the last six of its refusals
last_same : (file : Data) → value_refusals (format_in file) (pairs file) (strings member.Preimages file) ≡ drop 9 (asset_refusals file)
last_same file =
    let signatures = elements member.Signatures file in
    rw (
      keys_same signatures,
      sigs_same signatures,
      ← each_first is_preimage fault.PreimageLength (strings member.Preimages file),
      length-map signatures pair_of,
      length-map (elements member.Preimages file) bytes_of,
      repeats_same (format_in file) (pairs file),
    )

-- what was read of a file that has its shapes, numbers and digits
pub record HasRead (file : Data) (form : Format) (found : Locks) (read : Pairs) (texts : List Bytes) : Type 0 where
  pub numbers : HasNumbers file
  pub format : Some form ≡ format file
  pub locks : found ≡ locks file
  pub signatures : no_hex is_hex_pair member.Signatures file ≡ None
  pub pairs : read ≡ pairs file
  pub preimages : no_hex is_hex member.Preimages file ≡ None
  pub strings : texts ≡ strings member.Preimages file

-- then the refusals of the byte strings tell
pub value_same : (file : Data) (form : Format) (found : Locks) (read : Pairs) (texts : List Bytes) → HasRead file form found read texts
    → unless_any (value_refusals form read texts) (record { locks = found; pairs = read; preimages = texts }) ≡ value_of file
value_same file form found read texts has =
    rw (ap (λ o. unwrap_or o formats.One) has.format, has.locks, has.pairs, has.strings)
    (after_numbers file _ has.numbers (rw (has.signatures, has.preimages) (ap (λ rs. unless_any rs (assets_in file)) (last_same file))))

pub read_done : (file : Data) (form : Format) (found : Locks) (read : Pairs) (texts : List Bytes) (result : Result Assets AssetFault) → HasRead file form found read texts
    → IsOrMemory (unless_any (value_refusals form read texts) (record { locks = found; pairs = read; preimages = texts })) result → IsOrMemory (value_of file) result
read_done file form found read texts result has (inl e) = inl (e ∙ value_same file form found read texts has)
read_done file form found read texts result has (inr e) = inr e
