-- The refusals of a plan file in their order.
use Rattle.std.proofs.Common.{◌≡◌, ℕ, nat_le, Bool, true, is_some, Option, List, [], ◌∷◌, Some, None, Result, Err, ◌⊎◌, inl, inr, map, drop, refl, sym, ◌∙◌, ap}
use Rattle.std.specs.Str.{bytes_eq}
use Rattle.std.proofs.lemmas.List.{length-map}
use Rattle.serde_json.specs.Data.{Data}
use Rattle.def_script.specs.Bytes.{Bytes}
use Rattle.def_script.specs.Signature.{is_signature_size}
use Rattle.def_machine.specs.declared.Locks.{Locks}
use Rattle.def_script.specs.Key.{is_key}
use Rattle.def_files.specs.declared.Member.TheVariants as file_member
use Rattle.def_files.specs.Json.{is_object, is_list_of}
use Rattle.def_files.specs.Parts.{version, sequence, locktime, locks, list, elements, strings, is_text, is_hex, key_of, bytes_of}
use Rattle.def_files.specs.Refusals.{unless, unless_each, unless_any, no_repeat}
use Rattle.def_files.specs.AssetFile.{is_preimage, MOST_PREIMAGES}
use Rattle.def_plan.specs.declared.PlanMember.TheVariants as member
use Rattle.def_plan.specs.declared.PlanFault.{PlanFault}
use Rattle.def_plan.specs.declared.PlanFault.TheVariants as fault
use Rattle.def_plan.specs.Lengths.{Lengths, MOST_KEYS}
use Rattle.def_plan.specs.PlanFile.{PlanFile, key_list, key_elements, is_estimate, is_hex_key, length_at, plan_refusals, plan_in}
use Rattle.ms_assets.specs.Parts.{first, first_refused, IsOr, repeated}
use Rattle.ms_assets.proofs.Refusals.{after, stops, after_three, stops_in_three, each_first, first_refused-map}
use Rattle.ms_plan_file.specs.Scaffolding.Reading.{value_refusals}

-- the shapes
abbrev pub no_object : Data → Option PlanFault
no_object file = unless (is_object file) (fault.Shape member.Whole)

abbrev pub no_keys : Data → Option PlanFault
no_keys file = unless (is_list_of is_estimate (key_list file)) (fault.Shape member.Keys)

abbrev pub no_preimages : Data → Option PlanFault
no_preimages file = unless (is_list_of is_text (list file_member.Preimages file)) (fault.Shape member.Preimages)

-- the numbers
abbrev pub no_version : Data → Option PlanFault
no_version file = unless (is_some (version file)) (fault.Number member.Version)

abbrev pub no_sequence : Data → Option PlanFault
no_sequence file = unless (is_some (sequence file)) (fault.Number member.Sequence)

abbrev pub no_locktime : Data → Option PlanFault
no_locktime file = unless (is_some (locktime file)) (fault.Number member.Locktime)

abbrev pub no_number : Data → Option PlanFault
no_number file = first (no_version file ∷ no_sequence file ∷ no_locktime file ∷ [])

-- the digits
abbrev pub no_hex_key : Data → Option PlanFault
no_hex_key file = unless_each is_hex_key (fault.Hex member.Keys) (key_elements file)

abbrev pub no_hex_preimage : Data → Option PlanFault
no_hex_preimage file = unless_each is_hex (fault.Hex member.Preimages) (elements file_member.Preimages file)

-- the shapes are right
pub record HasShapes (file : Data) : Type 0 where
  pub object : no_object file ≡ None
  pub keys : no_keys file ≡ None
  pub preimages : no_preimages file ≡ None

abbrev pub value_of : Data → Result PlanFile PlanFault
value_of file = unless_any (plan_refusals file) (plan_in file)

abbrev left_of : ℕ → Data → Result PlanFile PlanFault
left_of k file = unless_any (drop k (plan_refusals file)) (plan_in file)

after_shapes : (file : Data) (answer : Result PlanFile PlanFault) → HasShapes file → answer ≡ left_of 3 file → answer ≡ value_of file
after_shapes file answer shapes e =
    after (no_object file) (drop 1 (plan_refusals file)) (plan_in file) answer shapes.object
    (after (no_keys file) (drop 2 (plan_refusals file)) (plan_in file) answer shapes.keys
    (after (no_preimages file) (drop 3 (plan_refusals file)) (plan_in file) answer shapes.preimages e))

after_numbers : (file : Data) (answer : Result PlanFile PlanFault) → HasShapes file → no_number file ≡ None → answer ≡ left_of 6 file → answer ≡ value_of file
after_numbers file answer shapes numbers e =
    after_shapes file answer shapes (after_three (no_version file) (no_sequence file) (no_locktime file) (drop 6 (plan_refusals file)) (plan_in file) answer numbers e)

-- a number is refused
pub number_stops : (file : Data) (why : PlanFault) → HasShapes file → no_number file ≡ Some why → Err why ≡ value_of file
number_stops file why shapes some =
    after_shapes file (Err why) shapes (stops_in_three (no_version file) (no_sequence file) (no_locktime file) (drop 6 (plan_refusals file)) (plan_in file) why some)

-- the digits of a list's elements
pub hex_first : (right : Data → Bool) (why : ℕ → PlanFault) (all list : List Data) (answer : Option PlanFault) → list ≡ all → first_refused right why list ≡ answer → unless_each right why all ≡ answer
hex_first right why all list answer same e = each_first right why all ∙ ap (first_refused right why) (sym same) ∙ e

-- the digits of a key are refused, want of memory aside
pub keys_end : (file : Data) (list : List Data) (why : PlanFault) (result : Result PlanFile PlanFault) → HasShapes file → no_number file ≡ None
    → list ≡ key_elements file → (why ≡ fault.Memory) ⊎ (first_refused is_hex_key (fault.Hex member.Keys) list ≡ Some why) → result ≡ Err why → IsOr fault.Memory (value_of file) result
keys_end file list why result shapes numbers same (inl memory) e = inr (e ∙ ap Err memory)
keys_end file list why result shapes numbers same (inr some) e =
    inl (e ∙ after_numbers file (Err why) shapes numbers (stops (no_hex_key file) (drop 7 (plan_refusals file)) (plan_in file) why
    (hex_first is_hex_key (fault.Hex member.Keys) (key_elements file) list (Some why) same some)))

-- the digits of a preimage are
pub preimages_end : (file : Data) (keys preimages : List Data) (why : PlanFault) (result : Result PlanFile PlanFault) → HasShapes file → no_number file ≡ None
    → keys ≡ key_elements file → first_refused is_hex_key (fault.Hex member.Keys) keys ≡ None
    → preimages ≡ elements file_member.Preimages file → (why ≡ fault.Memory) ⊎ (first_refused is_hex (fault.Hex member.Preimages) preimages ≡ Some why)
    → result ≡ Err why → IsOr fault.Memory (value_of file) result
preimages_end file keys preimages why result shapes numbers same none same' (inl memory) e = inr (e ∙ ap Err memory)
preimages_end file keys preimages why result shapes numbers same none same' (inr some) e =
    inl (e ∙ after_numbers file (Err why) shapes numbers
    (after (no_hex_key file) (drop 7 (plan_refusals file)) (plan_in file) (Err why) (hex_first is_hex_key (fault.Hex member.Keys) (key_elements file) keys None same none)
    (stops (no_hex_preimage file) (drop 8 (plan_refusals file)) (plan_in file) why
    (hex_first is_hex (fault.Hex member.Preimages) (elements file_member.Preimages file) preimages (Some why) same' some))))

-- ---- the refusals that speak of keys with their lengths, and of preimages

abbrev entry_of : Data → Bytes × ℕ
entry_of e = (key_of e, length_at e)

firsts : (list : List Data) → map (λ (entry : Bytes × ℕ). entry.0) (map entry_of list) ≡ map key_of list
firsts [] = refl
firsts (e ∷ list) = ap (λ keys. key_of e ∷ keys) (firsts list)

keys_same : (list : List Data) → first_refused (λ (entry : Bytes × ℕ). is_key entry.0) fault.KeyForm (map entry_of list) ≡ unless_each is_key fault.KeyForm (map key_of list)
keys_same list =
    first_refused-map (λ (entry : Bytes × ℕ). is_key entry.0) fault.KeyForm entry_of list
    ∙ sym (each_first is_key fault.KeyForm (map key_of list) ∙ first_refused-map is_key fault.KeyForm key_of list)

lengths_same : (list : List Data) → first_refused (λ (entry : Bytes × ℕ). is_signature_size entry.1) fault.Length (map entry_of list) ≡ unless_each is_signature_size fault.Length (map length_at list)
lengths_same list =
    first_refused-map (λ (entry : Bytes × ℕ). is_signature_size entry.1) fault.Length entry_of list
    ∙ sym (each_first is_signature_size fault.Length (map length_at list) ∙ first_refused-map is_signature_size fault.Length length_at list)

repeats_same : (list : List Data) → repeated fault.RepeatedKey (map entry_of list) ≡ no_repeat bytes_eq fault.RepeatedKey (map key_of list)
unfolding repeated
repeats_same list = ap (no_repeat bytes_eq fault.RepeatedKey) (firsts list)

abbrev few_keys : ℕ → Option PlanFault
few_keys n = unless (nat_le n MOST_KEYS) (fault.TooMany member.Keys)

abbrev few_preimages : ℕ → Option PlanFault
few_preimages n = unless (nat_le n MOST_PREIMAGES) (fault.TooMany member.Preimages)

-- six refusals, one after another
six_same : (r s t u v w r' s' t' u' v' w' : Option PlanFault) → r ≡ r' → s ≡ s' → t ≡ t' → u ≡ u' → v ≡ v' → w ≡ w'
    → r ∷ s ∷ t ∷ u ∷ v ∷ w ∷ [] ≡ r' ∷ s' ∷ t' ∷ u' ∷ v' ∷ w' ∷ []
six_same r s t u v w r' s' t' u' v' w' a b c d e f = cc

-- those of what stands in a file are the last six of its refusals
last_same : (file : Data) → value_refusals (map entry_of (key_elements file)) (strings file_member.Preimages file) ≡ drop 8 (plan_refusals file)
last_same file =
    let keys = key_elements file in
    let preimages = strings file_member.Preimages file in
    six_same _ _ _ _ _ _ _ _ _ _ _ _
    (keys_same keys)
    (lengths_same keys)
    (sym (each_first is_preimage fault.PreimageLength preimages))
    (ap few_keys (length-map keys entry_of))
    (ap few_preimages (length-map (elements file_member.Preimages file) bytes_of))
    (repeats_same keys)

-- what was read of a file that has its shapes, numbers and digits
pub record HasRead (file : Data) (found : Locks) (table : Lengths) (texts : List Bytes) : Type 0 where
  pub shapes : HasShapes file
  pub numbers : no_number file ≡ None
  pub locks : found ≡ locks file
  pub keys : no_hex_key file ≡ None
  pub entries : table ≡ map entry_of (key_elements file)
  pub preimages : no_hex_preimage file ≡ None
  pub strings : texts ≡ strings file_member.Preimages file

abbrev pub file_with : Locks → Lengths → List Bytes → PlanFile
file_with found table texts = record { assets = record { locks = found; pairs = []; preimages = texts }; table = table }

-- then the refusals of what stands in it tell
value_same : (file : Data) (found : Locks) (table : Lengths) (texts : List Bytes) → HasRead file found table texts
    → unless_any (value_refusals table texts) (file_with found table texts) ≡ value_of file
value_same file found table texts has =
    let P : Locks → Lengths → List Bytes → Result PlanFile PlanFault = λ l p t. unless_any (value_refusals p t) (file_with l p t) in
    let all = map entry_of (key_elements file) in
    let answer = P found table texts in
    after_numbers file answer has.shapes has.numbers
    (after (no_hex_key file) (drop 7 (plan_refusals file)) (plan_in file) answer has.keys
    (after (no_hex_preimage file) (drop 8 (plan_refusals file)) (plan_in file) answer has.preimages
    (ap (λ l. P l table texts) has.locks ∙ ap (λ p. P (locks file) p texts) has.entries ∙ ap (λ t. P (locks file) all t) has.strings
    ∙ ap (λ rs. unless_any rs (plan_in file)) (last_same file))))

pub read_done : (file : Data) (found : Locks) (table : Lengths) (texts : List Bytes) (result : Result PlanFile PlanFault) → HasRead file found table texts
    → IsOr fault.Memory (unless_any (value_refusals table texts) (file_with found table texts)) result → IsOr fault.Memory (value_of file) result
read_done file found table texts result has (inl e) = inl (e ∙ value_same file found table texts has)
read_done file found table texts result has (inr e) = inr e

-- an object
pub object_none : (file : Data) (said : Bool) → said ≡ true → said ≡ is_object file → no_object file ≡ None
object_none file said holds is = ap (λ b. unless b (fault.Shape member.Whole)) (sym is ∙ holds)
