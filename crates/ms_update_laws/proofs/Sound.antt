-- What was updated has nothing wrong.
use Rattle.std.proofs.Common.{◌≡◌, ℕ, ◌+◌, Bool, false, List, [], ◌∷◌, ◌++◌, length, filter, None, inl, inr, refl, sym, ◌∙◌}
use Rattle.std.specs.List.{AllByRecursion}
use Rattle.std.specs.Str.{bytes_eq}
use Rattle.std.proofs.lemmas.Bool.{cases_Bool, or_parts, or_from, not-true, false_from_ne_true, both_ways}
use Rattle.std.proofs.lemmas.List.Elements.{All-from_recursion, recursion_from_All}
use Rattle.std.proofs.lemmas.Slice.Eq.{bytes_eq-Decides}
use Rattle.def_script.specs.Bytes.{Bytes}
use Rattle.def_psbt.specs.Map.{Pair, Map, Psbt, has_types, map_text}
use Rattle.def_psbt.specs.Fields.{version_of}
use Rattle.def_psbt.specs.Listed.{Form, input_form, output_form, stands, shape_fault, pair_fault}
use Rattle.def_psbt.specs.Laws.{IsSoundMap, IsWholeMap, IsSound}
use Rattle.def_psbt.specs.Reading.{Rules, input_rules, output_rules}
use Rattle.def_combine.specs.Joined.{is_new, joined_map, joined_maps}
use Rattle.def_update.specs.Known.{Known}
use Rattle.def_update.specs.Updated.{inputs_pairs, outputs_pairs, updated}
use Rattle.ms_given_laws.proofs.Joined.{sound_joins}
use Rattle.ms_update_laws.specs.Updated.{IsKnown}
use Rattle.ms_update_laws.proofs.Own.{IsShaped, IsOther, IsOnce, IsOwn, inputs_own, outputs_own}
use Rattle.ms_update_laws.proofs.Same.{AreSame, AllSame, all_same, as_many, same_needed_input, same_needed_output, transaction_same, unjoined_same}

-- ---- which of them are added

filtered : {A : Type 0} (P : A → Type 0) (test : A → Bool) (xs : List A) → AllByRecursion P xs → AllByRecursion P (filter test xs)
filtered P test [] all = tt
filtered P test (x ∷ xs) all =
    let rest = filtered P test xs all.1 in
    elim (cases_Bool (test x)) [ inl e ↦ rw e (all.0, rest) | inr e ↦ rw e rest ]

once_filtered : (test : Pair → Bool) (own : Map) → IsOnce own → IsOnce (filter test own)
once_filtered test [] once = tt
once_filtered test (pair ∷ own) once =
    let rest = once_filtered test own once.1 in
    let other = filtered (λ (q : Pair). bytes_eq pair.key q.key ≡ false) test own once.0 in
    elim (cases_Bool (test pair)) [ inl e ↦ rw e (other, rest) | inr e ↦ rw e rest ]

abbrev StandsNot : Map → Pair → Type 0
StandsNot before pair = stands pair.key before ≡ false

new_filtered : (before own : Map) → AllByRecursion (StandsNot before) (filter (is_new before) own)
new_filtered before [] = tt
new_filtered before (pair ∷ own) =
    let rest = new_filtered before own in
    elim (cases_Bool (is_new before pair)) [ inl e ↦ rw e (not-true (stands pair.key before) e, rest) | inr e ↦ rw e rest ]

-- ---- they have nothing wrong behind the others

pub turned : (a b : Bytes) → bytes_eq a b ≡ false → bytes_eq b a ≡ false
turned a b e = false_from_ne_true (bytes_eq b a) (λ t. both_ways (bytes_eq a b) e ((bytes_eq-Decides a b).1 (sym ((bytes_eq-Decides b a).0 t))))

stands_behind : (key : Bytes) (a b : Map) → stands key a ≡ false → stands key b ≡ false → stands key (a ++ b) ≡ false
stands_behind key [] b h k = k
stands_behind key (p ∷ a) b h k =
    let parts = or_parts (bytes_eq key p.key) (stands key a) h in
    or_from (bytes_eq key p.key) (stands key (a ++ b)) parts.0 (stands_behind key a b parts.1 k)

stand_behind : (before : Map) (pair : Pair) (own : Map) → AllByRecursion (StandsNot before) own → IsOther pair own → AllByRecursion (StandsNot (before ++ pair ∷ [])) own
stand_behind before pair [] new other = tt
stand_behind before pair (q ∷ own) new other = (
  stands_behind q.key before (pair ∷ []) new.0 (or_from (bytes_eq q.key pair.key) false (turned pair.key q.key other.0) refl),
  stand_behind before pair own new.1 other.1,
)

fault_free : (forms : ℕ → Form) (before : Map) (pair : Pair) → stands pair.key before ≡ false → shape_fault forms pair ≡ None → pair_fault forms before pair ≡ None
unfolding pair_fault
fault_free forms before pair e shape = rw e shape

sound_behind : (forms : ℕ → Form) (low high : ℕ) (before own : Map) → AllByRecursion (IsShaped forms low high) own → IsOnce own → AllByRecursion (StandsNot before) own → IsSoundMap forms before own
sound_behind forms low high before [] shaped once new = tt
sound_behind forms low high before (pair ∷ own) shaped once new = (
  record { fault = fault_free forms before pair new.0 shaped.0.shape; key = shaped.0.key; value = shaped.0.value },
  sound_behind forms low high (before ++ pair ∷ []) own shaped.1 once.1 (stand_behind before pair own new.1 once.0),
)

sound_joined : (forms : ℕ → Form) (low high : ℕ) (a own : Map) → IsSoundMap forms [] a → IsOwn forms low high own → IsSoundMap forms [] (joined_map a own)
sound_joined forms low high a own sound h =
    sound_joins forms [] a (filter (is_new a) own) sound
    (sound_behind forms low high a (filter (is_new a) own) (filtered (IsShaped forms low high) (is_new a) own h.shaped) (once_filtered (is_new a) own h.once) (new_filtered a own))

-- ---- whole maps

whole_joined : (rules : Rules) (low high : ℕ) → ((a b : Map) → AreSame low high a b → has_types rules.needed b ≡ has_types rules.needed a) → (maps owns : List Map)
    → AllByRecursion (IsWholeMap rules) maps → AllByRecursion (IsOwn rules.forms low high) owns → AllSame low high maps (joined_maps maps owns) → AllByRecursion (IsWholeMap rules)
    (joined_maps maps owns)
whole_joined rules low high needed [] owns all own same = tt
whole_joined rules low high needed (a ∷ maps) [] all own same = all
whole_joined rules low high needed (a ∷ maps) (o ∷ owns) all own same = (
  record { sound = sound_joined rules.forms low high a o all.0.sound own.0; needed = needed a (joined_map a o) same.0 ∙ all.0.needed },
  whole_joined rules low high needed maps owns all.1 own.1 same.1,
)

-- ---- the PSBT

pub inputs_same : (known : List Known) (psbt : Psbt) → AllByRecursion IsKnown known → AllSame 4 6 psbt.inputs (joined_maps psbt.inputs (inputs_pairs known psbt))
inputs_same known psbt all =
    let v = version_of psbt.global in
    all_same (input_form (version_of psbt.global)) 4 6 psbt.inputs (inputs_pairs known psbt) (inputs_own (version_of psbt.global) known psbt.transaction.inputs psbt.inputs all)

pub outputs_same : (known : List Known) (psbt : Psbt) → AllByRecursion IsKnown known → AllSame 0 2 psbt.outputs (joined_maps psbt.outputs (outputs_pairs known psbt))
outputs_same known psbt all =
    all_same (output_form (version_of psbt.global)) 0 2 psbt.outputs (outputs_pairs known psbt) (outputs_own (version_of psbt.global) known psbt.transaction.outputs all)

pub updated_sound : (known : List Known) (psbt : Psbt) → AllByRecursion IsKnown known → IsSound psbt → IsSound (updated known psbt)
updated_sound known psbt all h =
    let ins = inputs_same known psbt all in
    let outs = outputs_same known psbt all in
    let in_rules : Rules = input_rules (version_of psbt.global) in
    let out_rules : Rules = output_rules (version_of psbt.global) in
    record {
      global = h.global;
      allowed = h.allowed;
      outline = h.outline;
      said = h.said;
      inputs = All-from_recursion (IsWholeMap (input_rules (version_of psbt.global))) (joined_maps psbt.inputs (inputs_pairs known psbt))
          (whole_joined (input_rules (version_of psbt.global)) 4 6 (λ a b s. same_needed_input s (version_of psbt.global)) psbt.inputs (inputs_pairs known psbt)
          (recursion_from_All (IsWholeMap (input_rules (version_of psbt.global))) psbt.inputs h.inputs) (inputs_own (version_of psbt.global) known psbt.transaction.inputs psbt.inputs all) ins);
      outputs = All-from_recursion (IsWholeMap (output_rules (version_of psbt.global))) (joined_maps psbt.outputs (outputs_pairs known psbt))
          (whole_joined (output_rules (version_of psbt.global)) 0 2 (λ a b s. same_needed_output s (version_of psbt.global)) psbt.outputs (outputs_pairs known psbt)
          (recursion_from_All (IsWholeMap (output_rules (version_of psbt.global))) psbt.outputs h.outputs) (outputs_own (version_of psbt.global) known psbt.transaction.outputs all) outs);
      each_input = as_many 4 6 psbt.inputs (joined_maps psbt.inputs (inputs_pairs known psbt)) ins ∙ h.each_input;
      each_output = as_many 0 2 psbt.outputs (joined_maps psbt.outputs (outputs_pairs known psbt)) outs ∙ h.each_output;
      transaction = h.transaction
          ∙ sym (transaction_same h.outline psbt.global psbt.inputs (joined_maps psbt.inputs (inputs_pairs known psbt)) psbt.outputs (joined_maps psbt.outputs (outputs_pairs known psbt)) ins outs);
      joined = unjoined_same (version_of psbt.global) (5 + length (map_text psbt.global)) (5 + length (map_text psbt.global)) psbt.inputs (joined_maps psbt.inputs (inputs_pairs known psbt))
          ins h.joined;
    }
