-- The keys of what was combined: those of the parts, each once, with the pair of the first part that has it.
use Rattle.std.proofs.Common.{◌≡◌, ℕ, zero, suc, ◌<◌, ◌||◌, false, List, [], ◌∷◌, ◌++◌, length, map, Option, Some, None, refl, sym, ap, ◌∙◌, arith}
use Rattle.std.specs.Prelude.{⊤}
use Rattle.std.specs.List.{AllByRecursion, IsDistinct, slice_index_or}
use Rattle.std.specs.Str.{bytes_eq}
use Rattle.std.proofs.lemmas.Bool.{or_parts}
use Rattle.std.proofs.lemmas.List.Elements.{All-from_recursion}
use Rattle.std.proofs.lemmas.List.Folds.{list_any-append}
use Rattle.def_script.specs.Bytes.{Bytes}
use Rattle.def_psbt.specs.Map.{Pair, Map, Psbt}
use Rattle.def_psbt.specs.Fields.{version_number, version_of}
use Rattle.def_psbt.specs.Laws.{IsSoundMap, IsWholeMap}
use Rattle.def_psbt.specs.Listed.{Form, global_form, stands}
use Rattle.def_psbt.specs.Reading.{Rules, input_rules, output_rules, or_else}
use Rattle.def_combine.specs.Combine.{Parts}
use Rattle.def_combine.specs.Joined.{joined_map, joined_maps, joined, joined_all}
use Rattle.ms_given_laws.specs.Given.{EachIsSound}
use Rattle.ms_given_laws.proofs.Held.{fault_none}
use Rattle.ms_combine_laws.specs.Combined.{all_parts, IsOfSame, HasSameTransaction, pair_of_key, first_of_key, same_key, AreJoined, HasSameKeys}
use Rattle.ms_combine_laws.proofs.Found.{joined_found}
use Rattle.ms_combine_laws.proofs.Common.{IsCommon}
use Rattle.ms_combine_laws.proofs.Given.{AreCombined, are_combined}

-- ---- no key stands twice

stands_both : (key : Bytes) (a b : Map) → stands key (a ++ b) ≡ (stands key a || stands key b)
stands_both key a b = list_any-append (λ (pair : Pair). bytes_eq key pair.key) a b

differ : (forms : ℕ → Form) (first : Pair) (before map : Map) → ((key : Bytes) → stands key before ≡ false → bytes_eq key first.key ≡ false) → IsSoundMap forms before map
    → AllByRecursion (λ other. same_key first other ≡ false) map
differ forms first before [] apart h = tt
differ forms first before (other ∷ map) apart h = (
  apart other.key (fault_none forms before other h.0.fault).0,
  differ forms first (before ++ other ∷ []) map
      (λ key none. apart key (or_parts (stands key before) (stands key (other ∷ [])) (sym (stands_both key before (other ∷ [])) ∙ none)).0) h.1,
)

distinct : (forms : ℕ → Form) (before map : Map) → IsSoundMap forms before map → IsDistinct same_key map
unfolding IsDistinct
distinct forms before [] h = tt
distinct forms before (pair ∷ map) h = (
  differ forms pair (before ++ pair ∷ []) map
      (λ key none.
      let last = (or_parts (stands key before) (stands key (pair ∷ [])) (sym (stands_both key before (pair ∷ [])) ∙ none)).1 in
      (or_parts (bytes_eq key pair.key) false last).0) h.1,
  distinct forms (before ++ pair ∷ []) map h.1,
)

-- ---- the pair of a key

else_none : (o : Option Pair) → o ≡ or_else o None
else_none (Some pair) = refl
else_none None = refl

else_else : (a b c : Option Pair) → or_else (or_else a b) c ≡ or_else a (or_else b c)
else_else (Some pair) b c = refl
else_else None b c = refl

-- of the maps that are chosen, one of each part
found_all : (chosen : Psbt → Map) (Has : Psbt → Type 0)
    → ((a b : Psbt) → Has a → Has b → (chosen (joined a b) ≡ joined_map (chosen a) (chosen b)) × Has (joined a b))
    → (key : Bytes) (first : Psbt) (others : List Psbt) → Has first → AllByRecursion Has others
    → pair_of_key key (chosen (joined_all first others)) ≡ first_of_key key (map chosen (first ∷ others))
found_all chosen Has step key first [] h k = else_none (pair_of_key key (chosen first))
found_all chosen Has step key first (other ∷ others) h k =
    let one = step first other h k.0 in
    found_all chosen Has step key (joined first other) others one.1 k.1
    ∙ ap (λ (o : Option Pair). or_else o (first_of_key key (map chosen others))) (ap (pair_of_key key) one.0 ∙ joined_found (bytes_eq key) (chosen first) (chosen other))
    ∙ else_else (pair_of_key key (chosen first)) (pair_of_key key (chosen other)) (first_of_key key (map chosen others))

nth_joined : (xs ys : List Map) (i : ℕ) → i < length xs → i < length ys → slice_index_or (joined_maps xs ys) i [] ≡ joined_map (slice_index_or xs i []) (slice_index_or ys i [])
nth_joined [] ys i h k = absurd (omega arith)
nth_joined (a ∷ xs) [] i h k = absurd (omega arith)
nth_joined (a ∷ xs) (b ∷ ys) zero h k = refl
nth_joined (a ∷ xs) (b ∷ ys) (suc i) h k = nth_joined xs ys i (omega arith) (omega arith)

longer : (xs ys : List Map) (i : ℕ) → i < length xs → i < length (joined_maps xs ys)
longer [] ys i h = absurd (omega arith)
longer (a ∷ xs) [] i h = h
longer (a ∷ xs) (b ∷ ys) zero h = omega arith
longer (a ∷ xs) (b ∷ ys) (suc i) h = let rest = longer xs ys i (omega arith) in omega (arith, rest)

-- ---- the maps of the parts

nth_sound : (rules : Rules) (maps : List Map) (i : ℕ) → AllByRecursion (IsWholeMap rules) maps → i < length maps → IsSoundMap rules.forms [] (slice_index_or maps i [])
nth_sound rules [] i h k = absurd (omega arith)
nth_sound rules (map ∷ maps) zero h k = h.0.sound
nth_sound rules (map ∷ maps) (suc i) h k = nth_sound rules maps i h.1 (omega arith)

nth_distinct : (rules : Rules) (maps : List Map) (i : ℕ) → AllByRecursion (IsWholeMap rules) maps → i < length maps → IsDistinct same_key (slice_index_or maps i [])
nth_distinct rules maps i h less = distinct rules.forms [] (slice_index_or maps i []) (nth_sound rules maps i h less)

abbrev IsPart : (first part : Psbt) → Type 0
IsPart first part = IsCommon (version_number first.global) (version_of first.global) first.transaction part

many_inputs : (first : Psbt) (i : ℕ) (parts : List Psbt) → i < length first.transaction.inputs → AllByRecursion (IsPart first) parts
    → AllByRecursion (λ (part : Psbt). i < length part.inputs) parts
many_inputs first i [] less h = tt
many_inputs first i (part ∷ parts) less h = let many = h.0.each_input in (omega (arith, many, less), many_inputs first i parts less h.1)

many_outputs : (first : Psbt) (i : ℕ) (parts : List Psbt) → i < length first.transaction.outputs → AllByRecursion (IsPart first) parts
    → AllByRecursion (λ (part : Psbt). i < length part.outputs) parts
many_outputs first i [] less h = tt
many_outputs first i (part ∷ parts) less h = let many = h.0.each_output in (omega (arith, many, less), many_outputs first i parts less h.1)

all_there : (parts : List Psbt) → AllByRecursion (λ (part : Psbt). ⊤) parts
all_there [] = tt
all_there (part ∷ parts) = (tt, all_there parts)

are_joined : (parts : Parts) (whole : Psbt) → AreCombined parts whole → AreJoined parts whole
are_joined parts whole h =
    let first = parts.first in
    let others = parts.others in
    let common = h.common in
    let inputs_long = common.each_input in
    let outputs_long = common.each_output in
    record {
      global = record {
        once = distinct global_form [] whole.global common.global;
        pair = λ key.
            ap (λ (x : Psbt). pair_of_key key x.global) (sym h.is)
            ∙ found_all (λ (part : Psbt). part.global) (λ part. ⊤) (λ a b p q. (refl, tt)) key parts.first parts.others tt (all_there parts.others);
      };
      inputs = λ i less.
          let many = many_inputs parts.first i (parts.first ∷ parts.others) (omega (arith, inputs_long, less)) h.each in
          record {
            once = nth_distinct (input_rules (version_of parts.first.global)) whole.inputs i common.inputs less;
            pair = λ key.
                ap (λ (x : Psbt). pair_of_key key (slice_index_or x.inputs i [])) (sym h.is)
                ∙ found_all (λ (part : Psbt). slice_index_or part.inputs i []) (λ (part : Psbt). i < length part.inputs)
                (λ a b p q. (nth_joined a.inputs b.inputs i p q, longer a.inputs b.inputs i p)) key parts.first parts.others many.0 many.1;
          };
      outputs = λ i less.
          let many = many_outputs parts.first i (parts.first ∷ parts.others) (omega (arith, outputs_long, less)) h.each in
          record {
            once = nth_distinct (output_rules (version_of parts.first.global)) whole.outputs i common.outputs less;
            pair = λ key.
                ap (λ (x : Psbt). pair_of_key key (slice_index_or x.outputs i [])) (sym h.is)
                ∙ found_all (λ (part : Psbt). slice_index_or part.outputs i []) (λ (part : Psbt). i < length part.outputs)
                (λ a b p q. (nth_joined a.outputs b.outputs i p q, longer a.outputs b.outputs i p)) key parts.first parts.others many.0 many.1;
          };
    }

pub has_same_keys : EachIsSound → HasSameKeys
has_same_keys law source parts whole fits e c = are_joined parts whole (are_combined law source parts whole fits e c)

-- ---- the version and the transaction

of_same : (first whole : Psbt) (parts : List Psbt) → IsPart first whole → AllByRecursion (IsPart first) parts → AllByRecursion (IsOfSame whole) parts
of_same first whole [] h k = tt
of_same first whole (part ∷ parts) h k = (
  record {
    version = k.0.version ∙ sym h.version;
    transaction = k.0.transaction ∙ sym h.transaction;
    inputs = k.0.each_input ∙ sym h.each_input;
    outputs = k.0.each_output ∙ sym h.each_output;
  },
  of_same first whole parts h k.1,
)

pub has_same_transaction : EachIsSound → HasSameTransaction
has_same_transaction law source parts whole fits e c =
    let h = are_combined law source parts whole fits e c in
    All-from_recursion (IsOfSame whole) (all_parts parts) (of_same parts.first whole (parts.first ∷ parts.others) h.common h.each)
