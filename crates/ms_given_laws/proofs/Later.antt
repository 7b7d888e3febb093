-- The transaction of the fields of version 2.
use Rattle.std.proofs.Common.{◌≡◌, ℕ, ◌^◌, ◌<◌, ◌==◌, ◌&&◌, Bool, true, false, cond, is_some, List, [], ◌∷◌, ◌++◌, length, map, Option, Some, None, option_map, unwrap_or, inl, inr, refl, subst, arith}
use Rattle.std.specs.List.{AllByRecursion, list_any}
use Rattle.std.proofs.lemmas.Bool.{and_parts, cases_Bool}
use Rattle.std.proofs.lemmas.List.{length-map}
use Rattle.std.proofs.lemmas.List.Elements.{All-from_recursion, recursion_from_All}
use Rattle.def_script.specs.Bytes.{Bytes, IsBytes}
use Rattle.def_psbt.specs.declared.PsbtVersion.TheVariants as version
use Rattle.def_psbt.specs.Transaction.{Transaction}
use Rattle.def_psbt.specs.Map.{Pair, Map, type_of, pair_of_type, value_of_type}
use Rattle.def_psbt.specs.Fields.{value_in, number_or, size_in, has_lock, has_time_alone, greatest, lock_time_of, input_of, output_of, transaction_of_fields}
use Rattle.def_psbt.specs.Listed.{Form, global_form, input_form, output_form, shape_fault, pair_fault}
use Rattle.def_psbt.specs.Laws.{IsSoundMap, IsWholeMap}
use Rattle.def_psbt.specs.Part.{first_size}
use Rattle.def_psbt.specs.Reading.{input_rules, output_rules, given, counted, outline_in}
use Rattle.ms_given_laws.specs.Given.{IsInput, IsOutput, IsTransaction, IsMapOfBytes}
use Rattle.ms_given_laws.proofs.BytesOf.{none}
use Rattle.ms_given_laws.proofs.Parts.{number_32, number_64, size_first}

-- the key and the value of a pair consist of bytes
abbrev pub IsPairOfBytes : Pair → Type 0
IsPairOfBytes pair = IsBytes pair.key × IsBytes pair.value

-- ---- what outlines say

pub given_is : (o : Option Transaction) (transaction : Transaction) → option_map given o ≡ Some (given transaction) → o ≡ Some transaction
given_is (Some found) transaction e = cc
given_is None transaction e = absurd cc

pub not_counted : (o : Option Transaction) (inputs outputs : ℕ) → option_map given o ≡ Some (counted inputs outputs) → ⊥
not_counted (Some found) inputs outputs e = cc
not_counted None inputs outputs e = cc

pub not_given : (global : Map) (transaction : Transaction) → outline_in version.Two global ≡ Some (given transaction) → ⊥
not_given global transaction e = grind arith

-- ---- the pair of a type

pub record Found (forms : ℕ → Form) (type : ℕ) (pair : Pair) : Type 0 where
  pub type_is : type_of pair.key ≡ type
  pub sound : shape_fault forms pair ≡ None
  pub fits : IsPairOfBytes pair
  pub short : length pair.value < 2 ^ 64

found : (forms : ℕ → Form) (type : ℕ) (before map : Map) (pair : Pair) → IsSoundMap forms before map → AllByRecursion IsPairOfBytes map → pair_of_type type map ≡ Some pair → Found forms type pair
unfolding pair_fault
found forms type before [] pair sound all e = absurd cc
found forms type before (first ∷ map) pair sound all e =
    let again = found forms type (before ++ first ∷ []) map pair sound.1 all.1 in
    let fault = sound.0.fault in
    let short = sound.0.value in
    elim (cases_Bool (type_of first.key == type)) [
      | inl is ↦
          let same : first ≡ pair = cc (rw is at e) in
          subst (Found forms type) same (record { type_is = grind arith; sound = grind arith; fits = all.0; short = short })
      | inr other ↦ again (rw other at e)
    ]

module _ (forms : ℕ → Form) (type : ℕ) (map : Map) (sound : IsSoundMap forms [] map) (all : AllByRecursion IsPairOfBytes map) where
  -- a property of values with nothing wrong, and of none
  pub value_has : (P : Bytes → Type 0) → P [] → ((pair : Pair) → Found forms type pair → P pair.value) → P (value_in type map)
  value_has P zero each = go (pair_of_type type map) refl
    where
      go : (o : Option Pair) → pair_of_type type map ≡ o → P (unwrap_or (option_map (λ (pair : Pair). pair.value) (pair_of_type type map)) [])
      go (Some pair) is = rw is (each pair (found forms type [] map pair sound all is))
      go None is = rw is zero

  -- the same of one that has to be there
  pub needed_has : (P : Bytes → Type 0) → is_some (pair_of_type type map) ≡ true → ((pair : Pair) → Found forms type pair → P pair.value) → P (value_in type map)
  needed_has P there each = go (pair_of_type type map) refl there
    where
      go : (o : Option Pair) → pair_of_type type map ≡ o → is_some o ≡ true → P (unwrap_or (option_map (λ (pair : Pair). pair.value) (pair_of_type type map)) [])
      go (Some pair) is e = rw is (each pair (found forms type [] map pair sound all is))
      go None is e = absurd cc

  pub value_fits : IsBytes (value_in type map)
  value_fits = value_has IsBytes none (λ pair f. f.fits.1)

  pub value_short : length (value_in type map) < 2 ^ 64
  value_short = value_has (λ v. length v < 2 ^ 64) (omega arith) (λ pair f. f.short)

  pub number_small : (other : ℕ) → other < 2 ^ 32 → number_or other (value_of_type type map) < 2 ^ 32
  number_small other less = go (pair_of_type type map) refl
    where
      go : (o : Option Pair) → pair_of_type type map ≡ o → number_or other (option_map (λ (pair : Pair). pair.value) (pair_of_type type map)) < 2 ^ 32
      go (Some pair) is = rw is (let f = found forms type [] map pair sound all is in number_32 pair.value f.fits.1)
      go None is = rw is less

-- ---- inputs and outputs

id_long : (pair : Pair) → type_of pair.key ≡ 0x0e → shape_fault (input_form version.Two) pair ≡ None → length pair.value ≡ 32
unfolding shape_fault input_form
id_long pair t e = grind arith

later_input : (fields : Map) → IsWholeMap (input_rules version.Two) fields → IsMapOfBytes fields → IsInput (input_of fields)
later_input fields whole fits =
    let all = recursion_from_All IsPairOfBytes fields fits in
    let form = input_form version.Two in
    let there : is_some (pair_of_type 0x0e fields) ≡ true = (and_parts (is_some (pair_of_type 0x0e fields)) (is_some (pair_of_type 0x0f fields) && true) whole.needed).0 in
    record {
      id = needed_has form 0x0e fields whole.sound all (λ v. length v ≡ 32) there (λ pair f. id_long pair f.type_is f.sound);
      index = number_32 (value_in 0x0f fields) (value_fits form 0x0f fields whole.sound all);
      script_sig = omega arith;
      sequence = number_small form 0x10 fields whole.sound all 0xffffffff (omega arith);
    }

later_output : (fields : Map) → IsWholeMap (output_rules version.Two) fields → IsMapOfBytes fields → IsOutput (output_of fields)
later_output fields whole fits =
    let all = recursion_from_All IsPairOfBytes fields fits in
    let form = output_form version.Two in
    record {
      amount = number_64 (value_in 0x03 fields) (value_fits form 0x03 fields whole.sound all);
      script = value_short form 0x04 fields whole.sound all;
    }

each_later : {A : Type 0} (Whole : Map → Type 0) (Is : A → Type 0) (make : Map → A) → ((fields : Map) → Whole fields → IsMapOfBytes fields → Is (make fields)) → (maps : List Map)
    → AllByRecursion Whole maps → AllByRecursion IsMapOfBytes maps → AllByRecursion Is (map make maps)
each_later Whole Is make one [] whole fits = tt
each_later Whole Is make one (fields ∷ maps) whole fits = (one fields whole.0 fits.0, each_later Whole Is make one maps whole.1 fits.1)

-- ---- the lock time

greatest_small : (type : ℕ) (inputs : List Map) → AllByRecursion (IsWholeMap (input_rules version.Two)) inputs → AllByRecursion IsMapOfBytes inputs → greatest type inputs < 2 ^ 32
greatest_small type [] whole fits = omega arith
greatest_small type (fields ∷ inputs) whole fits =
    let rest = greatest_small type inputs whole.1 fits.1 in
    let own = number_small (input_form version.Two) type fields whole.0.sound (recursion_from_All IsPairOfBytes fields fits.0) 0 (omega arith) in
    omega (arith, rest, own)

lock_time_small : (fallback : ℕ) (inputs : List Map) → fallback < 2 ^ 32 → AllByRecursion (IsWholeMap (input_rules version.Two)) inputs
    → AllByRecursion IsMapOfBytes inputs → lock_time_of fallback inputs < 2 ^ 32
lock_time_small fallback inputs less whole fits = go (list_any has_lock inputs)
  where
    go : (b : Bool) → cond b (greatest (cond (list_any has_time_alone inputs) 0x11 0x12) inputs) fallback < 2 ^ 32
    go true = greatest_small (cond (list_any has_time_alone inputs) 0x11 0x12) inputs whole fits
    go false = less

-- ---- the transaction

size_small : (type : ℕ) (map : Map) → IsSoundMap global_form [] map → AllByRecursion IsPairOfBytes map → size_in type map < 2 ^ 64
size_small type map sound all = go (first_size (value_in type map)) refl
  where
    fits : IsBytes (value_in type map)
    fits = value_fits global_form type map sound all

    go : (o : Option (ℕ × Bytes)) → first_size (value_in type map) ≡ o → size_in type map < 2 ^ 64
    go (Some part) is = rw is ((size_first (value_in type map) fits).reads part is).0
    go None is = rw is (omega arith)

counts_said : (global : Map) (inputs outputs : ℕ) → outline_in version.Two global ≡ Some (counted inputs outputs) → (inputs ≡ size_in 0x04 global) × (outputs ≡ size_in 0x05 global)
counts_said global inputs outputs e = grind arith

pub later_transaction : (global : Map) (inputs outputs : List Map) (input_number output_number : ℕ) → IsSoundMap global_form [] global → AllByRecursion IsPairOfBytes global
    → outline_in version.Two global ≡ Some (counted input_number output_number)
    → AllByRecursion (IsWholeMap (input_rules version.Two)) inputs → AllByRecursion IsMapOfBytes inputs → length inputs ≡ input_number
    → AllByRecursion (IsWholeMap (output_rules version.Two)) outputs → AllByRecursion IsMapOfBytes outputs → length outputs ≡ output_number
    → IsTransaction (transaction_of_fields global inputs outputs)
later_transaction global inputs outputs input_number output_number sound all said ins ins_fit many_in outs outs_fit many_out =
    let counts = counts_said global input_number output_number said in
    record {
      version = number_32 (value_in 0x02 global) (value_fits global_form 0x02 global sound all);
      inputs = All-from_recursion IsInput (map input_of inputs) (each_later (IsWholeMap (input_rules version.Two)) IsInput input_of later_input inputs ins ins_fit);
      few_inputs = omega (arith, length-map inputs input_of, many_in, counts.0, size_small 0x04 global sound all);
      outputs = All-from_recursion IsOutput (map output_of outputs) (each_later (IsWholeMap (output_rules version.Two)) IsOutput output_of later_output outputs outs outs_fit);
      few_outputs = omega (arith, length-map outputs output_of, many_out, counts.1, size_small 0x05 global sound all);
      lock_time = lock_time_small (number_or 0 (value_of_type 0x03 global)) inputs (number_small global_form 0x03 global sound all 0 (omega arith)) ins ins_fit;
    }
