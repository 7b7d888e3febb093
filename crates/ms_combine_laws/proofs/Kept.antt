-- The fields of the transaction in joined maps: those of the first.
use Rattle.std.proofs.Common.{◌≡◌, ℕ, suc, ◌+◌, ◌&&◌, Bool, true, false, cond, List, [], ◌∷◌, ◌++◌, length, map, Option, Some, None, option_map, refl, sym, ap, subst, ◌∙◌}
use Rattle.std.specs.List.{AllByRecursion, list_any}
use Rattle.std.specs.Prelude.{unwrap_or}
use Rattle.std.specs.Str.{bytes_eq}
use Rattle.std.proofs.lemmas.Bool.{and_parts}
use Rattle.def_script.specs.Bytes.{Bytes}
use Rattle.def_psbt.specs.Map.{Pair, Map, pair_of_type, value_of_type, has_types, map_text}
use Rattle.def_psbt.specs.Fields.{has_field, number_or, value_in, outpoint_in, input_of, output_of}
use Rattle.def_psbt.specs.Transaction.{TransactionInput, TransactionOutput}
use Rattle.def_psbt.specs.Reading.{or_else, repeated_at}
use Rattle.def_combine.specs.Joined.{joined_map, joined_maps}
use Rattle.ms_combine_laws.proofs.Found.{joined_type, kept_type}

abbrev value_from : Option Pair → Option Bytes
value_from o = option_map (λ (pair : Pair). pair.value) o

-- ---- a field that the first has

pub kept_value : (type : ℕ) (a b : Map) → has_field type a ≡ true → value_in type (joined_map a b) ≡ value_in type a
kept_value type a b has = ap (λ (o : Option Pair). unwrap_or (value_from o) []) (kept_type type a b has)

-- ---- a number that both have

number_else : (none : ℕ) (x y : Option Pair) → number_or none (value_from x) ≡ number_or none (value_from y)
    → number_or none (value_from (or_else x y)) ≡ number_or none (value_from x)
number_else none (Some p) y e = refl
number_else none None y e = sym e

pub kept_number : (none type : ℕ) (a b : Map) → number_or none (value_of_type type a) ≡ number_or none (value_of_type type b)
    → number_or none (value_of_type type (joined_map a b)) ≡ number_or none (value_of_type type a)
kept_number none type a b e =
    ap (λ (o : Option Pair). number_or none (value_from o)) (joined_type type a b) ∙ number_else none (pair_of_type type a) (pair_of_type type b) e

-- ---- inputs and outputs

-- the types that have to stand in a map of an input, and in one of an output
abbrev pub HasOutpoint : Map → Type 0
HasOutpoint fields = has_types (0x0e ∷ 0x0f ∷ []) fields ≡ true

abbrev pub HasAmount : Map → Type 0
HasAmount fields = has_types (0x03 ∷ 0x04 ∷ []) fields ≡ true

two_types : (one two : ℕ) (fields : Map) → has_types (one ∷ two ∷ []) fields ≡ true → (has_field one fields ≡ true) × (has_field two fields ≡ true)
two_types one two fields h =
    let parts = and_parts (has_field one fields) (has_field two fields && true) h in
    (parts.0, (and_parts (has_field two fields) true parts.1).0)

abbrev input_by : (id index : Bytes) → (sequence : ℕ) → TransactionInput
input_by id index sequence = record {
  outpoint = record { id = id; index = number_or 0 (Some index) };
  script_sig = [];
  sequence = sequence;
}

kept_input : (a b : Map) → HasOutpoint a → input_of a ≡ input_of b → input_of (joined_map a b) ≡ input_of a
kept_input a b needed same =
    let has = two_types 0x0e 0x0f a needed in
    let sequence : number_or 0xffffffff (value_of_type 0x10 a) ≡ number_or 0xffffffff (value_of_type 0x10 b) = ap (λ (i : TransactionInput). i.sequence) same in
    ap (λ (x : Bytes). input_by x (value_in 0x0f (joined_map a b)) (number_or 0xffffffff (value_of_type 0x10 (joined_map a b)))) (kept_value 0x0e a b has.0)
    ∙ ap (λ (x : Bytes). input_by (value_in 0x0e a) x (number_or 0xffffffff (value_of_type 0x10 (joined_map a b)))) (kept_value 0x0f a b has.1)
    ∙ ap (λ (n : ℕ). input_by (value_in 0x0e a) (value_in 0x0f a) n) (kept_number 0xffffffff 0x10 a b sequence)

kept_outpoint : (a b : Map) → HasOutpoint a → outpoint_in (joined_map a b) ≡ outpoint_in a
kept_outpoint a b needed =
    let has = two_types 0x0e 0x0f a needed in
    ap (λ (x : Bytes). x ++ value_in 0x0f (joined_map a b)) (kept_value 0x0e a b has.0) ∙ ap (λ (x : Bytes). value_in 0x0e a ++ x) (kept_value 0x0f a b has.1)

abbrev output_by : (amount script : Bytes) → TransactionOutput
output_by amount script = output_of (record { key = 0x03 ∷ []; value = amount } ∷ record { key = 0x04 ∷ []; value = script } ∷ [])

kept_output : (a b : Map) → HasAmount a → output_of (joined_map a b) ≡ output_of a
kept_output a b needed =
    let has = two_types 0x03 0x04 a needed in
    let amount = kept_value 0x03 a b has.0 in
    let script = kept_value 0x04 a b has.1 in
    rw (amount, script) refl

pub kept_inputs : (xs ys : List Map) → AllByRecursion HasOutpoint xs → map input_of xs ≡ map input_of ys → map input_of (joined_maps xs ys) ≡ map input_of xs
kept_inputs [] ys h e = refl
kept_inputs (a ∷ xs) [] h e = refl
kept_inputs (a ∷ xs) (b ∷ ys) h e =
    let first : input_of a ≡ input_of b = cc in
    let rest : map input_of xs ≡ map input_of ys = cc in
    ap (λ (x : TransactionInput). x ∷ map input_of (joined_maps xs ys)) (kept_input a b h.0 first)
    ∙ ap (λ (l : List TransactionInput). input_of a ∷ l) (kept_inputs xs ys h.1 rest)

pub kept_outpoints : (xs ys : List Map) → AllByRecursion HasOutpoint xs → map outpoint_in (joined_maps xs ys) ≡ map outpoint_in xs
kept_outpoints [] ys h = refl
kept_outpoints (a ∷ xs) [] h = refl
kept_outpoints (a ∷ xs) (b ∷ ys) h =
    ap (λ (x : Bytes). x ∷ map outpoint_in (joined_maps xs ys)) (kept_outpoint a b h.0) ∙ ap (λ (l : List Bytes). outpoint_in a ∷ l) (kept_outpoints xs ys h.1)

pub kept_outputs : (xs ys : List Map) → AllByRecursion HasAmount xs → map output_of (joined_maps xs ys) ≡ map output_of xs
kept_outputs [] ys h = refl
kept_outputs (a ∷ xs) [] h = refl
kept_outputs (a ∷ xs) (b ∷ ys) h =
    ap (λ (x : TransactionOutput). x ∷ map output_of (joined_maps xs ys)) (kept_output a b h.0) ∙ ap (λ (l : List TransactionOutput). output_of a ∷ l) (kept_outputs xs ys h.1)

pub joined_length : (xs ys : List Map) → length (joined_maps xs ys) ≡ length xs
joined_length [] ys = refl
joined_length (a ∷ xs) [] = refl
joined_length (a ∷ xs) (b ∷ ys) = ap suc (joined_length xs ys)

-- ---- outpoints that stand twice

-- the place tells where, and the outpoints tell whether
pub repeated_same : (before : List Bytes) (i j : ℕ) (xs ys : List Map) → map outpoint_in ys ≡ map outpoint_in xs → repeated_at before i xs ≡ None → repeated_at before j ys ≡ None
repeated_same before i j xs [] same e = refl
repeated_same before i j [] (b ∷ ys) same e = absurd cc
repeated_same before i j (a ∷ xs) (b ∷ ys) same e =
    let first : outpoint_in a ≡ outpoint_in b = cc in
    let rest : map outpoint_in ys ≡ map outpoint_in xs = cc in
    subst (λ (t : Bytes). cond (list_any (bytes_eq t) before) (Some j) (repeated_at (before ++ t ∷ []) (j + length (map_text b)) ys) ≡ None) first
    (go (list_any (bytes_eq (outpoint_in a)) before) (repeated_at (before ++ outpoint_in a ∷ []) (i + length (map_text a)) xs)
    (repeated_at (before ++ outpoint_in a ∷ []) (j + length (map_text b)) ys)
    (repeated_same (before ++ outpoint_in a ∷ []) (i + length (map_text a)) (j + length (map_text b)) xs ys rest) e)
  where
    go : (twice : Bool) (o p : Option ℕ) → (o ≡ None → p ≡ None) → cond twice (Some i) o ≡ None → cond twice (Some j) p ≡ None
    go true o p h e = absurd cc
    go false o p h e = h e
