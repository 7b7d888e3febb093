-- What was written is read back, part by part.
use Rattle.std.proofs.Common.{◌≡◌, ℕ, ◌^◌, ◌<◌, nat_le, true, List, [], ◌∷◌, ◌++◌, length, Some, refl, ap, ◌∙◌, append_assoc, arith}
use Rattle.std.specs.Int.{w32, w64, to_le_bytes, from_le_bytes}
use Rattle.std.specs.List.{flat_map, AllByRecursion}
use Rattle.std.proofs.lemmas.Bool.{le-leb}
use Rattle.std.proofs.lemmas.List.{take_at, drop_at, length-append}
use Rattle.std.proofs.lemmas.List.Concat.{flat_map-cons}
use Rattle.std.proofs.lemmas.Nat.{from_le_bytes-to_le_bytes_4, from_le_bytes-to_le_bytes_8}
use Rattle.def_script.specs.Bytes.{Bytes}
use Rattle.def_script.specs.Sizes.{size_bytes}
use Rattle.def_script.specs.Witness.{sized, items_text}
use Rattle.def_script.proofs.Sizing.{size_is_read_back}
use Rattle.def_psbt.specs.Transaction.{TransactionInput, TransactionOutput, Transaction, outpoint_text, input_text, output_text, inputs_text, outputs_text}
use Rattle.def_psbt.specs.Part.{Part, ◌>>=◌, first_bytes, first_number, size_part, first_size, first_string, first_many, first_list}
use Rattle.def_psbt.specs.TransactionReading.{first_outpoint, first_input, first_output, first_sides, first_witness}
use Rattle.ms_given_laws.specs.Given.{IsInput, IsOutput}

-- ---- strings and numbers

pub bytes_back : (count : ℕ) (bytes rest : Bytes) → length bytes ≡ count → first_bytes count (bytes ++ rest) ≡ Some (bytes, rest)
unfolding first_bytes
bytes_back count bytes rest long =
    let room : nat_le count (length (bytes ++ rest)) ≡ true = le-leb _ _ (omega (arith, long, length-append bytes rest)) in
    rw (room, take_at bytes rest count long, drop_at bytes rest count long) refl

pub number_32_back : (n : ℕ) (rest : Bytes) → n < 2 ^ 32 → first_number w32 (to_le_bytes w32 n ++ rest) ≡ Some (n, rest)
unfolding first_number
number_32_back n rest low =
    let part : first_bytes 4 (to_le_bytes w32 n ++ rest) ≡ Some (to_le_bytes w32 n, rest) = bytes_back 4 (to_le_bytes w32 n) rest refl in
    ap (λ (o : Part Bytes). o >>= λ part. Some (from_le_bytes w32 part.0, part.1)) part
    ∙ ap (λ (m : ℕ). let found : Part ℕ = Some (m, rest) in found) (from_le_bytes-to_le_bytes_4 n low)

pub number_64_back : (n : ℕ) (rest : Bytes) → n < 2 ^ 64 → first_number w64 (to_le_bytes w64 n ++ rest) ≡ Some (n, rest)
unfolding first_number
number_64_back n rest low =
    let part : first_bytes 8 (to_le_bytes w64 n ++ rest) ≡ Some (to_le_bytes w64 n, rest) = bytes_back 8 (to_le_bytes w64 n) rest refl in
    ap (λ (o : Part Bytes). o >>= λ part. Some (from_le_bytes w64 part.0, part.1)) part
    ∙ ap (λ (m : ℕ). let found : Part ℕ = Some (m, rest) in found) (from_le_bytes-to_le_bytes_8 n low)

pub size_back : (n : ℕ) (rest : Bytes) → n < 2 ^ 64 → first_size (size_bytes n ++ rest) ≡ Some (n, rest)
unfolding first_size
size_back n rest low =
    ap (size_part (size_bytes n ++ rest)) (size_is_read_back n rest low)
    ∙ ap (λ (r : Bytes). let found : Part ℕ = Some (n, r) in found) (drop_at (size_bytes n) rest (length (size_bytes n)) refl)

pub string_back : (bytes rest : Bytes) → length bytes < 2 ^ 64 → first_string (sized bytes ++ rest) ≡ Some (bytes, rest)
unfolding first_string
string_back bytes rest low =
    ap (λ (l : Bytes). first_size l >>= λ size. first_bytes size.0 size.1) (append_assoc (size_bytes (length bytes)) bytes rest)
    ∙ ap (λ (o : Part ℕ). o >>= λ size. first_bytes size.0 size.1) (size_back (length bytes) (bytes ++ rest) low)
    ∙ bytes_back (length bytes) bytes rest refl

-- ---- lists

-- each part of a kind that is so is read back
abbrev pub EachBack : {A : Type 0} → (A → Type 0) → (A → Bytes) → (Bytes → Part A) → Type 0
EachBack {A} P text first = (x : A) (rest : Bytes) → P x → first (text x ++ rest) ≡ Some (x, rest)

pub many_back : {A : Type 0} (P : A → Type 0) (text : A → Bytes) (first : Bytes → Part A) → EachBack P text first → (xs : List A) (rest : Bytes) → AllByRecursion P xs
    → first_many first (length xs) (flat_map text xs ++ rest) ≡ Some (xs, rest)
unfolding first_many
many_back {A} P text first each [] rest h = refl
many_back {A} P text first each (x ∷ xs) rest h =
    let split : flat_map text (x ∷ xs) ++ rest ≡ text x ++ (flat_map text xs ++ rest) =
    ap (λ (l : Bytes). l ++ rest) (flat_map-cons text x xs) ∙ append_assoc (text x) (flat_map text xs) rest in
    ap (λ (l : Bytes). first l >>= λ part. first_many first (length xs) part.1 >>= λ parts. Some (part.0 ∷ parts.0, parts.1)) split
    ∙ ap (λ (o : Part A). o >>= λ part. first_many first (length xs) part.1 >>= λ parts. Some (part.0 ∷ parts.0, parts.1)) (each x (flat_map text xs ++ rest) h.0)
    ∙ ap (λ (o : Part (List A)). o >>= λ parts. Some (x ∷ parts.0, parts.1)) (many_back P text first each xs rest h.1)

pub list_back : {A : Type 0} (P : A → Type 0) (text : A → Bytes) (first : Bytes → Part A) → EachBack P text first → (xs : List A) (rest : Bytes) → length xs < 2 ^ 64 → AllByRecursion P xs
    → first_list first ((size_bytes (length xs) ++ flat_map text xs) ++ rest) ≡ Some (xs, rest)
unfolding first_list
list_back {A} P text first each xs rest low h =
    ap (λ (l : Bytes). first_size l >>= λ count. first_many first count.0 count.1) (append_assoc (size_bytes (length xs)) (flat_map text xs) rest)
    ∙ ap (λ (o : Part ℕ). o >>= λ count. first_many first count.0 count.1) (size_back (length xs) (flat_map text xs ++ rest) low)
    ∙ many_back P text first each xs rest h

-- ---- witnesses

-- items that can be spelled
pub record AreItems (items : List Bytes) : Type 0 where
  pub few : length items < 2 ^ 64
  pub short : AllByRecursion (λ (item : Bytes). length item < 2 ^ 64) items

pub witness_back : EachBack AreItems items_text first_witness
witness_back items rest h = list_back (λ (item : Bytes). length item < 2 ^ 64) sized first_string string_back items rest h.few h.short

-- ---- transactions

input_back : EachBack IsInput input_text first_input
unfolding first_input first_outpoint
input_back input rest h =
    let out : Bytes = sized input.script_sig ++ to_le_bytes w32 input.sequence in
    let split : input_text input ++ rest ≡ input.outpoint.id ++ (to_le_bytes w32 input.outpoint.index ++ (sized input.script_sig ++ (to_le_bytes w32 input.sequence ++ rest))) =
    append_assoc (outpoint_text input.outpoint) (sized input.script_sig ++ to_le_bytes w32 input.sequence) rest
    ∙ append_assoc input.outpoint.id (to_le_bytes w32 input.outpoint.index) ((sized input.script_sig ++ to_le_bytes w32 input.sequence) ++ rest)
    ∙ ap (λ (l : Bytes). input.outpoint.id ++ (to_le_bytes w32 input.outpoint.index ++ l)) (append_assoc (sized input.script_sig) (to_le_bytes w32 input.sequence) rest) in
    let id = bytes_back 32 input.outpoint.id (to_le_bytes w32 input.outpoint.index ++ (sized input.script_sig ++ (to_le_bytes w32 input.sequence ++ rest))) h.id in
    let index = number_32_back input.outpoint.index (sized input.script_sig ++ (to_le_bytes w32 input.sequence ++ rest)) h.index in
    let script_sig = string_back input.script_sig (to_le_bytes w32 input.sequence ++ rest) h.script_sig in
    let sequence = number_32_back input.sequence rest h.sequence in
    rw (split, id, index, script_sig, sequence) refl

output_back : EachBack IsOutput output_text first_output
unfolding first_output
output_back output rest h =
    let split : output_text output ++ rest ≡ to_le_bytes w64 output.amount ++ (sized output.script ++ rest) = append_assoc (to_le_bytes w64 output.amount) (sized output.script) rest in
    let amount = number_64_back output.amount (sized output.script ++ rest) h.amount in
    let script = string_back output.script rest h.script in
    rw (split, amount, script) refl

-- the inputs and the outputs of a transaction
pub sides_back : (transaction : Transaction) (rest : Bytes) → length transaction.inputs < 2 ^ 64 → AllByRecursion IsInput transaction.inputs
    → length transaction.outputs < 2 ^ 64 → AllByRecursion IsOutput transaction.outputs
    → first_sides (inputs_text transaction.inputs ++ (outputs_text transaction.outputs ++ rest)) ≡ Some ((transaction.inputs, transaction.outputs), rest)
unfolding first_sides
sides_back transaction rest few ins fewer outs =
    let inputs = list_back IsInput input_text first_input input_back transaction.inputs (outputs_text transaction.outputs ++ rest) few ins in
    let outputs = list_back IsOutput output_text first_output output_back transaction.outputs rest fewer outs in
    ap (λ (o : Part (List TransactionInput)). o >>= λ inputs. first_list first_output inputs.1 >>= λ outputs. Some ((inputs.0, outputs.0), outputs.1)) inputs
    ∙ ap (λ (o : Part (List TransactionOutput)). o >>= λ outputs. Some ((transaction.inputs, outputs.0), outputs.1)) outputs
