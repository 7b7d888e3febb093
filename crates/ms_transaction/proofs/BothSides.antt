-- The inputs and the outputs of a transaction.
use Rattle.std.proofs.Common.{◌≡◌, ℕ, ◌+◌, ◌-◌, ◌^◌, ◌<◌, ◌≤◌, List, ◌++◌, length, length-append, take, Some, None, refl, sym, ap, ◌∙◌, append_assoc, arith}
use Rattle.std.specs.List.{flat_map, AllByRecursion}
use Rattle.def_script.specs.Bytes.{Bytes, IsBytes}
use Rattle.def_script.specs.Sizes.{size_bytes}
use Rattle.def_psbt.specs.Part.{Part, first_size, first_list}
use Rattle.def_psbt.specs.Transaction.{TransactionInput, TransactionOutput, input_text, output_text, inputs_text, outputs_text}
use Rattle.def_psbt.specs.TransactionReading.{first_input, first_output, first_sides}
use Rattle.ms_psbt.specs.Seen.{counted_part}
use Rattle.ms_transaction.specs.Parts.{inputs_in, outputs_in}
use Rattle.ms_transaction.specs.Scaffolding.Spelled.{IsInput, IsOutput, AreInputs, AreOutputs, AreSides}
use Rattle.ms_transaction.proofs.Fronts.{some_is, rest_inside, before_is, SpellsShort, list_spelled}
use Rattle.ms_transaction.proofs.Spelling.{input_spelled, output_spelled, inputs_back, outputs_back}

-- ---- a list that was read

counted_some : {A : Type 0} (part : Part (List A)) (count : ℕ) (rest : Bytes) → counted_part part ≡ Some (count, rest) → (xs : List A) × (part ≡ Some (xs, rest)) × (length xs ≡ count)
counted_some (Some read) count rest e =
    let both = some_is (length read.0, read.1) (count, rest) e in
    (read.0, ap (λ (r : Bytes). Some (read.0, r)) (ap (λ (p : ℕ × Bytes). p.1) both), ap (λ (p : ℕ × Bytes). p.0) both)
counted_some None count rest e = absurd cc

pub counted_none : {A : Type 0} (part : Part (List A)) → counted_part part ≡ None → part ≡ None
counted_none (Some read) e = absurd cc
counted_none None e = refl

-- a list at the front of bytes: its parts behind their number, and what is behind them
pub record ListRead {A : Type 0} (first : Bytes → Part A) (text : A → Bytes) (good : A → Type 0) (bytes : Bytes) (count : ℕ) (parts rest : Bytes) : Type 0 where
  pub xs : List A
  pub read : first_list first bytes ≡ Some (xs, rest)
  pub number : count ≡ length xs
  pub whole : bytes ≡ (size_bytes (length xs) ++ flat_map text xs) ++ rest
  pub parts_are : parts ≡ flat_map text xs ++ rest
  pub each : AllByRecursion good xs
  pub fits : IsBytes rest

list_read : {A : Type 0} (first : Bytes → Part A) (text : A → Bytes) (good : A → Type 0) → SpellsShort first text good → (bytes : Bytes) (count size : ℕ) (parts rest : Bytes)
    → length bytes < 2 ^ 64 → IsBytes bytes → counted_part (first_list first bytes) ≡ Some (count, rest) → first_size bytes ≡ Some (size, parts) → ListRead first text good bytes count parts rest
list_read first text good spells bytes count size parts rest small fits e s =
    let c = counted_some (first_list first bytes) count rest e in
    let l = list_spelled first text good spells bytes (c.0, rest) small fits c.1 in
    let same : l.0 ≡ (size, parts) = some_is l.0 (size, parts) (sym l.1 ∙ s) in
    let many = l.3 in
    let number : l.0.0 ≡ length c.0 = sym many.number in
    record {
      xs = c.0;
      read = c.1;
      number = sym c.2;
      whole = l.2 ∙ ap (λ (n : ℕ). size_bytes n ++ l.0.1) number ∙ ap (λ (x : Bytes). size_bytes (length c.0) ++ x) many.is ∙ sym (append_assoc (size_bytes (length c.0)) (flat_map text c.0) rest);
      parts_are = ap (λ (p : ℕ × Bytes). p.1) (sym same) ∙ many.is;
      each = many.each;
      fits = many.fits;
    }

-- ---- both

-- the inputs and the outputs at the front of bytes, cut out of them
pub record SidesRead (bytes middle rest inputs outputs : Bytes) (input_count output_count : ℕ) : Type 0 where
  pub inside : length rest ≤ length bytes
  pub inputs_inside : length middle ≤ length inputs
  pub outputs_inside : length rest ≤ length outputs
  pub sides : (text : Bytes) (input_bytes : Bytes) (output_bytes : Bytes) → text ≡ take (length bytes - length rest) bytes → input_bytes
      ≡ take (length inputs - length middle) inputs → output_bytes ≡ take (length outputs - length rest) outputs
      → AreSides text input_bytes output_bytes input_count output_count × (first_sides bytes ≡ Some ((inputs_in input_bytes, outputs_in output_bytes), rest))

pub sides_read : (bytes middle rest inputs outputs : Bytes) (input_count output_count input_size output_size : ℕ) → length bytes < 2 ^ 64 → IsBytes bytes
    → counted_part (first_list first_input bytes) ≡ Some (input_count, middle) → counted_part (first_list first_output middle) ≡ Some (output_count, rest)
    → first_size bytes ≡ Some (input_size, inputs) → first_size middle ≡ Some (output_size, outputs) → SidesRead bytes middle rest inputs outputs input_count output_count
unfolding first_sides
sides_read bytes middle rest inputs outputs input_count output_count input_size output_size small fits i o si so =
    let ins : ListRead first_input input_text IsInput bytes input_count inputs middle =
    list_read first_input input_text IsInput input_spelled bytes input_count input_size inputs middle small fits i si in
    let shorter : length bytes ≡ length (inputs_text ins.xs) + length middle = ap length ins.whole ∙ length-append (inputs_text ins.xs) middle in
    let outs : ListRead first_output output_text IsOutput middle output_count outputs rest =
    list_read first_output output_text IsOutput output_spelled middle output_count output_size outputs rest (omega arith) ins.fits o so in
    let whole : bytes ≡ (inputs_text ins.xs ++ outputs_text outs.xs) ++ rest =
    ins.whole ∙ ap (λ (x : Bytes). inputs_text ins.xs ++ x) outs.whole ∙ sym (append_assoc (inputs_text ins.xs) (outputs_text outs.xs) rest) in
    record {
      inside = rest_inside bytes (inputs_text ins.xs ++ outputs_text outs.xs) rest whole;
      inputs_inside = rest_inside inputs (flat_map input_text ins.xs) middle ins.parts_are;
      outputs_inside = rest_inside outputs (flat_map output_text outs.xs) rest outs.parts_are;
      sides = λ text input_bytes output_bytes t ti to.
          let ti_is : input_bytes ≡ flat_map input_text ins.xs = ti ∙ before_is inputs (flat_map input_text ins.xs) middle ins.parts_are in
          let to_is : output_bytes ≡ flat_map output_text outs.xs = to ∙ before_is outputs (flat_map output_text outs.xs) rest outs.parts_are in
          let read_inputs : first_list first_input bytes ≡ Some (ins.xs, middle) = ins.read in
          let read_outputs : first_list first_output middle ≡ Some (outs.xs, rest) = outs.read in
          let ins_are : inputs_in input_bytes ≡ ins.xs = inputs_back input_bytes ins.xs ti_is ins.each in
          let outs_are : outputs_in output_bytes ≡ outs.xs = outputs_back output_bytes outs.xs to_is outs.each in (
            record {
              inputs = record { inputs = ins.xs; text = ti_is; each = ins.each };
              outputs = record { outputs = outs.xs; text = to_is; each = outs.each };
              whole = t ∙ before_is bytes (inputs_text ins.xs ++ outputs_text outs.xs) rest whole;
              input_number = ins.number;
              output_number = outs.number;
            },
            rw (read_inputs, read_outputs, ins_are, outs_are) refl,
          );
    }

-- ---- where a list isn't whole

pub no_inputs : (bytes : Bytes) → counted_part (first_list first_input bytes) ≡ None → first_sides bytes ≡ None
unfolding first_sides
no_inputs bytes e = let none : first_list first_input bytes ≡ None = counted_none (first_list first_input bytes) e in rw none refl

pub no_outputs : (bytes middle : Bytes) (count : ℕ) → counted_part (first_list first_input bytes) ≡ Some (count, middle)
    → counted_part (first_list first_output middle) ≡ None → first_sides bytes ≡ None
unfolding first_sides
no_outputs bytes middle count i e =
    let ins = counted_some (first_list first_input bytes) count middle i in
    let read : first_list first_input bytes ≡ Some (ins.0, middle) = ins.1 in
    let none : first_list first_output middle ≡ None = counted_none (first_list first_output middle) e in
    rw (read, none) refl

-- a list whose number can't be read isn't there
pub no_size : {A : Type 0} (first : Bytes → Part A) (bytes : Bytes) (count : ℕ) (rest : Bytes) → counted_part (first_list first bytes) ≡ Some (count, rest) → first_size bytes ≡ None → ⊥
unfolding first_list
no_size first bytes count rest i e =
    let none : counted_part (first_list first bytes) ≡ None = rw e refl in absurd cc

-- ---- what the fields are

pub inputs_are : (bytes : Bytes) → (h : AreInputs bytes) → bytes ≡ flat_map input_text (inputs_in bytes)
inputs_are bytes h = h.text ∙ ap (flat_map input_text) (sym (inputs_back bytes h.inputs h.text h.each))

pub outputs_are : (bytes : Bytes) → (h : AreOutputs bytes) → bytes ≡ flat_map output_text (outputs_in bytes)
outputs_are bytes h = h.text ∙ ap (flat_map output_text) (sym (outputs_back bytes h.outputs h.text h.each))

pub whole_is : (text input_bytes output_bytes : Bytes) (n m : ℕ) → AreSides text input_bytes output_bytes n m → text ≡ inputs_text (inputs_in input_bytes) ++ outputs_text (outputs_in output_bytes)
whole_is text input_bytes output_bytes n m h =
    h.whole ∙ ap (λ (xs : List TransactionInput). inputs_text xs ++ outputs_text h.outputs.outputs) (sym (inputs_back input_bytes h.inputs.inputs h.inputs.text h.inputs.each))
    ∙ ap (λ (xs : List TransactionOutput). inputs_text (inputs_in input_bytes) ++ outputs_text xs) (sym (outputs_back output_bytes h.outputs.outputs h.outputs.text h.outputs.each))

pub input_number : (text input_bytes output_bytes : Bytes) (n m : ℕ) → AreSides text input_bytes output_bytes n m → n ≡ length (inputs_in input_bytes)
input_number text input_bytes output_bytes n m h = h.input_number ∙ ap length (sym (inputs_back input_bytes h.inputs.inputs h.inputs.text h.inputs.each))

pub output_number : (text input_bytes output_bytes : Bytes) (n m : ℕ) → AreSides text input_bytes output_bytes n m → m ≡ length (outputs_in output_bytes)
output_number text input_bytes output_bytes n m h = h.output_number ∙ ap length (sym (outputs_back output_bytes h.outputs.outputs h.outputs.text h.outputs.each))
