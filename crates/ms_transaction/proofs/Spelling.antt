-- Inputs and outputs: what is read was written so, and is read back.
use Rattle.std.proofs.Common.{◌≡◌, ℕ, zero, suc, ◌+◌, ◌-◌, ◌^◌, ◌<◌, ◌≤◌, List, [], ◌∷◌, ◌++◌, length, length-append, take, Some, None, refl, sym, ap, subst, ◌∙◌, append_assoc, arith}
use Rattle.std.proofs.lemmas.List.Concat.{flat_map-cons}
use Rattle.std.specs.Int.{w32, w64, to_le_bytes, from_le_bytes}
use Rattle.std.specs.List.{flat_map, AllByRecursion}
use Rattle.def_script.specs.Bytes.{Bytes, IsBytes}
use Rattle.def_script.specs.Witness.{sized}
use Rattle.def_psbt.specs.Part.{◌>>=◌, first_bytes, first_number, first_string}
use Rattle.def_psbt.specs.Transaction.{Outpoint, TransactionInput, TransactionOutput, outpoint_text, input_text, output_text}
use Rattle.def_psbt.specs.TransactionReading.{first_outpoint, first_input, first_output}
use Rattle.ms_psbt.specs.Pairs.{parts_in}
use Rattle.ms_psbt.proofs.Pairing.{string_back}
use Rattle.ms_transaction.specs.Parts.{inputs_in, outputs_in}
use Rattle.ms_transaction.specs.Scaffolding.Spelled.{IsInput, IsOutput, AreOutputs}
use Rattle.ms_transaction.proofs.Fronts.{bind_some, some_is, rest_inside, before_is, Reads, ReadsBack, SpellsShort, bytes_spelled, bytes_back, u32_spelled, u64_spelled, u32_back, u64_back, string_spelled, all_back}

-- ---- outputs

pub output_spelled : SpellsShort first_output output_text IsOutput
unfolding first_output
output_spelled bytes part small fits e =
    let a = bind_some (first_number w64 bytes) (λ amount. first_string amount.1 >>= λ script. Some (record { amount = amount.0; script = script.0 }, script.1)) part e in
    let s = bind_some (first_string a.0.1) (λ script. Some (record { amount = a.0.0; script = script.0 }, script.1)) part a.2 in
    let amount = u64_spelled bytes a.0 fits a.1 in
    let fewer : length bytes ≡ length (to_le_bytes w64 a.0.0) + length a.0.1 = ap length amount.is ∙ length-append (to_le_bytes w64 a.0.0) a.0.1 in
    let script = string_spelled a.0.1 s.0 (omega arith) amount.fits s.1 in
    let made : TransactionOutput × Bytes = (record { amount = a.0.0; script = s.0.0 }, s.0.1) in
    subst (λ (p : TransactionOutput × Bytes). Reads output_text IsOutput bytes p) (some_is made part s.2)
    (record {
      is = amount.is ∙ ap (λ (x : Bytes). to_le_bytes w64 a.0.0 ++ x) script.is ∙ sym (append_assoc (to_le_bytes w64 a.0.0) (sized s.0.0) s.0.1);
      good_part = record { amount = amount.good_part; script = script.good_part };
      fits = script.fits;
    })

-- the bytes of an output, by its amount and its Script
output_front : (bytes : Bytes) (amount : ℕ) (middle script rest : Bytes) → length bytes < 2 ^ 64 → IsBytes bytes → first_number w64 bytes
    ≡ Some (amount, middle) → first_string middle ≡ Some (script, rest)
    → bytes ≡ output_text (record { amount = amount; script = script }) ++ rest
unfolding first_output
output_front bytes amount middle script rest small fits a s =
    let made : TransactionOutput = record { amount = amount; script = script } in
    let read : first_output bytes ≡ Some (record { amount = amount; script = script }, rest) = rw (a, s) refl in
    (output_spelled bytes (made, rest) small fits read).is

pub output_cut : (bytes : Bytes) (amount : ℕ) (middle script rest : Bytes) → length bytes < 2 ^ 64 → IsBytes bytes → first_number w64 bytes
    ≡ Some (amount, middle) → first_string middle ≡ Some (script, rest)
    → (length rest ≤ length bytes) × (take (length bytes - length rest) bytes ≡ output_text (record { amount = amount; script = script }))
output_cut bytes amount middle script rest small fits a s =
    let front = output_front bytes amount middle script rest small fits a s in
    (rest_inside bytes (output_text (record { amount = amount; script = script })) rest front, before_is bytes (output_text (record { amount = amount; script = script })) rest front)

pub output_back : ReadsBack first_output output_text IsOutput
unfolding first_output
output_back output rest h =
    let amount : first_number w64 (to_le_bytes w64 output.amount ++ (sized output.script ++ rest)) ≡ Some (output.amount, sized output.script ++ rest) =
    u64_back output.amount (sized output.script ++ rest) h.amount in
    let script : first_string (sized output.script ++ rest) ≡ Some (output.script, rest) = string_back output.script rest h.script in
    rw (append_assoc (to_le_bytes w64 output.amount) (sized output.script) rest, amount, script) refl

no_output : first_output [] ≡ None
unfolding first_output first_number first_bytes
no_output = refl

output_some : (output : TransactionOutput) → 1 ≤ length (output_text output)
output_some output = omega (arith, length-append (to_le_bytes w64 output.amount) (sized output.script))

pub outputs_back : (bytes : Bytes) (outputs : List TransactionOutput) → bytes ≡ flat_map output_text outputs → AllByRecursion IsOutput outputs → outputs_in bytes ≡ outputs
outputs_back bytes outputs e all = all_back first_output output_text IsOutput output_back no_output output_some bytes outputs e all

-- what the next output leaves
pub next_output : (bytes : Bytes) (output : TransactionOutput) (rest : Bytes) → AreOutputs bytes → first_output bytes ≡ Some (output, rest)
    → (outputs_in bytes ≡ output ∷ outputs_in rest) × AreOutputs rest
next_output bytes output rest h e = go h.outputs h.text h.each
  where
    go : (outputs : List TransactionOutput) → bytes ≡ flat_map output_text outputs → AllByRecursion IsOutput outputs → (outputs_in bytes ≡ output ∷ outputs_in rest) × AreOutputs rest
    go [] text all = let none = ap first_output text ∙ no_output in absurd cc
    go (first ∷ outputs) text all =
        let read : first_output bytes ≡ Some (first, flat_map output_text outputs) = ap first_output (text ∙ flat_map-cons output_text first outputs)
        ∙ output_back first (flat_map output_text outputs) all.0 in
        let both : (output, rest) ≡ (first, flat_map output_text outputs) = some_is (output, rest) (first, flat_map output_text outputs) (sym e ∙ read) in
        let same : output ≡ first = ap (λ (p : TransactionOutput × Bytes). p.0) both in
        let behind : rest ≡ flat_map output_text outputs = ap (λ (p : TransactionOutput × Bytes). p.1) both in (
          outputs_back bytes (first ∷ outputs) text all ∙ ap (λ (o : TransactionOutput). o ∷ outputs) (sym same)
              ∙ ap (λ (os : List TransactionOutput). output ∷ os) (sym (outputs_back rest outputs behind all.1)),
          record { outputs = outputs; text = behind; each = all.1 },
        )

pub no_more : (bytes : Bytes) → first_output bytes ≡ None → outputs_in bytes ≡ []
unfolding parts_in
no_more bytes e = go (length bytes)
  where
    go : (room : ℕ) → parts_in first_output room bytes ≡ []
    go zero = refl
    go (suc room) = rw e refl

-- ---- inputs

outpoint_spelled : (bytes : Bytes) (part : Outpoint × Bytes) → IsBytes bytes → first_outpoint bytes ≡ Some part
    → (bytes ≡ outpoint_text part.0 ++ part.1) × (length part.0.id ≡ 32) × (from_le_bytes w32 (to_le_bytes w32 part.0.index) ≡ part.0.index) × IsBytes part.1
unfolding first_outpoint
outpoint_spelled bytes part fits e =
    let d = bind_some (first_bytes 32 bytes) (λ id. first_number w32 id.1 >>= λ index. Some (record { id = id.0; index = index.0 }, index.1)) part e in
    let n = bind_some (first_number w32 d.0.1) (λ index. Some (record { id = d.0.0; index = index.0 }, index.1)) part d.2 in
    let id = bytes_spelled 32 bytes d.0 fits d.1 in
    let index = u32_spelled d.0.1 n.0 id.fits n.1 in
    let made : Outpoint × Bytes = (record { id = d.0.0; index = n.0.0 }, n.0.1) in
    subst (λ (p : Outpoint × Bytes). (bytes ≡ outpoint_text p.0 ++ p.1) × (length p.0.id ≡ 32) × (from_le_bytes w32 (to_le_bytes w32 p.0.index) ≡ p.0.index) × IsBytes p.1) (some_is made part n.2)
    (id.is ∙ ap (λ (x : Bytes). d.0.0 ++ x) index.is ∙ sym (append_assoc d.0.0 (to_le_bytes w32 n.0.0) n.0.1), id.good_part, index.good_part, index.fits)

pub input_spelled : SpellsShort first_input input_text IsInput
unfolding first_input
input_spelled bytes part small fits e =
    let o = bind_some (first_outpoint bytes) (λ outpoint. first_string outpoint.1 >>= λ script_sig. first_number w32 script_sig.1 >>= λ sequence. Some
    (record { outpoint = outpoint.0; script_sig = script_sig.0; sequence = sequence.0 }, sequence.1)) part e in
    let s = bind_some (first_string o.0.1) (λ script_sig. first_number w32 script_sig.1 >>= λ sequence. Some
    (record { outpoint = o.0.0; script_sig = script_sig.0; sequence = sequence.0 }, sequence.1)) part o.2 in
    let n = bind_some (first_number w32 s.0.1) (λ sequence. Some (record { outpoint = o.0.0; script_sig = s.0.0; sequence = sequence.0 }, sequence.1)) part s.2 in
    let outpoint = outpoint_spelled bytes o.0 fits o.1 in
    let fewer : length bytes ≡ length (outpoint_text o.0.0) + length o.0.1 = ap length outpoint.0 ∙ length-append (outpoint_text o.0.0) o.0.1 in
    let script_sig = string_spelled o.0.1 s.0 (omega arith) outpoint.3 s.1 in
    let sequence = u32_spelled s.0.1 n.0 script_sig.fits n.1 in
    let made : TransactionInput × Bytes = (record { outpoint = o.0.0; script_sig = s.0.0; sequence = n.0.0 }, n.0.1) in
    let behind : o.0.1 ≡ (sized s.0.0 ++ to_le_bytes w32 n.0.0) ++ n.0.1 =
    script_sig.is ∙ ap (λ (x : Bytes). sized s.0.0 ++ x) sequence.is ∙ sym (append_assoc (sized s.0.0) (to_le_bytes w32 n.0.0) n.0.1) in
    subst (λ (p : TransactionInput × Bytes). Reads input_text IsInput bytes p) (some_is made part n.2)
    (record {
      is = outpoint.0 ∙ ap (λ (x : Bytes). outpoint_text o.0.0 ++ x) behind ∙ sym (append_assoc (outpoint_text o.0.0) (sized s.0.0 ++ to_le_bytes w32 n.0.0) n.0.1);
      good_part = record { id = outpoint.1; index = outpoint.2; script_sig = script_sig.good_part; sequence = sequence.good_part };
      fits = sequence.fits;
    })

outpoint_back : (outpoint : Outpoint) (rest : Bytes) → length outpoint.id ≡ 32 → from_le_bytes w32 (to_le_bytes w32 outpoint.index) ≡ outpoint.index
    → first_outpoint (outpoint_text outpoint ++ rest) ≡ Some (outpoint, rest)
unfolding first_outpoint
outpoint_back outpoint rest long index_is =
    let id : first_bytes 32 (outpoint.id ++ (to_le_bytes w32 outpoint.index ++ rest)) ≡ Some (outpoint.id, to_le_bytes w32 outpoint.index ++ rest) =
    ap (λ (n : ℕ). first_bytes n (outpoint.id ++ (to_le_bytes w32 outpoint.index ++ rest))) (sym long) ∙ bytes_back outpoint.id (to_le_bytes w32 outpoint.index ++ rest) in
    let index : first_number w32 (to_le_bytes w32 outpoint.index ++ rest) ≡ Some (outpoint.index, rest) = u32_back outpoint.index rest index_is in
    rw (append_assoc outpoint.id (to_le_bytes w32 outpoint.index) rest, id, index) refl

pub input_back : ReadsBack first_input input_text IsInput
unfolding first_input
input_back input rest h =
    let assoc : input_text input ++ rest ≡ outpoint_text input.outpoint ++ (sized input.script_sig ++ (to_le_bytes w32 input.sequence ++ rest)) =
    append_assoc (outpoint_text input.outpoint) (sized input.script_sig ++ to_le_bytes w32 input.sequence) rest
    ∙ ap (λ (x : Bytes). outpoint_text input.outpoint ++ x) (append_assoc (sized input.script_sig) (to_le_bytes w32 input.sequence) rest) in
    let outpoint : first_outpoint (outpoint_text input.outpoint ++ (sized input.script_sig ++ (to_le_bytes w32 input.sequence ++ rest)))
    ≡ Some (input.outpoint, sized input.script_sig ++ (to_le_bytes w32 input.sequence ++ rest)) =
    outpoint_back input.outpoint (sized input.script_sig ++ (to_le_bytes w32 input.sequence ++ rest)) h.id h.index in
    let script_sig : first_string (sized input.script_sig ++ (to_le_bytes w32 input.sequence ++ rest))
    ≡ Some (input.script_sig, to_le_bytes w32 input.sequence ++ rest) = string_back input.script_sig (to_le_bytes w32 input.sequence ++ rest) h.script_sig
    in
    let sequence : first_number w32 (to_le_bytes w32 input.sequence ++ rest) ≡ Some (input.sequence, rest) = u32_back input.sequence rest h.sequence in
    subst (λ (b : Bytes). first_input b ≡ Some (input, rest)) (sym assoc) (rw (outpoint, script_sig, sequence) refl)

no_input : first_input [] ≡ None
unfolding first_input first_outpoint first_bytes
no_input = refl

input_some : (input : TransactionInput) → 1 ≤ length (input_text input)
input_some input =
    let long : length (input_text input) ≡ length (outpoint_text input.outpoint) + length (sized input.script_sig ++ to_le_bytes w32 input.sequence) =
    length-append (outpoint_text input.outpoint) (sized input.script_sig ++ to_le_bytes w32 input.sequence) in
    let more : length (outpoint_text input.outpoint) ≡ length input.outpoint.id + 4 = length-append input.outpoint.id (to_le_bytes w32 input.outpoint.index) in
    omega arith

pub inputs_back : (bytes : Bytes) (inputs : List TransactionInput) → bytes ≡ flat_map input_text inputs → AllByRecursion IsInput inputs → inputs_in bytes ≡ inputs
inputs_back bytes inputs e all = all_back first_input input_text IsInput input_back no_input input_some bytes inputs e all
