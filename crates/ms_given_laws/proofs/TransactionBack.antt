-- A transaction that was written is read back.
use Rattle.std.proofs.Common.{◌≡◌, ℕ, List, [], ◌++◌, Some, ap, ◌∙◌}
use Rattle.std.specs.Int.{w32, to_le_bytes}
use Rattle.std.proofs.lemmas.List.Elements.{recursion_from_All}
use Rattle.def_psbt.specs.Transaction.{TransactionInput, TransactionOutput, Transaction, inputs_text, outputs_text, transaction_text}
use Rattle.def_psbt.specs.Part.{Part, ◌>>=◌, first_number, whole}
use Rattle.def_psbt.specs.TransactionReading.{first_sides, transaction_of}
use Rattle.ms_given_laws.specs.Given.{IsInput, IsOutput, IsTransaction}
use Rattle.ms_given_laws.proofs.PartsBack.{number_32_back, sides_back}

pub transaction_back : (t : Transaction) → IsTransaction t → transaction_of (transaction_text t) ≡ Some t
unfolding transaction_of whole
transaction_back t s =
    let version = number_32_back t.version (inputs_text t.inputs ++ (outputs_text t.outputs ++ to_le_bytes w32 t.lock_time)) s.version in
    let sides = sides_back t (to_le_bytes w32 t.lock_time) s.few_inputs (recursion_from_All IsInput t.inputs s.inputs) s.few_outputs (recursion_from_All IsOutput t.outputs s.outputs) in
    let lock_time = number_32_back t.lock_time [] s.lock_time in
    ap (λ (o : Part ℕ). o >>= λ version. first_sides version.1 >>= λ sides. first_number w32 sides.1 >>= λ lock_time.
    whole (Some (record { version = version.0; inputs = sides.0.0; outputs = sides.0.1; lock_time = lock_time.0 }, lock_time.1))) version
    ∙ ap (λ (o : Part (List TransactionInput × List TransactionOutput)). o >>= λ sides. first_number w32 sides.1 >>= λ lock_time.
    whole (Some (record { version = t.version; inputs = sides.0.0; outputs = sides.0.1; lock_time = lock_time.0 }, lock_time.1))) sides
    ∙ ap (λ (o : Part ℕ). o >>= λ lock_time.
    whole (Some (record { version = t.version; inputs = t.inputs; outputs = t.outputs; lock_time = lock_time.0 }, lock_time.1))) lock_time
