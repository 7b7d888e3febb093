-- The outputs beside the inputs.
use Rattle.std.proofs.Common.{◌≡◌, ℕ, ◌+◌, List, drop, slice_get, Option, ap, subst, ◌∙◌}
use Rattle.std.specs.Borrow.{Bor}
use Rattle.std.proofs.lemmas.List.{drop-drop}
use Rattle.def_script.specs.Bytes.{Bytes}
use Rattle.def_psbt.specs.Transaction.{TransactionOutput}
use Rattle.ms_sighash.specs.Shared.{IsOutputText}
use Rattle.ms_psbt_report.proofs.Lists.{first_left}

-- the first output that is left has the input's number
pub output_here : (outputs left : List TransactionOutput) (number : ℕ) (text : Option (Bor Bytes)) → left ≡ drop number outputs
    → IsOutputText (slice_get left 0) text → IsOutputText (slice_get outputs number) text
output_here outputs left number text walked is =
    subst (λ (o : Option TransactionOutput). IsOutputText o text) (ap (λ (os : List TransactionOutput). slice_get os 0) walked ∙ first_left outputs number) is

pub outputs_left : (outputs left after : List TransactionOutput) (number : ℕ) → left ≡ drop number outputs → after ≡ drop 1 left → after ≡ drop (number + 1) outputs
outputs_left outputs left after number walked rest =
    rest ∙ ap (λ (os : List TransactionOutput). drop 1 os) walked ∙ drop-drop 1 number outputs
