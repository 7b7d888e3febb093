-- The lines of refusals, and those of the transaction and of an input. Numbers are printed in decimal, bytes as
-- lower-case digits, an empty string as `-`, and ids of transactions in reverse order, as users know them.
use Rattle.std.specs.Prelude.{ℕ, ◌+◌, ◌==◌, List, [], ◌∷◌, ◌++◌, length, reverse, codes, decimal, if◌then◌else◌, Option, Some, None, unwrap_or}
use Rattle.hex.specs.Hex.{encode_lower}
use Rattle.def_script.specs.Bytes.{Bytes}
use Rattle.def_curve.specs.declared.Judgement.{Judgement}
use Rattle.def_psbt.specs.declared.Refusal.{Refusal}
use Rattle.def_psbt.specs.declared.Refusal.TheVariants as refusal
use Rattle.def_combine.specs.declared.CombineRefusal.{CombineRefusal}
use Rattle.def_combine.specs.declared.CombineRefusal.TheVariants as unjoined
use Rattle.def_combine.specs.declared.LineFault.{LineFault}
use Rattle.def_combine.specs.declared.LineFault.TheVariants as fault
use Rattle.def_psbt.specs.Transaction.{TransactionInput, TransactionOutput, Transaction, id_of}
use Rattle.def_spend.specs.declared.Kind.{Kind}
use Rattle.def_spend.specs.declared.State.{State}
use Rattle.def_spend.specs.Fields.{last_byte}
use Rattle.def_spend.specs.Amount.{Amount}
use Rattle.def_spend.specs.Amount as amount
use Rattle.def_answer.specs.Lines.{line}
use Rattle.def_answer.specs.Satisfy.{item_digits}
use Rattle.def_psbt_answer.specs.Names.{fault_name, kind_name, state_name, judgement_name}

-- ---- refusals

abbrev pub refusal_name : Refusal → Bytes
refusal_name refusal.TooLong = codes "TooLong"
refusal_name refusal.NotBase64 = codes "NotBase64"
refusal_name refusal.Magic = codes "Magic"
refusal_name (refusal.At fault at) = fault_name fault ++ codes " at " ++ decimal at

abbrev pub refusal_line : Refusal → Bytes
refusal_line refusal = line (codes "refused psbt " ++ refusal_name refusal)

-- why the PSBT of a line of `combine` is refused
abbrev pub line_fault_name : LineFault → Bytes
line_fault_name (fault.Psbt refusal) = refusal_name refusal
line_fault_name fault.OtherVersion = codes "OtherVersion"
line_fault_name fault.OtherTransaction = codes "OtherTransaction"

-- why nothing is combined
abbrev pub combine_refusal_line : CombineRefusal → Bytes
combine_refusal_line unjoined.TooLong = refusal_line refusal.TooLong
combine_refusal_line unjoined.NoPsbt = line (codes "refused psbt NoPsbt")
combine_refusal_line (unjoined.Line number fault) = line (codes "refused line " ++ decimal number ++ codes " " ++ line_fault_name fault)
combine_refusal_line unjoined.OtherTransaction = line (codes "refused psbt OtherTransaction")

abbrev pub not_final_line : (number : ℕ) → Bytes
not_final_line number = line (codes "not final " ++ decimal number)

-- ---- the transaction

abbrev pub id_digits : (id : Bytes) → Bytes
id_digits id = encode_lower (reverse id)

abbrev pub psbt_line : Transaction → Bytes
psbt_line transaction =
    line (codes "psbt inputs " ++ decimal (length transaction.inputs) ++ codes " outputs " ++ decimal (length transaction.outputs)
    ++ codes " version " ++ decimal transaction.version ++ codes " locktime " ++ decimal transaction.lock_time
    ++ codes " txid " ++ id_digits (id_of transaction))

-- the id with all final scriptSigs, where each is known and one has a byte: else nothing is told
abbrev pub final_id_line : Option Bytes → Bytes
final_id_line None = []
final_id_line (Some id) = line (codes "final txid " ++ id_digits id)

abbrev pub output_line : (number : ℕ) → TransactionOutput → Bytes
output_line number output =
    line (codes "output " ++ decimal number ++ codes " " ++ decimal output.amount ++ codes " " ++ item_digits output.script)

-- the outputs from a number on
abbrev pub output_lines : (number : ℕ) → List TransactionOutput → Bytes
output_lines number [] = []
output_lines number (output ∷ outputs) = output_line number output ++ output_lines (number + 1) outputs

-- ---- an input

abbrev pub input_line : (number : ℕ) → State → Bytes
input_line number state = line (codes "input " ++ decimal number ++ codes " " ++ state_name state)

abbrev pub outpoint_line : TransactionInput → Bytes
outpoint_line input =
    line (codes "outpoint " ++ id_digits input.outpoint.id ++ codes " " ++ decimal input.outpoint.index
    ++ codes " sequence " ++ decimal input.sequence)

abbrev pub amount_line : Amount → Bytes
amount_line amount.unknown = line (codes "amount unknown")
amount_line (amount.proved satoshis) = line (codes "amount " ++ decimal satoshis ++ codes " proved")
amount_line (amount.claimed satoshis) = line (codes "amount " ++ decimal satoshis ++ codes " claimed")

abbrev pub unchecked_line : Bytes
unchecked_line = line (codes "unchecked")

abbrev pub kind_line : Kind → Bytes
kind_line kind = line (codes "kind " ++ kind_name kind)

-- how a signature is judged, where that is told
abbrev pub judged_text : Option Judgement → Bytes
judged_text None = []
judged_text (Some judgement) = codes " " ++ judgement_name judgement

-- a key with its signature: the number of the signature's hash type
abbrev pub signature_line : Bytes × Bytes → Option Judgement → Bytes
signature_line pair judgement =
    line (codes "signature " ++ encode_lower pair.0 ++ codes " " ++ decimal (last_byte pair.1) ++ judged_text judgement)

abbrev pub policy_line : (policy : Bytes) → Bytes
policy_line policy = line (codes "policy " ++ policy)

abbrev pub weight_line : (weight : ℕ) → Bytes
weight_line weight = line (codes "weight " ++ decimal weight)

abbrev pub no_plan_line : Bytes
no_plan_line = line (codes "no plan")

-- ---- hashes

-- a hash, where there is one
abbrev pub hash_digits : Option Bytes → Bytes
hash_digits hash = item_digits (unwrap_or hash [])

-- what a signature of the asked type signs: of ALL, or of another type
abbrev pub sign_line : (type : ℕ) → (hash : Option Bytes) → Bytes
sign_line type hash =
    if type == 1 then line (codes "sign 1 " ++ hash_digits hash)
    else line (codes "sign-other " ++ decimal type ++ codes " " ++ hash_digits hash)

-- what a signature that is there has to sign
abbrev pub check_line : Bytes × Bytes → (hash : Option Bytes) → Option Judgement → Bytes
check_line pair hash judgement =
    line (codes "check " ++ encode_lower pair.0 ++ codes " " ++ encode_lower pair.1 ++ codes " " ++ hash_digits hash ++ judged_text judgement)
