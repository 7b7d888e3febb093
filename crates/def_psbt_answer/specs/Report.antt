-- The reports, as functions of the inputs of a PSBT.
use Rattle.std.specs.Prelude.{Bool, List, [], ◌++◌, map, flat_map, if◌then◌else◌, Option, Some, None}
use Rattle.base64.specs.Engines.{standard}
use Rattle.base64.specs.GeneralPurpose.{encode_of}
use Rattle.def_script.specs.Bytes.{Bytes}
use Rattle.def_script.specs.Witness.{weight}
use Rattle.def_tree.specs.Tree.{Tree}
use Rattle.def_assets.specs.Assets.{Assets}
use Rattle.def_policy.specs.Print.{printed as printed_policy}
use Rattle.def_plan.specs.Plan.{Plan}
use Rattle.def_curve.specs.declared.Judgement.{Judgement}
use Rattle.def_psbt.specs.Transaction.{Transaction}
use Rattle.def_psbt.specs.Map.{Psbt, psbt_text}
use Rattle.def_spend.specs.declared.State.{State}
use Rattle.def_spend.specs.declared.State.TheVariants as state
use Rattle.def_spend.specs.declared.Verification.{Verification}
use Rattle.def_spend.specs.declared.Verification.TheVariants.{Verified, Unverified}
use Rattle.def_spend.specs.Fields.{signatures_in, last_byte, asked_type}
use Rattle.def_spend.specs.Amount.{Amount}
use Rattle.def_spend.specs.Utxo.{utxo_of, amount_of}
use Rattle.def_spend.specs.declared.Kind.{Kind}
use Rattle.def_spend.specs.Hashes.{hash_by}
use Rattle.def_spend.specs.Input.{Spend}
use Rattle.def_spend.specs.Good.{word_of, assets_of}
use Rattle.def_spend.specs.Kinds.{kind_of}
use Rattle.def_spend.specs.Reading.{Input}
use Rattle.def_spend.specs.States.{state_of, is_read, is_sane, is_final, stack_of}
use Rattle.def_spend.specs.Asking.{plan_with, unsigned_keys}
use Rattle.def_spend.specs.Finalized.{finalized, final_id}
use Rattle.def_answer.specs.Lines.{line}
use Rattle.def_answer.specs.Decode.{decode_report}
use Rattle.def_answer.specs.Policy.{policy_of}
use Rattle.def_answer.specs.Plan.{ask_line, weight_line as most_weight_line}
use Rattle.def_psbt_answer.specs.declared.words.Form.{Form}
use Rattle.def_psbt_answer.specs.declared.words.Form.TheVariants as form
use Rattle.def_psbt_answer.specs.Lines.{psbt_line, final_id_line, output_lines, input_line, outpoint_line, amount_line, unchecked_line, kind_line, signature_line, policy_line, weight_line, no_plan_line, sign_line, check_line}
use Rattle.def_psbt_answer.specs.Fee.{fee_line}

-- ---- how signatures are judged

-- where they are verified
abbrev pub word_by : Verification → Spend → (pair : Bytes × Bytes) → Option Judgement
word_by Verified spend pair = Some (word_of spend pair)
word_by Unverified spend pair = None

-- where besides it is known what they sign
abbrev pub told_word : (is_known : Bool) → Spend → (pair : Bytes × Bytes) → Option Judgement
told_word is_known spend pair = if is_known then word_by spend.verification spend pair else None

-- ---- inspect

abbrev pub amount_in : Spend → Amount
amount_in spend = amount_of (utxo_of spend.input.outpoint spend.fields)

-- the keys of a plan that have no signature, and what it weighs
abbrev pub plan_lines : Assets → Option Plan → Bytes
plan_lines assets None = no_plan_line
plan_lines assets (Some plan) = flat_map ask_line (unsigned_keys assets plan.keys) ++ most_weight_line plan.weight

-- what is lacking, or what the satisfaction weighs
abbrev pub last_lines : State → Tree → Spend → (stack : List Bytes) → Bytes
last_lines state.Ready tree spend stack = weight_line (weight stack)
last_lines state.Unsatisfied tree spend stack = plan_lines (assets_of spend) (plan_with tree (assets_of spend))
last_lines other tree spend stack = []

-- what is told of the miniscript, as far as the state goes
abbrev pub tree_lines : State → Option Tree → Spend → (stack : List Bytes) → Bytes
tree_lines state None spend stack = []
tree_lines state (Some tree) spend stack =
    (if is_read state then decode_report tree else [])
    ++ (if is_sane state then policy_line (printed_policy (policy_of tree)) else [])
    ++ last_lines state tree spend stack

-- the kind of the spent output, where that is known
abbrev pub kind_lines : State → Kind → Bytes
kind_lines state.NoUtxo kind = []
kind_lines state.WrongUtxo kind = []
kind_lines other kind = kind_line kind

-- the signatures, each with its word in the states from WrongSighash on: in earlier ones no hash is known
abbrev pub signature_lines : State → Spend → Bytes
signature_lines state spend =
    flat_map (λ pair. signature_line pair (told_word (is_sane state) spend pair)) (signatures_in spend.fields)

-- nothing more is told of an input that is Final: nobody says that it is valid
abbrev pub open_lines : Input → Bytes
open_lines input =
    if is_final (state_of input) then unchecked_line
    else kind_lines (state_of input) (kind_of input.spend)
    ++ signature_lines (state_of input) input.spend
    ++ tree_lines (state_of input) input.tree input.spend (stack_of input)

abbrev pub input_report : Input → Bytes
input_report input =
    input_line input.spend.number (state_of input)
    ++ outpoint_line input.spend.input
    ++ amount_line (amount_in input.spend)
    ++ open_lines input

unfoldable pub inspect_report : Transaction → List Input → Bytes
inspect_report transaction inputs =
    psbt_line transaction
    ++ final_id_line (final_id transaction (map (λ input. input.spend) inputs))
    ++ output_lines 0 transaction.outputs
    ++ fee_line (map (λ input. amount_in input.spend) inputs) transaction.outputs
    ++ flat_map input_report inputs

-- ---- hashes

-- what a signature that is there has to sign, by its own type, and how it is judged
abbrev pub checked_line : Spend → Bytes × Bytes → Bytes
checked_line spend pair = check_line pair (hash_by (last_byte pair.1) spend) (word_by spend.verification spend pair)

-- what a signature of the asked type signs, and what those that are there have to sign
abbrev pub hash_lines : Spend → Bytes
hash_lines spend =
    sign_line (asked_type spend.fields) (hash_by (asked_type spend.fields) spend)
    ++ flat_map (checked_line spend) (signatures_in spend.fields)

abbrev pub input_hashes : Input → Bytes
input_hashes input =
    input_line input.spend.number (state_of input)
    ++ (if is_sane (state_of input) then hash_lines input.spend else [])

unfoldable pub hashes_report : List Input → Bytes
hashes_report inputs = flat_map input_hashes inputs

-- ---- finalize

-- a PSBT in a form: base64 in one line
abbrev pub in_form : Form → (psbt : Bytes) → Bytes
in_form form.Bytes psbt = psbt
in_form form.Base64 psbt = line (encode_of standard psbt)

-- the bytes of the finalised PSBT
abbrev pub finalized_text : Psbt → List Input → Bytes
finalized_text psbt inputs =
    let final = finalized psbt inputs in
    psbt_text final.global final.inputs final.outputs

unfoldable pub finalize_report : Form → Psbt → List Input → Bytes
finalize_report form psbt inputs = in_form form (finalized_text psbt inputs)
