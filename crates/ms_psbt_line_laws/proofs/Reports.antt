-- The characters of lines of reports on PSBTs.
use Rattle.std.proofs.Common.{ℕ, suc, ◌≡◌, ◌<◌, ◌+◌, ◌-◌, ◌==◌, nat_lt, not, Bool, true, false, List, [], ◌∷◌, ◌++◌, length, map, reverse, Option, Some, None, refl, cond, if◌then◌else◌}
use Rattle.std.specs.Prelude.{codes, decimal, flat_map, filter, unwrap_or, is_some}
use Rattle.std.specs.List.{list_all}
use Rattle.hex.specs.Hex.{encode_lower}
use Rattle.def_script.specs.Bytes.{Bytes, IsBytes}
use Rattle.def_script.specs.Witness.{weight}
use Rattle.def_tree.specs.Tree.{Key, Tree}
use Rattle.def_tree.specs.Range.{IsWritable}
use Rattle.def_assets.specs.Assets.{Assets, sig_of}
use Rattle.def_sane.specs.declared.Unfit.{Unfit}
use Rattle.def_sane.specs.declared.Unfit.TheVariants as unfit
use Rattle.def_policy.specs.Print.{printed as printed_policy}
use Rattle.def_choice.specs.Strict.{strict}
use Rattle.def_plan.specs.Plan.{Plan}
use Rattle.def_plan.specs.Lengths.{estimated}
use Rattle.def_curve.specs.declared.Judgement.{Judgement}
use Rattle.def_curve.specs.declared.Judgement.TheVariants as judgement
use Rattle.def_psbt.specs.declared.PsbtFault.{PsbtFault}
use Rattle.def_psbt.specs.declared.PsbtFault.TheVariants as fault
use Rattle.def_psbt.specs.declared.Refusal.{Refusal}
use Rattle.def_psbt.specs.declared.Refusal.TheVariants as refusal
use Rattle.def_psbt.specs.Transaction.{TransactionInput, TransactionOutput, Transaction, id_of}
use Rattle.def_combine.specs.declared.LineFault.{LineFault}
use Rattle.def_combine.specs.declared.LineFault.TheVariants as line_fault
use Rattle.def_combine.specs.declared.CombineRefusal.{CombineRefusal}
use Rattle.def_combine.specs.declared.CombineRefusal.TheVariants as unjoined
use Rattle.def_spend.specs.declared.Kind.{Kind}
use Rattle.def_spend.specs.declared.Kind.TheVariants as kind
use Rattle.def_spend.specs.declared.State.{State}
use Rattle.def_spend.specs.declared.State.TheVariants as state
use Rattle.def_spend.specs.Amount.{Amount, unknown, proved, claimed}
use Rattle.def_spend.specs.Asking.{lengths_of, plan_with, unsigned_keys}
use Rattle.def_spend.specs.Fields.{last_byte, asked_type, signatures_in}
use Rattle.def_spend.specs.Finalized.{final_id}
use Rattle.def_spend.specs.Good.{assets_of}
use Rattle.def_spend.specs.Hashes.{hash_by}
use Rattle.def_spend.specs.Input.{Spend}
use Rattle.def_spend.specs.Kinds.{kind_of}
use Rattle.def_spend.specs.Reading.{Input}
use Rattle.def_spend.specs.States.{state_of, is_read, is_sane, is_final, stack_of}
use Rattle.def_verify.specs.declared.Flaw.{Flaw}
use Rattle.def_verify.specs.declared.Flaw.TheVariants as flaw
use Rattle.def_verify.specs.Check.{judged_in}
use Rattle.def_verify.specs.Verdict.{Verdict, not_final, flawed, valid, final_verdict, verdict_of, is_unknown}
use Rattle.def_answer.specs.Lines.{line, rule_name}
use Rattle.def_answer.specs.Run.{script_fault_name}
use Rattle.def_answer.specs.Satisfy.{item_digits}
use Rattle.def_answer.specs.Decode.{decode_report}
use Rattle.def_answer.specs.Policy.{policy_of}
use Rattle.def_answer.specs.Plan.{ask_line, weight_line as most_weight_line}
use Rattle.def_psbt_answer.specs.Names.{fault_name, unfit_name, state_name, kind_name}
use Rattle.def_psbt_answer.specs.Lines.{refusal_name, refusal_line, line_fault_name, combine_refusal_line, not_final_line, id_digits, psbt_line, final_id_line, output_line, output_lines, input_line, outpoint_line, amount_line, unchecked_line, judged_text, signature_line, policy_line, hash_digits, sign_line, check_line}
use Rattle.def_psbt_answer.specs.Fee.{total, is_proved, paid, fee_line_by, fee_line}
use Rattle.def_psbt_answer.specs.Report.{word_by, told_word, amount_in, plan_lines, last_lines, tree_lines, kind_lines, signature_lines, open_lines, input_report, inspect_report, checked_line, hash_lines, input_hashes, hashes_report}
use Rattle.def_psbt_answer.specs.Verified.{flaw_text, flaw_word, verdict_text, passed_line, passed_lines, verdict_lines, input_verdict, verify_report}
use Rattle.ms_print_laws.proofs.Printable.{policy_is_printable}
use Rattle.def_lines.proofs.Lists.{Every, every_turned}
use Rattle.ms_line_laws.proofs.Scripts.{no_bytes, more_bytes}
use Rattle.ms_line_laws.proofs.Plainly.{AreReported, reported, each_reported, decimal_reported, hex_reported}
use Rattle.ms_line_laws.proofs.Reported.{line_reported, worded, rule_reported, fault_reported}
use Rattle.ms_line_laws.proofs.Reports.{item_digits_reported, ask_reported, counted, one_count}
use Rattle.ms_line_laws.proofs.Printed.{decode_reported}
use Rattle.ms_line_laws.proofs.Policies.{policy_reported}
use Rattle.ms_line_laws.proofs.Commands.{plan_keys}
use Rattle.ms_psbt_line_laws.proofs.Transactions.{IsInputOfBytes, IsOutputOfBytes, IsOfBytes, IfAny, or_nothing}
use Rattle.ms_psbt_line_laws.proofs.Spends.{IsSpend, IsInput, signatures_are, id_is, hash_is, final_id_is, IsVerdict, final_verdict_is}

-- a word between two parts
joined : (front word back : Bytes) → AreReported front → AreReported word → AreReported back → AreReported (front ++ word ++ back)
joined front word back p q r = reported (front ++ word) back (reported front word p q) r

tested : (b : Bool) (x y : Bytes) → AreReported x → AreReported y → AreReported (if b then x else y)
tested true x y p q = p
tested false x y p q = q

-- ---- names

fault_name_reported : (f : PsbtFault) → AreReported (fault_name f)
fault_name_reported fault.Truncated = refl
fault_name_reported fault.Size = refl
fault_name_reported fault.RepeatedKey = refl
fault_name_reported fault.KeyForm = refl
fault_name_reported fault.ValueForm = refl
fault_name_reported fault.Version = refl
fault_name_reported fault.Excluded = refl
fault_name_reported fault.NoTransaction = refl
fault_name_reported fault.Trailing = refl
fault_name_reported fault.RepeatedOutpoint = refl
fault_name_reported fault.LockTime = refl

unfit_name_reported : (u : Unfit) → AreReported (unfit_name u)
unfit_name_reported (unfit.Rule at) = reported (codes "Rule ") (rule_name at.rule) refl (rule_reported at.rule)
unfit_name_reported unfit.TopNotB = refl
unfit_name_reported (unfit.Size n) = refl
unfit_name_reported (unfit.Ops n) = refl
unfit_name_reported (unfit.Items n) = refl
unfit_name_reported (unfit.Malleable at) = reported (codes "Malleable ") (rule_name at.rule) refl (rule_reported at.rule)
unfit_name_reported unfit.NoSignature = refl
unfit_name_reported (unfit.MixedLocks node) = refl
unfit_name_reported (unfit.RepeatedKey node) = refl

state_reported : (s : State) → AreReported (state_name s)
state_reported state.Final = refl
state_reported state.NoUtxo = refl
state_reported state.WrongUtxo = refl
state_reported state.OtherOutput = refl
state_reported state.NoScript = refl
state_reported state.WrongScript = refl
state_reported state.NoReading = refl
state_reported (state.Unfit u) = reported (codes "Unfit ") (unfit_name u) refl (unfit_name_reported u)
state_reported state.WrongSighash = refl
state_reported state.TooMany = refl
state_reported state.Unsatisfied = refl
state_reported state.Ready = refl

kind_reported : (k : Kind) → AreReported (kind_name k)
kind_reported kind.P2wsh = refl
kind_reported kind.P2wpkh = refl
kind_reported kind.P2shP2wsh = refl
kind_reported kind.P2shP2wpkh = refl
kind_reported kind.Other = refl

judged_reported : (j : Option Judgement) → AreReported (judged_text j)
judged_reported None = refl
judged_reported (Some judgement.Bad) = refl
judged_reported (Some judgement.High) = refl
judged_reported (Some judgement.Good) = refl

-- ---- refusals

refusal_name_reported : (r : Refusal) → AreReported (refusal_name r)
refusal_name_reported refusal.TooLong = refl
refusal_name_reported refusal.NotBase64 = refl
refusal_name_reported refusal.Magic = refl
refusal_name_reported (refusal.At f at) = counted (fault_name f) (codes " at ") at (fault_name_reported f) refl

pub refusal_reported : (r : Refusal) → AreReported (refusal_line r)
refusal_reported r = worded (codes "refused psbt ") (refusal_name r) refl (refusal_name_reported r)

line_fault_reported : (f : LineFault) → AreReported (line_fault_name f)
line_fault_reported (line_fault.Psbt r) = refusal_name_reported r
line_fault_reported line_fault.OtherVersion = refl
line_fault_reported line_fault.OtherTransaction = refl

pub combine_refusal_reported : (r : CombineRefusal) → AreReported (combine_refusal_line r)
combine_refusal_reported unjoined.TooLong = refusal_reported refusal.TooLong
combine_refusal_reported unjoined.NoPsbt = refl
combine_refusal_reported (unjoined.Line number f) =
    worded (codes "refused line " ++ decimal number ++ codes " ") (line_fault_name f)
    (reported (codes "refused line " ++ decimal number) (codes " ") (one_count (codes "refused line ") number refl) refl) (line_fault_reported f)
combine_refusal_reported unjoined.OtherTransaction = refl

pub not_final_reported : (number : ℕ) → AreReported (not_final_line number)
not_final_reported number = worded (codes "not final ") (decimal number) refl (decimal_reported number)

-- ---- the transaction

as_each : (bytes : Bytes) → IsBytes bytes → Every (λ b. b < 256) bytes
as_each [] h = tt
as_each (b ∷ bytes) h = (h 0, as_each bytes (λ i. h (suc i)))

pub as_bytes : (bytes : Bytes) → Every (λ b. b < 256) bytes → IsBytes bytes
as_bytes [] h = no_bytes
as_bytes (b ∷ bytes) h = more_bytes b bytes h.0 (as_bytes bytes h.1)

id_reported : (id : Bytes) → IsBytes id → AreReported (id_digits id)
id_reported id h = hex_reported (reverse id) (as_bytes (reverse id) (every_turned (λ b. b < 256) id (as_each id h)))

psbt_reported : (transaction : Transaction) → AreReported (psbt_line transaction)
psbt_reported transaction =
    let a = codes "psbt inputs " ++ decimal (length transaction.inputs) in
    let b = a ++ codes " outputs " ++ decimal (length transaction.outputs) in
    let c = b ++ codes " version " ++ decimal transaction.version in
    let d = c ++ codes " locktime " ++ decimal transaction.lock_time in
    line_reported (d ++ codes " txid " ++ id_digits (id_of transaction))
    (joined d (codes " txid ") (id_digits (id_of transaction))
    (counted c (codes " locktime ") transaction.lock_time
    (counted b (codes " version ") transaction.version
    (counted a (codes " outputs ") (length transaction.outputs) (one_count (codes "psbt inputs ") (length transaction.inputs) refl) refl) refl) refl)
    refl (id_reported (id_of transaction) (id_is transaction)))

final_id_reported : (id : Option Bytes) → IfAny IsBytes id → AreReported (final_id_line id)
final_id_reported None h = refl
final_id_reported (Some id) h = worded (codes "final txid ") (id_digits id) refl (id_reported id h)

outputs_reported : (number : ℕ) (outputs : List TransactionOutput) → Every IsOutputOfBytes outputs → AreReported (output_lines number outputs)
outputs_reported number [] h = refl
outputs_reported number (output ∷ outputs) h =
    let it = h.0 in
    let a = codes "output " ++ decimal number in
    let b = a ++ codes " " ++ decimal output.amount in
    reported (output_line number output) (output_lines (number + 1) outputs)
    (line_reported (b ++ codes " " ++ item_digits output.script)
    (joined b (codes " ") (item_digits output.script) (counted a (codes " ") output.amount (one_count (codes "output ") number refl) refl) refl
    (item_digits_reported output.script it.script)))
    (outputs_reported (number + 1) outputs h.1)

fee_by_reported : (spent : Option ℕ) (paid : ℕ) (all_proved : Bool) → AreReported (fee_line_by spent paid all_proved)
fee_by_reported None paid all_proved = refl
fee_by_reported (Some spent) paid all_proved =
    tested (nat_lt spent paid) (line (codes "fee negative")) _ refl
    (worded (codes "fee " ++ decimal (spent - paid)) (if all_proved then codes " proved" else codes " claimed") (one_count (codes "fee ") (spent - paid) refl)
    (tested all_proved (codes " proved") (codes " claimed") refl refl))

-- ---- an input

input_line_reported : (number : ℕ) (s : State) → AreReported (input_line number s)
input_line_reported number s =
    worded (codes "input " ++ decimal number ++ codes " ") (state_name s)
    (reported (codes "input " ++ decimal number) (codes " ") (one_count (codes "input ") number refl) refl) (state_reported s)

outpoint_reported : (input : TransactionInput) → IsInputOfBytes input → AreReported (outpoint_line input)
outpoint_reported input h =
    let a = codes "outpoint " ++ id_digits input.outpoint.id in
    let b = a ++ codes " " ++ decimal input.outpoint.index in
    line_reported (b ++ codes " sequence " ++ decimal input.sequence)
    (counted b (codes " sequence ") input.sequence
    (counted a (codes " ") input.outpoint.index (reported (codes "outpoint ") (id_digits input.outpoint.id) refl (id_reported input.outpoint.id h.id)) refl) refl)

amount_reported : (a : Amount) → AreReported (amount_line a)
amount_reported unknown = refl
amount_reported (proved satoshis) = worded (codes "amount " ++ decimal satoshis) (codes " proved") (one_count (codes "amount ") satoshis refl) refl
amount_reported (claimed satoshis) = worded (codes "amount " ++ decimal satoshis) (codes " claimed") (one_count (codes "amount ") satoshis refl) refl

signature_reported : (pair : Bytes × Bytes) (j : Option Judgement) → IsBytes pair.0 → AreReported (signature_line pair j)
signature_reported pair j h =
    let a = codes "signature " ++ encode_lower pair.0 in
    let b = a ++ codes " " ++ decimal (last_byte pair.1) in
    worded b (judged_text j)
    (counted a (codes " ") (last_byte pair.1) (reported (codes "signature ") (encode_lower pair.0) refl (hex_reported pair.0 h)) refl) (judged_reported j)

abbrev IsPairOf : Bytes × Bytes → Type 0
IsPairOf pair = IsBytes pair.0 × IsBytes pair.1

signatures_reported : (s : State) (spend : Spend) → IsSpend spend → AreReported (signature_lines s spend)
signatures_reported s spend h =
    each_reported (λ pair. signature_line pair (told_word (is_sane s) spend pair)) IsPairOf (λ pair k. signature_reported pair (told_word (is_sane s) spend pair) k.0)
    (signatures_in spend.fields) (signatures_are spend.fields h.fields)

kinds_reported : (s : State) (k : Kind) → AreReported (kind_lines s k)
kinds_reported state.NoUtxo k = refl
kinds_reported state.WrongUtxo k = refl
kinds_reported other k = worded (codes "kind ") (kind_name k) refl (kind_reported k)

kept_keys : (test : Key → Bool) (keys : List Key) → Every IsBytes keys → Every IsBytes (filter test keys)
kept_keys test [] h = tt
kept_keys test (key ∷ keys) h = by (test key) (kept_keys test keys h.1)
  where
    by : (b : Bool) → Every IsBytes (filter test keys) → Every IsBytes (cond b (key ∷ filter test keys) (filter test keys))
    by true rest = (h.0, rest)
    by false rest = rest

plan_lines_reported : (assets : Assets) (found : Option Plan) → ((made : Plan) → found ≡ Some made → Every IsBytes made.keys) → AreReported (plan_lines assets found)
plan_lines_reported assets None h = refl
plan_lines_reported assets (Some made) h =
    reported (flat_map ask_line (unsigned_keys assets made.keys)) (most_weight_line made.weight)
    (each_reported ask_line IsBytes ask_reported (unsigned_keys assets made.keys) (kept_keys (λ key. not (is_some (sig_of assets key))) made.keys (h made refl)))
    (worded (codes "weight at most ") (decimal made.weight) refl (decimal_reported made.weight))

last_reported : (s : State) (tree : Tree) (spend : Spend) (stack : List Bytes) → IsWritable tree → AreReported (last_lines s tree spend stack)
last_reported state.Ready tree spend stack w = worded (codes "weight ") (decimal (weight stack)) refl (decimal_reported (weight stack))
last_reported state.Unsatisfied tree spend stack w =
    let assets = assets_of spend in
    let with_estimates = estimated assets (lengths_of tree assets) in
    plan_lines_reported assets (plan_with tree assets) (λ made is. plan_keys tree with_estimates (strict tree with_estimates) made w is)
last_reported other tree spend stack w = refl

tree_reported : (s : State) (found : Option Tree) (spend : Spend) (stack : List Bytes) → IfAny IsWritable found → AreReported (tree_lines s found spend stack)
tree_reported s None spend stack w = refl
tree_reported s (Some tree) spend stack w =
    let text = if is_read s then decode_report tree else [] in
    let policy = if is_sane s then policy_line (printed_policy (policy_of tree)) else [] in
    reported (text ++ policy) (last_lines s tree spend stack)
    (reported text policy (tested (is_read s) (decode_report tree) [] (decode_reported tree w) refl)
    (tested (is_sane s) (policy_line (printed_policy (policy_of tree))) []
    (worded (codes "policy ") (printed_policy (policy_of tree)) refl (policy_reported (policy_of tree) (policy_is_printable tree w))) refl))
    (last_reported s tree spend stack w)

open_reported : (input : Input) → IsInput input → AreReported (open_lines input)
open_reported input h =
    let s = state_of input in
    let kinds = kind_lines s (kind_of input.spend) in
    let signatures = signature_lines s input.spend in
    tested (is_final s) unchecked_line _ refl
    (reported (kinds ++ signatures) (tree_lines s input.tree input.spend (stack_of input))
    (reported kinds signatures (kinds_reported s (kind_of input.spend)) (signatures_reported s input.spend h.spend))
    (tree_reported s input.tree input.spend (stack_of input) h.tree))

input_reported : (input : Input) → IsInput input → AreReported (input_report input)
input_reported input h =
    let s = state_of input in
    let one = input_line input.spend.number s in
    let two = outpoint_line input.spend.input in
    let three = amount_line (amount_in input.spend) in
    let spend = h.spend in
    reported (one ++ two ++ three) (open_lines input)
    (reported (one ++ two) three
    (reported one two (input_line_reported input.spend.number s) (outpoint_reported input.spend.input spend.input)) (amount_reported (amount_in input.spend)))
    (open_reported input h)

pub inspect_reported : (transaction : Transaction) (inputs : List Input) → IsOfBytes transaction → Every IsInput inputs → AreReported (inspect_report transaction inputs)
unfolding inspect_report
inspect_reported transaction inputs t h =
    let spends = map (λ (input : Input). input.spend) inputs in
    let final = final_id_line (final_id transaction spends) in
    let outs = output_lines 0 transaction.outputs in
    let amounts = map (λ (input : Input). amount_in input.spend) inputs in
    let fee = fee_line amounts transaction.outputs in
    reported (psbt_line transaction ++ final ++ outs ++ fee) (flat_map input_report inputs)
    (reported (psbt_line transaction ++ final ++ outs) fee
    (reported (psbt_line transaction ++ final) outs
    (reported (psbt_line transaction) final (psbt_reported transaction) (final_id_reported (final_id transaction spends) (final_id_is transaction spends)))
    (outputs_reported 0 transaction.outputs t.outputs))
    (fee_by_reported (total amounts) (paid transaction.outputs) (list_all is_proved amounts)))
    (each_reported input_report IsInput input_reported inputs h)

-- ---- hashes

hash_reported : (hash : Option Bytes) → IfAny IsBytes hash → AreReported (hash_digits hash)
hash_reported hash h = item_digits_reported (unwrap_or hash []) (or_nothing hash h)

sign_reported : (type : ℕ) (hash : Option Bytes) → IfAny IsBytes hash → AreReported (sign_line type hash)
sign_reported type hash h =
    tested (type == 1) (line (codes "sign 1 " ++ hash_digits hash)) _ (worded (codes "sign 1 ") (hash_digits hash) refl (hash_reported hash h))
    (worded (codes "sign-other " ++ decimal type ++ codes " ") (hash_digits hash)
    (reported (codes "sign-other " ++ decimal type) (codes " ") (one_count (codes "sign-other ") type refl) refl) (hash_reported hash h))

check_reported : (pair : Bytes × Bytes) (hash : Option Bytes) (j : Option Judgement) → IsPairOf pair → IfAny IsBytes hash → AreReported (check_line pair hash j)
check_reported pair hash j p h =
    let a = codes "check " ++ encode_lower pair.0 in
    let b = a ++ codes " " ++ encode_lower pair.1 in
    let c = b ++ codes " " ++ hash_digits hash in
    worded c (judged_text j)
    (joined b (codes " ") (hash_digits hash)
    (joined a (codes " ") (encode_lower pair.1) (reported (codes "check ") (encode_lower pair.0) refl (hex_reported pair.0 p.0)) refl (hex_reported pair.1 p.1))
    refl (hash_reported hash h)) (judged_reported j)

checked_reported : (spend : Spend) (pair : Bytes × Bytes) → IsPairOf pair → AreReported (checked_line spend pair)
checked_reported spend pair p = check_reported pair (hash_by (last_byte pair.1) spend) (word_by spend.verification spend pair) p (hash_is (last_byte pair.1) spend)

hash_lines_reported : (spend : Spend) → IsSpend spend → AreReported (hash_lines spend)
hash_lines_reported spend h =
    reported (sign_line (asked_type spend.fields) (hash_by (asked_type spend.fields) spend)) (flat_map (checked_line spend) (signatures_in spend.fields))
    (sign_reported (asked_type spend.fields) (hash_by (asked_type spend.fields) spend) (hash_is (asked_type spend.fields) spend))
    (each_reported (checked_line spend) IsPairOf (checked_reported spend) (signatures_in spend.fields) (signatures_are spend.fields h.fields))

input_hashes_reported : (input : Input) → IsInput input → AreReported (input_hashes input)
input_hashes_reported input h =
    let s = state_of input in
    reported (input_line input.spend.number s) (if is_sane s then hash_lines input.spend else []) (input_line_reported input.spend.number s)
    (tested (is_sane s) (hash_lines input.spend) [] (hash_lines_reported input.spend h.spend) refl)

pub hashes_reported : (inputs : List Input) → Every IsInput inputs → AreReported (hashes_report inputs)
unfolding hashes_report
hashes_reported inputs h = each_reported input_hashes IsInput input_hashes_reported inputs h

-- ---- verdicts

flaw_reported : (f : Flaw) → AreReported (flaw_text f)
flaw_reported flaw.NoUtxo = refl
flaw_reported flaw.WrongUtxo = refl
flaw_reported flaw.OtherOutput = refl
flaw_reported flaw.ScriptSig = refl
flaw_reported flaw.WrongScript = refl
flaw_reported flaw.ItemCount = refl
flaw_reported (flaw.Refused f place) = counted (script_fault_name f) (codes " at ") place (fault_reported f) refl

verdict_text_reported : (v : Verdict) → AreReported (verdict_text v)
verdict_text_reported (not_final s) = reported (codes "open ") (state_name s) refl (state_reported s)
verdict_text_reported (flawed f) = reported (flaw_word f) (flaw_text f) (tested (is_unknown f) (codes "unknown ") (codes "invalid ") refl refl) (flaw_reported f)
verdict_text_reported (valid script checks) = refl

passed_reported : (spend : Spend) (v : Verdict) → IsVerdict v → AreReported (passed_lines spend v)
passed_reported spend (not_final s) h = refl
passed_reported spend (flawed f) h = refl
passed_reported spend (valid script checks) h =
    each_reported (passed_line spend script) IsPairOf (λ pair p. signature_reported pair (Some (judged_in spend script pair.0 pair.1)) p.0) checks h

verdict_reported : (spend : Spend) (v : Verdict) → IsVerdict v → AreReported (verdict_lines spend v)
verdict_reported spend v h =
    let front = codes "input " ++ decimal spend.number ++ codes " " in
    reported (line (front ++ verdict_text v)) (passed_lines spend v)
    (worded front (verdict_text v) (reported (codes "input " ++ decimal spend.number) (codes " ") (one_count (codes "input ") spend.number refl) refl) (verdict_text_reported v))
    (passed_reported spend v h)

verdict_is : (input : Input) → IsInput input → IsVerdict (verdict_of input)
verdict_is input h = by (is_final (state_of input))
  where
    by : (b : Bool) → IsVerdict (if b then final_verdict input.spend else not_final (state_of input))
    by true = final_verdict_is input.spend h.spend
    by false = tt

pub verify_reported : (inputs : List Input) → Every IsInput inputs → AreReported (verify_report inputs)
unfolding verify_report
verify_reported inputs h = each_reported input_verdict IsInput (λ input k. verdict_reported input.spend (verdict_of input) (verdict_is input k)) inputs h
