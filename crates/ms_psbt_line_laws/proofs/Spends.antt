-- What the inputs of a PSBT that was read from bytes have consists of bytes.
use Rattle.std.proofs.Common.{ℕ, zero, suc, ◌+◌, ◌-◌, ◌==◌, ◌&&◌, ◌||◌, not, Bool, true, false, List, [], ◌∷◌, ◌++◌, length, map, take, drop, Option, Some, None, Result, Ok, Err, cond, sym, subst, arith, if◌then◌else◌}
use Rattle.std.specs.Prelude.{⊤, filter, find, slice_get, option_map, option_and_then, unwrap_or}
use Rattle.std.specs.List.{flat_map, list_any}
use Rattle.std.specs.Int.{w32, w64, to_le_bytes}
use Rattle.std.specs.Str.{bytes_eq}
use Rattle.def_hash.specs.declared.HashKind.TheVariants as hash_kind
use Rattle.def_hash.specs.Hash.{hash256}
use Rattle.def_hash.proofs.Lengths.{digest_has_bytes}
use Rattle.def_script.specs.Bytes.{Bytes, IsBytes}
use Rattle.def_script.specs.Sizes.{size_bytes}
use Rattle.def_script.specs.Witness.{sized}
use Rattle.def_machine.specs.Program.{program_of}
use Rattle.def_machine.specs.Run.{Outcome, accepted, refused, run}
use Rattle.def_tree.specs.Tree.{Key, Tree}
use Rattle.def_tree.specs.Range.{IsWritable}
use Rattle.def_psbt.specs.Transaction.{Outpoint, TransactionInput, TransactionOutput, Transaction, outpoint_text, input_text, output_text, inputs_text, outputs_text, transaction_text, id_of}
use Rattle.def_psbt.specs.TransactionReading.{network_transaction_of}
use Rattle.def_psbt.specs.Forms.{output_of, witness_of}
use Rattle.def_psbt.specs.Map.{Pair, Map, Psbt, data_of}
use Rattle.def_spend.specs.declared.State.{State}
use Rattle.def_spend.specs.declared.HashType.{HashType}
use Rattle.def_spend.specs.declared.Verification.{Verification}
use Rattle.def_psbt.specs.Types.{IN_FINAL_SCRIPTSIG, IN_FINAL_SCRIPTWITNESS, IN_NON_WITNESS_UTXO, IN_WITNESS_UTXO}
use Rattle.def_spend.specs.Fields.{has_type, field, is_signed, signatures_in}
use Rattle.def_spend.specs.Input.{Spend, spends_from, spends_of}
use Rattle.def_spend.specs.Utxo.{Utxo, none, wrong, proved, claimed, proved_output, utxo_by}
use Rattle.def_spend.specs.Kinds.{is_p2sh, p2sh_of, is_script_hash, is_key_hash, spent_utxo}
use Rattle.def_spend.specs.HashTypes.{hash_type_of}
use Rattle.def_spend.specs.Hashes.{hash_by}
use Rattle.def_spend.specs.Reading.{Input, ReadsAs, HasReading, AreInputs, key_hash_script, script_code, has_item}
use Rattle.def_spend.specs.Finalized.{final_inputs, final_transaction, final_witness, witnessed_text, network_text, known_inputs, are_known, has_script_sig, final_id}
use Rattle.def_verify.specs.declared.Flaw.{Flaw}
use Rattle.def_verify.specs.declared.Flaw.TheVariants as flaw
use Rattle.def_verify.specs.Final.{final_script_sig, final_items, pushed_program, final_program, Execution, script_execution, key_execution, program_execution, no_execution, has_scriptsig_beside, execution_by, execution_of}
use Rattle.def_verify.specs.Verdict.{Verdict, not_final, flawed, valid, consensus_given, verdict_by, ran_verdict, output_verdict, utxo_verdict, final_verdict}
use Rattle.def_lines.proofs.Lists.{Every, from_all, every_taken}
use Rattle.ms_line_laws.proofs.Scripts.{no_bytes, more_bytes, joined_bytes, low_first}
use Rattle.ms_line_laws.proofs.Machine.{ArePairs, ArePairsFound, dropped_bytes, run_finds}
use Rattle.ms_line_laws.proofs.Witnesses.{size_is_bytes}
use Rattle.ms_given_laws.specs.Given.{IsWhole}
use Rattle.ms_given_laws.proofs.Held.{data_bytes}
use Rattle.ms_psbt_line_laws.proofs.Transactions.{IsInputOfBytes, IsOutputOfBytes, IsOfBytes, IfAny, IsPair, found_is, value_is, or_nothing, network_read, output_read, witness_read, transaction_is, psbt_maps}

-- all that an input's lines depend on
pub record IsSpend (spend : Spend) : Type 0 where
  pub transaction : IsOfBytes spend.transaction
  pub input : IsInputOfBytes spend.input
  pub fields : Every IsPair spend.fields

spends_are : (verification : Verification) (transaction : Transaction) (number : ℕ) (inputs : List TransactionInput) (maps : List Map) → IsOfBytes transaction
    → Every IsInputOfBytes inputs → Every (Every IsPair) maps → Every IsSpend (spends_from verification transaction number inputs maps)
spends_are verification transaction number [] maps t i m = tt
spends_are verification transaction number (input ∷ inputs) [] t i m = tt
spends_are verification transaction number (input ∷ inputs) (fields ∷ maps) t i m =
    (record { transaction = t; input = i.0; fields = m.0 }, spends_are verification transaction (number + 1) inputs maps t i.1 m.1)

-- the miniscript of an input can be written
pub record IsInput (input : Input) : Type 0 where
  pub spend : IsSpend input.spend
  pub tree : IfAny IsWritable input.tree

tree_is : (keys : List Key) (r : Result Bytes State) (found : Option Tree) → ReadsAs keys r found → IfAny IsWritable found
tree_is keys (Ok script) None h = tt
tree_is keys (Ok script) (Some tree) h = h.reading.writable
tree_is keys (Err state) found h = subst (IfAny IsWritable) (sym h) tt

inputs_from : (inputs : List Input) → Every IsSpend (map (λ (input : Input). input.spend) inputs) → Every HasReading inputs → Every IsInput inputs
inputs_from [] s r = tt
inputs_from (input ∷ inputs) s r = (record { spend = s.0; tree = tree_is _ (script_code input.spend) input.tree r.0 }, inputs_from inputs s.1 r.1)

pub inputs_are : (verification : Verification) (psbt : Psbt) (inputs : List Input) → IsWhole psbt → AreInputs verification psbt inputs → Every IsInput inputs
inputs_are verification psbt inputs whole are =
    let t = transaction_is psbt whole in
    let spends : Every IsSpend (spends_of verification psbt) = spends_are verification psbt.transaction 0 psbt.transaction.inputs psbt.inputs t t.inputs (psbt_maps psbt whole) in
    inputs_from inputs (subst (Every IsSpend) (sym are.spends) spends) (from_all HasReading inputs are.read)

-- ---- fields

pub field_is : (type : ℕ) (pairs : Map) → Every IsPair pairs → IfAny IsBytes (field type pairs)
field_is type pairs h = value_is (find (has_type type) pairs) (found_is (has_type type) pairs h)

signed_are : (pairs : Map) → Every IsPair pairs → ArePairs (map (λ (pair : Pair). (data_of pair.key, pair.value)) (filter is_signed pairs))
signed_are [] h = tt
signed_are (pair ∷ pairs) h = by (is_signed pair) (signed_are pairs h.1)
  where
    by : (b : Bool) → ArePairs (map (λ (pair : Pair). (data_of pair.key, pair.value)) (filter is_signed pairs))
        → ArePairs (map (λ (pair : Pair). (data_of pair.key, pair.value)) (cond b (pair ∷ filter is_signed pairs) (filter is_signed pairs)))
    by true rest = ((data_bytes pair.key h.0.0, h.0.1), rest)
    by false rest = rest

pub signatures_are : (pairs : Map) → Every IsPair pairs → ArePairs (signatures_in pairs)
signatures_are pairs h = signed_are pairs h

-- ---- hashes

pub double_hash_is : (bytes : Bytes) → IsBytes (hash256 bytes)
double_hash_is bytes = digest_has_bytes hash_kind.Hash256 bytes

pub id_is : (transaction : Transaction) → IsBytes (id_of transaction)
id_is transaction = double_hash_is (transaction_text transaction)

hashed : (o : Option HashType) (text : HashType → Bytes) → IfAny IsBytes (option_map (λ (type : HashType). hash256 (text type)) o)
hashed None text = tt
hashed (Some type) text = double_hash_is (text type)

pub hash_is : (number : ℕ) (spend : Spend) → IfAny IsBytes (hash_by number spend)
hash_is number spend = hashed (hash_type_of number) _

pub final_id_is : (transaction : Transaction) (spends : List Spend) → IfAny IsBytes (final_id transaction spends)
final_id_is transaction spends = by (are_known spends && has_script_sig spends)
  where
    by : (b : Bool) → IfAny IsBytes (if b then Some (id_of (record transaction { inputs = known_inputs spends })) else None)
    by true = id_is (record transaction { inputs = known_inputs spends })
    by false = tt

-- ---- the output that is spent

abbrev IsUtxo : Utxo → Type 0
IsUtxo none = ⊤
IsUtxo wrong = ⊤
IsUtxo (proved output) = IsBytes output.script
IsUtxo (claimed output) = IsBytes output.script

utxo_test : (b : Bool) (x y : Utxo) → IsUtxo x → IsUtxo y → IsUtxo (if b then x else y)
utxo_test true x y p q = p
utxo_test false x y p q = q

got_output : (outputs : List TransactionOutput) (n : ℕ) → Every IsOutputOfBytes outputs → IfAny IsOutputOfBytes (slice_get outputs n)
got_output [] n h = tt
got_output (output ∷ outputs) zero h = h.0
got_output (output ∷ outputs) (suc n) h = got_output outputs n h.1

proved_is : (former claim : Option TransactionOutput) → IfAny IsOutputOfBytes former → IsUtxo (proved_output former claim)
proved_is None claim h = tt
proved_is (Some output) None h = h.script
proved_is (Some output) (Some other) h = utxo_test (bytes_eq (output_text output) (output_text other)) (proved output) wrong h.script tt

utxo_is : (previous : Option Transaction) (claim : Option TransactionOutput) (outpoint : Outpoint) → IfAny IsOfBytes previous → IfAny IsOutputOfBytes claim
    → IsUtxo (utxo_by previous claim outpoint)
utxo_is None None outpoint p c = tt
utxo_is None (Some output) outpoint p c = c.script
utxo_is (Some previous) claim outpoint p c =
    utxo_test (bytes_eq (id_of previous) outpoint.id) (proved_output (slice_get previous.outputs outpoint.index) claim) wrong
    (proved_is (slice_get previous.outputs outpoint.index) claim (got_output previous.outputs outpoint.index p.outputs)) tt

read_if_any : {A : Type 0} (P : A → Type 0) (read : Bytes → Option A) (o : Option Bytes) → ((bytes : Bytes) → IsBytes bytes → IfAny P (read bytes)) → IfAny IsBytes o
    → IfAny P (option_and_then read o)
read_if_any P read None each h = tt
read_if_any P read (Some bytes) each h = each bytes h

spent_is : (spend : Spend) → IsSpend spend → IsUtxo (spent_utxo spend)
spent_is spend h =
    utxo_is (option_and_then network_transaction_of (field IN_NON_WITNESS_UTXO spend.fields)) (option_and_then output_of (field IN_WITNESS_UTXO spend.fields)) spend.input.outpoint
    (read_if_any IsOfBytes network_transaction_of (field IN_NON_WITNESS_UTXO spend.fields) network_read (field_is IN_NON_WITNESS_UTXO spend.fields h.fields))
    (read_if_any IsOutputOfBytes output_of (field IN_WITNESS_UTXO spend.fields) output_read (field_is IN_WITNESS_UTXO spend.fields h.fields))

-- ---- what the final fields have consensus run

abbrev IsExecution : Result Execution Flaw → Type 0
IsExecution (Ok execution) = IsBytes execution.0 × Every IsBytes execution.1
IsExecution (Err flaw) = ⊤

execution_test : (b : Bool) (x y : Result Execution Flaw) → IsExecution x → IsExecution y → IsExecution (if b then x else y)
execution_test true x y p q = p
execution_test false x y p q = q

got_item : (items : List Bytes) (n : ℕ) → Every IsBytes items → IfAny IsBytes (slice_get items n)
got_item [] n h = tt
got_item (item ∷ items) zero h = h.0
got_item (item ∷ items) (suc n) h = got_item items n h.1

script_is : (program : Bytes) (script : Option Bytes) (stack : List Bytes) → IfAny IsBytes script → Every IsBytes stack → IsExecution (script_execution program script stack)
script_is program None stack s h = tt
script_is program (Some script) stack s h = execution_test (bytes_eq program (program_of script)) (Ok (script, stack)) (Err flaw.WrongScript) (s, h) tt

key_script_is : (program : Bytes) → IsBytes program → IsBytes (key_hash_script program)
key_script_is program h =
    let rest = drop 2 program ++ 0x88 ∷ 0xac ∷ [] in
    let end = more_bytes 0x88 (0xac ∷ []) (omega arith) (more_bytes 0xac [] (omega arith) no_bytes) in
    more_bytes 0x76 (0xa9 ∷ 0x14 ∷ rest) (omega arith)
    (more_bytes 0xa9 (0x14 ∷ rest) (omega arith) (more_bytes 0x14 rest (omega arith) (joined_bytes (drop 2 program) (0x88 ∷ 0xac ∷ []) (dropped_bytes 2 program h) end)))

program_is : (program : Bytes) (items : List Bytes) → IsBytes program → Every IsBytes items → IsExecution (program_execution program items)
program_is program items p h =
    execution_test (is_script_hash program) _ (key_execution program items)
    (script_is program (slice_get items (length items - 1)) (take (length items - 1) items) (got_item items (length items - 1) h) (every_taken IsBytes (length items - 1) items h))
    (execution_test (length items == 2) (Ok (key_hash_script program, items)) (Err flaw.ItemCount) (key_script_is program p, h) tt)

none_is : (items : List Bytes) → IsExecution (no_execution items)
none_is [] = tt
none_is (item ∷ items) = tt

by_program : (program : Option Bytes) (beside : Bool) (items : List Bytes) → IfAny IsBytes program → Every IsBytes items → IsExecution (execution_by program beside items)
by_program None beside items p h = none_is items
by_program (Some program) beside items p h =
    execution_test (not (is_script_hash program || is_key_hash program)) (Err flaw.OtherOutput) _ tt
    (execution_test beside (Err flaw.ScriptSig) (program_execution program items) tt (program_is program items p h))

pushed_is : (spent script_sig : Bytes) → IsBytes script_sig → IfAny IsBytes (pushed_program spent script_sig)
pushed_is spent [] h = tt
pushed_is spent (size ∷ redeem) h = by ((size == length redeem) && bytes_eq spent (p2sh_of redeem))
  where
    by : (b : Bool) → IfAny IsBytes (if b then Some redeem else None)
    by true = λ i. h (suc i)
    by false = tt

final_program_is : (spent script_sig : Bytes) → IsBytes spent → IsBytes script_sig → IfAny IsBytes (final_program spent script_sig)
final_program_is spent script_sig s h = by (is_p2sh spent)
  where
    by : (b : Bool) → IfAny IsBytes (if b then pushed_program spent script_sig else Some spent)
    by true = pushed_is spent script_sig h
    by false = s

execution_is : (spent script_sig : Bytes) (items : List Bytes) → IsBytes spent → IsBytes script_sig → Every IsBytes items → IsExecution (execution_of spent script_sig items)
execution_is spent script_sig items s h i =
    by_program (final_program spent script_sig) (has_scriptsig_beside spent script_sig) items (final_program_is spent script_sig s h) i

one_zero : IsBytes (0x00 ∷ [])
one_zero = more_bytes 0x00 [] (omega arith) no_bytes

or_zero : (o : Option Bytes) → IfAny IsBytes o → IsBytes (unwrap_or o (0x00 ∷ []))
or_zero None h = one_zero
or_zero (Some bytes) h = h

final_witness_is : (pairs : Map) → Every IsPair pairs → IsBytes (final_witness pairs)
final_witness_is pairs h = or_zero (field IN_FINAL_SCRIPTWITNESS pairs) (field_is IN_FINAL_SCRIPTWITNESS pairs h)

items_or_none : (o : Option (List Bytes)) → IfAny (Every IsBytes) o → Every IsBytes (unwrap_or o [])
items_or_none None h = tt
items_or_none (Some items) h = h

items_are : (spend : Spend) → IsSpend spend → Every IsBytes (final_items spend)
items_are spend h = items_or_none (witness_of (final_witness spend.fields)) (witness_read (final_witness spend.fields) (final_witness_is spend.fields h.fields))

script_sig_is : (pairs : Map) → Every IsPair pairs → IsBytes (unwrap_or (field IN_FINAL_SCRIPTSIG pairs) [])
script_sig_is pairs h = or_nothing (field IN_FINAL_SCRIPTSIG pairs) (field_is IN_FINAL_SCRIPTSIG pairs h)

-- ---- verdicts

abbrev pub IsVerdict : Verdict → Type 0
IsVerdict (not_final state) = ⊤
IsVerdict (flawed flaw) = ⊤
IsVerdict (valid script checks) = ArePairs checks

outcome_is : (script : Bytes) (outcome : Outcome) → ArePairsFound outcome → IsVerdict (verdict_by script outcome)
outcome_is script (accepted ops peak checks) h = h
outcome_is script (refused fault place) h = tt

ran_is : (spend : Spend) (r : Result Execution Flaw) → IsExecution r → IsVerdict (ran_verdict spend r)
ran_is spend (Ok execution) h =
    outcome_is execution.0 (run (consensus_given spend execution.0) execution.0 execution.1) (run_finds (consensus_given spend execution.0) execution.0 execution.1 h.0 h.1)
ran_is spend (Err flaw) h = tt

output_verdict_is : (spend : Spend) (output : TransactionOutput) → IsSpend spend → IsBytes output.script → IsVerdict (output_verdict spend output)
output_verdict_is spend output h s =
    ran_is spend (execution_of output.script (final_script_sig spend) (final_items spend))
    (execution_is output.script (final_script_sig spend) (final_items spend) s (script_sig_is spend.fields h.fields) (items_are spend h))

utxo_verdict_is : (spend : Spend) (utxo : Utxo) → IsSpend spend → IsUtxo utxo → IsVerdict (utxo_verdict spend utxo)
utxo_verdict_is spend none h u = tt
utxo_verdict_is spend wrong h u = tt
utxo_verdict_is spend (proved output) h u = output_verdict_is spend output h u
utxo_verdict_is spend (claimed output) h u = output_verdict_is spend output h u

pub final_verdict_is : (spend : Spend) → IsSpend spend → IsVerdict (final_verdict spend)
final_verdict_is spend h = utxo_verdict_is spend (spent_utxo spend) h (spent_is spend h)

-- ---- the network transaction

sized_is : (bytes : Bytes) → IsBytes bytes → IsBytes (sized bytes)
sized_is bytes h = joined_bytes (size_bytes (length bytes)) bytes (size_is_bytes (length bytes)) h

each_is : {A : Type 0} (text : A → Bytes) (P : A → Type 0) → ((x : A) → P x → IsBytes (text x)) → (xs : List A) → Every P xs → IsBytes (flat_map text xs)
each_is text P each [] h = no_bytes
each_is text P each (x ∷ xs) h = joined_bytes (text x) (flat_map text xs) (each x h.0) (each_is text P each xs h.1)

input_is : (input : TransactionInput) → IsInputOfBytes input → IsBytes (input_text input)
input_is input h =
    joined_bytes (outpoint_text input.outpoint) (sized input.script_sig ++ to_le_bytes w32 input.sequence)
    (joined_bytes input.outpoint.id (to_le_bytes w32 input.outpoint.index) h.id (low_first 0 4 input.outpoint.index))
    (joined_bytes (sized input.script_sig) (to_le_bytes w32 input.sequence) (sized_is input.script_sig h.script_sig) (low_first 0 4 input.sequence))

output_is : (output : TransactionOutput) → IsOutputOfBytes output → IsBytes (output_text output)
output_is output h = joined_bytes (to_le_bytes w64 output.amount) (sized output.script) (low_first 0 8 output.amount) (sized_is output.script h.script)

inputs_text_is : (inputs : List TransactionInput) → Every IsInputOfBytes inputs → IsBytes (inputs_text inputs)
inputs_text_is inputs h =
    joined_bytes (size_bytes (length inputs)) (flat_map input_text inputs) (size_is_bytes (length inputs)) (each_is input_text IsInputOfBytes input_is inputs h)

outputs_text_is : (outputs : List TransactionOutput) → Every IsOutputOfBytes outputs → IsBytes (outputs_text outputs)
outputs_text_is outputs h =
    joined_bytes (size_bytes (length outputs)) (flat_map output_text outputs) (size_is_bytes (length outputs)) (each_is output_text IsOutputOfBytes output_is outputs h)

transaction_text_is : (transaction : Transaction) → IsOfBytes transaction → IsBytes (transaction_text transaction)
transaction_text_is transaction h =
    let ins = inputs_text transaction.inputs in
    let outs = outputs_text transaction.outputs in
    let lock = to_le_bytes w32 transaction.lock_time in
    joined_bytes (to_le_bytes w32 transaction.version) (ins ++ (outs ++ lock)) (low_first 0 4 transaction.version)
    (joined_bytes ins (outs ++ lock) (inputs_text_is transaction.inputs h.inputs)
    (joined_bytes outs lock (outputs_text_is transaction.outputs h.outputs) (low_first 0 4 transaction.lock_time)))

final_inputs_are : (inputs : List TransactionInput) (maps : List Map) → Every IsInputOfBytes inputs → Every (Every IsPair) maps → Every IsInputOfBytes (final_inputs inputs maps)
final_inputs_are [] maps i m = tt
final_inputs_are (input ∷ inputs) [] i m = tt
final_inputs_are (input ∷ inputs) (fields ∷ maps) i m =
    let it = i.0 in (record { id = it.id; script_sig = script_sig_is fields m.0 }, final_inputs_are inputs maps i.1 m.1)

witnesses_are : (maps : List Map) → Every (Every IsPair) maps → IsBytes (flat_map (λ (witness : Bytes). witness) (map final_witness maps))
witnesses_are [] h = no_bytes
witnesses_are (m ∷ maps) h = joined_bytes (final_witness m) (flat_map (λ (witness : Bytes). witness) (map final_witness maps)) (final_witness_is m h.0) (witnesses_are maps h.1)

pub network_text_is : (psbt : Psbt) → IsWhole psbt → IsBytes (network_text psbt)
network_text_is psbt whole = by (list_any (λ (fields : Map). has_item (field IN_FINAL_SCRIPTWITNESS fields)) psbt.inputs)
  where
    final : IsOfBytes (final_transaction psbt)
    final = let t = transaction_is psbt whole in record { inputs = final_inputs_are psbt.transaction.inputs psbt.inputs t.inputs (psbt_maps psbt whole); outputs = t.outputs }

    witnessed : IsBytes (witnessed_text (final_transaction psbt) (map final_witness psbt.inputs))
    witnessed =
        let it = final_transaction psbt in
        let version = to_le_bytes w32 it.version in
        let marker : Bytes = 0x00 ∷ 0x01 ∷ [] in
        let ins = inputs_text it.inputs in
        let outs = outputs_text it.outputs in
        let items = flat_map (λ (witness : Bytes). witness) (map final_witness psbt.inputs) in
        let is = final in
        joined_bytes (version ++ marker ++ ins ++ outs ++ items) (to_le_bytes w32 it.lock_time)
        (joined_bytes (version ++ marker ++ ins ++ outs) items
        (joined_bytes (version ++ marker ++ ins) outs
        (joined_bytes (version ++ marker) ins
        (joined_bytes version marker (low_first 0 4 it.version) (more_bytes 0x00 (0x01 ∷ []) (omega arith) (more_bytes 0x01 [] (omega arith) no_bytes)))
        (inputs_text_is it.inputs is.inputs))
        (outputs_text_is it.outputs is.outputs))
        (witnesses_are psbt.inputs (psbt_maps psbt whole)))
        (low_first 0 4 it.lock_time)

    by : (b : Bool) → IsBytes (if b then witnessed_text (final_transaction psbt) (map final_witness psbt.inputs) else transaction_text (final_transaction psbt))
    by true = witnessed
    by false = transaction_text_is (final_transaction psbt) final
