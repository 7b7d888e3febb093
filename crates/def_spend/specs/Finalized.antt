-- What a finalizer writes, and the network transaction of a PSBT (BIP 174, "Input Finalizer", "Transaction Extractor").
use Rattle.std.specs.Prelude.{ℕ, ◌||◌, ◌&&◌, not, Bool, List, [], ◌∷◌, ◌++◌, map, filter, is_some, if◌then◌else◌, Option, Some, None, unwrap_or}
use Rattle.std.specs.List.{flat_map, list_all, list_any}
use Rattle.std.specs.Int.{w32, to_le_bytes}
use Rattle.def_script.specs.Bytes.{Bytes}
use Rattle.def_script.specs.Witness.{items_text, witness_text}
use Rattle.def_psbt.specs.Transaction.{TransactionInput, Transaction, inputs_text, outputs_text, transaction_text, id_of}
use Rattle.def_psbt.specs.Map.{Pair, Map, Psbt, type_of}
use Rattle.def_psbt.specs.Types.{IN_PARTIAL_SIG, IN_FINAL_SCRIPTSIG, IN_FINAL_SCRIPTWITNESS, IN_RIPEMD160, IN_HASH256}
use Rattle.def_spend.specs.Fields.{field, is_between}
use Rattle.def_spend.specs.Hashes.{script_in}
use Rattle.def_spend.specs.Input.{Spend}
use Rattle.def_spend.specs.declared.Kind.{Kind}
use Rattle.def_spend.specs.Kinds.{kind_of, ends_in_script, open_script_sig}
use Rattle.def_spend.specs.Reading.{Input, has_byte, has_item, has_final}
use Rattle.def_spend.specs.States.{state_of, is_ready, stack_of}

-- ---- the final map

-- what only signers want, and what was final: cleared once the input is
abbrev pub is_cleared : (type : ℕ) → Bool
is_cleared type = is_between IN_PARTIAL_SIG IN_FINAL_SCRIPTWITNESS type || is_between IN_RIPEMD160 IN_HASH256 type

abbrev pub is_kept : Pair → Bool
is_kept pair = not (is_cleared (type_of pair.key))

abbrev pub script_sig_pair : (script_sig : Bytes) → Pair
script_sig_pair script_sig = record { key = IN_FINAL_SCRIPTSIG ∷ []; value = script_sig }

abbrev pub witness_pair : (witness : Bytes) → Pair
witness_pair witness = record { key = IN_FINAL_SCRIPTWITNESS ∷ []; value = witness }

-- the final scriptSig, which isn't written where it is empty, and the final witness
abbrev pub final_pairs : (script_sig witness : Bytes) → Map
final_pairs [] witness = witness_pair witness ∷ []
final_pairs (byte ∷ bytes) witness = script_sig_pair (byte ∷ bytes) ∷ witness_pair witness ∷ []

-- the pairs that are kept, in their order, and the final ones behind them
abbrev pub final_map : (fields : Map) → (script_sig witness : Bytes) → Map
final_map fields script_sig witness = filter is_kept fields ++ final_pairs script_sig witness

-- the scriptSig of a Ready input
abbrev pub script_sig_of : Spend → Bytes
script_sig_of spend = unwrap_or (open_script_sig spend) []

-- the witness of a kind (BIP 141): the satisfaction, and of P2WSH the witness script behind it
abbrev pub witness_by : Kind → (stack : List Bytes) → (script : Bytes) → Bytes
witness_by kind stack script = if ends_in_script kind then witness_text stack script else items_text stack

-- the witness of a Ready input
abbrev pub witness_of : Input → Bytes
witness_of input = witness_by (kind_of input.spend) (stack_of input) (script_in input.spend)

-- the map as it is written
abbrev pub written_map : Input → Map
written_map input =
    if is_ready (state_of input) then final_map input.spend.fields (script_sig_of input.spend) (witness_of input)
    else input.spend.fields

-- the PSBT with each input that is Ready made final
abbrev pub finalized : Psbt → List Input → Psbt
finalized psbt inputs = record psbt { inputs = map written_map inputs }

-- ---- the network transaction (BIP 144)

-- an input with its final scriptSig
abbrev pub final_input : TransactionInput → (fields : Map) → TransactionInput
final_input input fields = record input { script_sig = unwrap_or (field IN_FINAL_SCRIPTSIG fields) [] }

abbrev pub final_inputs : List TransactionInput → List Map → List TransactionInput
final_inputs [] maps = []
final_inputs (input ∷ inputs) [] = []
final_inputs (input ∷ inputs) (fields ∷ maps) = final_input input fields ∷ final_inputs inputs maps

-- the transaction of a PSBT with the final scriptSigs
abbrev pub final_transaction : Psbt → Transaction
final_transaction psbt = record psbt.transaction { inputs = final_inputs psbt.transaction.inputs psbt.inputs }

-- the final witness, which has no item where there is none
abbrev pub final_witness : (fields : Map) → Bytes
final_witness fields = unwrap_or (field IN_FINAL_SCRIPTWITNESS fields) (0x00 ∷ [])

-- the bytes of a transaction with witnesses: the marker and the flag behind the version, and the witnesses before the
-- lock time
abbrev pub witnessed_text : Transaction → (witnesses : List Bytes) → Bytes
witnessed_text transaction witnesses =
    to_le_bytes w32 transaction.version
    ++ 0x00 ∷ 0x01 ∷ []
    ++ inputs_text transaction.inputs
    ++ outputs_text transaction.outputs
    ++ flat_map (λ witness. witness) witnesses
    ++ to_le_bytes w32 transaction.lock_time

-- the bytes of the transaction as the network takes it: with witnesses where one has an item
abbrev pub network_text : Psbt → Bytes
network_text psbt =
    if list_any (λ fields. has_item (field IN_FINAL_SCRIPTWITNESS fields)) psbt.inputs
    then witnessed_text (final_transaction psbt) (map final_witness psbt.inputs)
    else transaction_text (final_transaction psbt)

-- ---- the id of the final transaction, before all inputs are final

-- the final scriptSig of an input, where it is known: of a Final one that of its map, which is empty where there is none; of any
-- other the one that spends its kind of output
abbrev pub known_script_sig : Spend → Option Bytes
known_script_sig spend =
    if has_final spend.fields then Some (unwrap_or (field IN_FINAL_SCRIPTSIG spend.fields) []) else open_script_sig spend

-- an input with its final scriptSig, which is left empty where it isn't known
abbrev pub known_input : Spend → TransactionInput
known_input spend = record spend.input { script_sig = unwrap_or (known_script_sig spend) [] }

abbrev pub known_inputs : List Spend → List TransactionInput
known_inputs = map known_input

-- each final scriptSig is known
abbrev pub are_known : List Spend → Bool
are_known = list_all (λ spend. is_some (known_script_sig spend))

-- a final scriptSig that is known has a byte: with it the transaction has another id
abbrev pub has_script_sig : List Spend → Bool
has_script_sig = list_any (λ spend. has_byte (known_script_sig spend))

-- the id of a transaction with the final scriptSigs of its inputs: where each is known and one has a byte
abbrev pub final_id : Transaction → List Spend → Option Bytes
final_id transaction spends =
    if are_known spends && has_script_sig spends then Some (id_of (record transaction { inputs = known_inputs spends })) else None
