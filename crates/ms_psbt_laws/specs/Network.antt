-- What `extract` writes, read again: the transaction of the PSBT with each final scriptSig and each final witness.
use Rattle.std.specs.Prelude.{◌≡◌, ◌==◌, ◌&&◌, ◌≤◌, nat_lt, false, true, List, [], ◌∷◌, ◌++◌, All, length, slice_index, map, if◌then◌else◌, Option, Some, None, unwrap_or}
use Rattle.std.specs.Option.{option_map}
use Rattle.std.specs.Int.{w32}
use Rattle.def_hash.specs.Hex.{from_hex}
use Rattle.def_script.specs.Bytes.{Bytes}
use Rattle.def_psbt.specs.Transaction.{Transaction, id_of}
use Rattle.def_psbt.specs.Map.{Psbt}
use Rattle.def_psbt.specs.Part.{◌>>=◌, first_bytes, first_number, first_many, whole}
use Rattle.def_psbt.specs.TransactionReading.{first_sides, first_witness, transaction_of, network_transaction_of}
use Rattle.def_psbt.specs.Forms.{witness_of}
use Rattle.def_psbt.specs.Types.{IN_FINAL_SCRIPTSIG}
use Rattle.def_spend.specs.Fields.{field}
use Rattle.def_spend.specs.declared.Verification.{Verification}
use Rattle.def_spend.specs.Input.{spends_of}
use Rattle.def_spend.specs.Reading.{has_byte}
use Rattle.def_spend.specs.States.{state_of, is_final}
use Rattle.def_spend.specs.Finalized.{final_witness, final_transaction, network_text, final_id, finalized}
use Rattle.ms_given_laws.specs.Given.{OfEachGiven, OfEachPsbt}

-- the witnesses of a transaction in BIP 144's form, whole, with those parts of it as in `witnessed_transaction_of`
unfoldable pub witnesses_of : Bytes → Option (List (List Bytes))
witnesses_of bytes = do
  version ← first_number w32 bytes
  marker ← first_bytes 2 version.1
  sides ← first_sides marker.1
  witnesses ← first_many first_witness (length sides.0.0) sides.1
  lock_time ← first_number w32 witnesses.1
  whole (Some (witnesses.0, lock_time.1))

-- the witnesses of a transaction in either form: without BIP 144's form none has an item
unfoldable pub network_witnesses_of : Bytes → Option (List (List Bytes))
network_witnesses_of bytes =
    if nat_lt 4 (length bytes) && (slice_index bytes 4 == 0) then witnesses_of bytes
    else option_map (λ transaction. map (λ input. []) transaction.inputs) (transaction_of bytes)

-- an input: an outpoint, an empty scriptSig and a sequence number
abbrev pub ONE_INPUT : Bytes
ONE_INPUT = from_hex "0105050505050505050505050505050505050505050505050505050505050505050000000000feffffff"

-- two items of the one input; none of one without BIP 144's form; and a transaction that ends inside its witness
abbrev pub SomeWitnesses : Type 0
SomeWitnesses =
    (network_witnesses_of (from_hex "020000000001" ++ ONE_INPUT ++ from_hex "0002000151" ++ from_hex "00000000") ≡ Some (([] ∷ (0x51 ∷ []) ∷ []) ∷ []))
    × (network_witnesses_of (from_hex "02000000" ++ ONE_INPUT ++ from_hex "0000000000") ≡ Some ([] ∷ []))
    × (network_witnesses_of (from_hex "020000000001" ++ ONE_INPUT ++ from_hex "00020001") ≡ None)

-- bytes are read as a transaction with the version, the outpoints, the sequence numbers, the outputs and the lock time of a
-- PSBT's, and with the final scriptSig and the items of the final witness of each map
pub record IsReadAs (psbt : Psbt) (bytes : Bytes) : Type 0 where
  pub transaction : Transaction
  pub read : network_transaction_of bytes ≡ Some transaction
  pub version : transaction.version ≡ psbt.transaction.version
  pub outpoints : map (λ input. input.outpoint) transaction.inputs ≡ map (λ input. input.outpoint) psbt.transaction.inputs
  pub sequences : map (λ input. input.sequence) transaction.inputs ≡ map (λ input. input.sequence) psbt.transaction.inputs
  pub outputs : transaction.outputs ≡ psbt.transaction.outputs
  pub lock_time : transaction.lock_time ≡ psbt.transaction.lock_time
  pub script_sigs : map (λ input. input.script_sig) transaction.inputs ≡ map (λ fields. unwrap_or (field IN_FINAL_SCRIPTSIG fields) []) psbt.inputs
  pub witnesses : List (List Bytes)
  pub witnessed : network_witnesses_of bytes ≡ Some witnesses
  pub items : map (λ fields. witness_of (final_witness fields)) psbt.inputs ≡ map Some witnesses

-- so is the network transaction of every PSBT that a source of bytes gives, and that has an input
abbrev pub NetworkIsRead : Type 0
NetworkIsRead = OfEachGiven (λ psbt. 1 ≤ length psbt.inputs → IsReadAs psbt (network_text psbt))

-- and where no final scriptSig has a byte, its id is that of the PSBT's transaction
abbrev pub IdStays : Type 0
IdStays =
    OfEachGiven (λ psbt. All (λ fields. has_byte (field IN_FINAL_SCRIPTSIG fields) ≡ false) psbt.inputs →
    id_of (final_transaction psbt) ≡ id_of psbt.transaction)

-- where each input is Final, the final transaction has the final id that is told, and that of the PSBT's transaction where none is
abbrev pub IdIsTold : Type 0
IdIsTold =
    OfEachPsbt (λ psbt inputs. All (λ input. is_final (state_of input) ≡ true) inputs → (verification : Verification) →
    id_of (final_transaction psbt) ≡ unwrap_or (final_id psbt.transaction (spends_of verification psbt)) (id_of psbt.transaction))

-- and the final id is told before `finalize` as it is after it
abbrev pub FinalIdStays : Type 0
FinalIdStays =
    OfEachPsbt (λ psbt inputs. (verification : Verification) →
    final_id psbt.transaction (spends_of verification (finalized psbt inputs)) ≡ final_id psbt.transaction (spends_of verification psbt))
