-- How the bytes of a transaction are read (Bitcoin Core: `UnserializeTransaction`; BIP 144, "Specification").
use Rattle.std.specs.Prelude.{◌==◌, ◌&&◌, nat_lt, List, length, slice_index, if◌then◌else◌, Option, Some, None}
use Rattle.std.specs.Int.{w32, w64}
use Rattle.def_script.specs.Bytes.{Bytes}
use Rattle.def_psbt.specs.Transaction.{Outpoint, TransactionInput, TransactionOutput, Transaction}
use Rattle.def_psbt.specs.Part.{Part, ◌>>=◌, first_bytes, first_number, first_string, first_many, first_list, whole}

unfoldable pub first_outpoint : Bytes → Part Outpoint
first_outpoint bytes = do
  id ← first_bytes 32 bytes
  index ← first_number w32 id.1
  Some (record { id = id.0; index = index.0 }, index.1)

unfoldable pub first_input : Bytes → Part TransactionInput
first_input bytes = do
  outpoint ← first_outpoint bytes
  script_sig ← first_string outpoint.1
  sequence ← first_number w32 script_sig.1
  Some (record { outpoint = outpoint.0; script_sig = script_sig.0; sequence = sequence.0 }, sequence.1)

unfoldable pub first_output : Bytes → Part TransactionOutput
first_output bytes = do
  amount ← first_number w64 bytes
  script ← first_string amount.1
  Some (record { amount = amount.0; script = script.0 }, script.1)

-- the inputs and the outputs
unfoldable pub first_sides : Bytes → Part (List TransactionInput × List TransactionOutput)
first_sides bytes = do
  inputs ← first_list first_input bytes
  outputs ← first_list first_output inputs.1
  Some ((inputs.0, outputs.0), outputs.1)

-- a transaction without witnesses, whole: version, inputs, outputs, lock time
unfoldable pub transaction_of : Bytes → Option Transaction
transaction_of bytes = do
  version ← first_number w32 bytes
  sides ← first_sides version.1
  lock_time ← first_number w32 sides.1
  whole (Some (record { version = version.0; inputs = sides.0.0; outputs = sides.0.1; lock_time = lock_time.0 }, lock_time.1))

-- a witness: a count, and that many strings, each behind its size
abbrev pub first_witness : Bytes → Part (List Bytes)
first_witness = first_list first_string

-- a transaction in BIP 144's form, whole: behind the version 00 and 01, at least one input, and a
-- witness for each input before the lock time
unfoldable pub witnessed_transaction_of : Bytes → Option Transaction
witnessed_transaction_of bytes = do
  version ← first_number w32 bytes
  marker ← first_bytes 2 version.1
  sides ← first_sides marker.1
  witnesses ← first_many first_witness (length sides.0.0) sides.1
  lock_time ← first_number w32 witnesses.1
  if (slice_index marker.0 1 == 1) && nat_lt 0 (length sides.0.0)
      then whole (Some (record { version = version.0; inputs = sides.0.0; outputs = sides.0.1; lock_time = lock_time.0 }, lock_time.1))
      else None

-- a transaction with or without witnesses, whole: the byte 00 behind the version begins BIP 144's form
unfoldable pub network_transaction_of : Bytes → Option Transaction
network_transaction_of bytes =
    if nat_lt 4 (length bytes) && (slice_index bytes 4 == 0) then witnessed_transaction_of bytes else transaction_of bytes
