-- What is kept of an input that was read. No public clause cites it, so it need not be believed.
use Rattle.std.specs.Prelude.{◌≡◌, ℕ, ◌≤◌, ◌^◌, slice_get, IfSome, Option, Some, None, Result, Ok, Err}
use Rattle.std.specs.Option.{option_map}
use Rattle.def_script.specs.Bytes.{Bytes}
use Rattle.def_script.specs.Witness.{weight}
use Rattle.def_machine.specs.declared.Locks.{Locks}
use Rattle.def_psbt.specs.Transaction.{TransactionInput}
use Rattle.def_psbt.specs.Map.{Psbt}
use Rattle.def_tree.specs.InRange.{IsInRange}
use Rattle.def_spend.specs.declared.Kind.{Kind}
use Rattle.def_spend.specs.declared.State.{State}
use Rattle.def_spend.specs.declared.Verification.{Verification}
use Rattle.def_spend.specs.declared.Verification.TheVariants.{Verified, Unverified}
use Rattle.def_spend.specs.Fields.{asked_type}
use Rattle.def_spend.specs.Utxo.{utxo_of, amount_of}
use Rattle.def_spend.specs.Hashes.{script_in, hash_by}
use Rattle.def_spend.specs.Input.{Spend, spends_of, locks_of}
use Rattle.def_spend.specs.Kinds.{kind_of}
use Rattle.def_spend.specs.Reading.{Input, script_code, HasReading}
use Rattle.def_spend.specs.States.{state_of}
use Rattle.ms_input.specs.Held.{Held, held_in}
use Rattle.ms_input.specs.Settled.{input_of, assets_in, words_in, chosen_in}
use Rattle.ms_input.specs.declared.finalize.settled.Settled.{Settled}
use Rattle.ms_input.specs.declared.input.verifying.Verifying.{Verifying}
use Rattle.ms_input.specs.declared.utxo.amount.Amount.{Amount}
use Rattle.ms_input.specs.declared.utxo.spent.Spent.{Spent}
use Rattle.ms_input.specs.Spending.{amount_seen, code_found}
use Rattle.ms_input.specs.Seen.{spend_at}
use Rattle.ms_input.specs.Verified.{verification_of, IsVerifying}
use Rattle.ms_tree.specs.Shape.{shape}

-- where an input stands
pub record IsAt (verification : Verification) (psbt : Psbt) (number : ℕ) (spend : Spend) (input : TransactionInput) (held : Held) : Type 0 where
  pub there : slice_get (spends_of verification psbt) number ≡ Some spend
  pub same_verification : spend.verification ≡ verification
  pub transaction : spend.transaction ≡ psbt.transaction
  pub same_number : spend.number ≡ number
  pub same_input : input ≡ spend.input
  pub map_is : slice_get psbt.inputs number ≡ Some spend.fields
  pub fields : held ≡ held_in spend.fields

-- this is what the transaction says of it, what its map holds, what it spends, and which signatures count
pub record IsToldOf (spend : Spend) (input : TransactionInput) (held : Held) (spent : Spent) (verifying : Verifying) : Type 0 where
  pub same_input : input ≡ spend.input
  pub fields : held ≡ held_in spend.fields
  pub amount : amount_seen spent.amount ≡ amount_of (utxo_of spend.input.outpoint spend.fields)
  pub script : code_found spent.script ≡ script_code spend
  pub verifies : IsVerifying verifying spend.transaction spend.number

-- what a signature of the asked type signs, where signatures are judged and there is a Script
abbrev pub asked_by : Verification → Result Bytes State → Spend → Option Bytes
asked_by Verified (Ok script) spend = hash_by (asked_type spend.fields) spend
asked_by Verified (Err state) spend = None
asked_by Unverified read spend = None

-- this is what its map holds, what it spends, its locks, which signatures count, and what those of the asked type sign
pub record IsSettledBy (spend : Spend) (held : Held) (spent : Spent) (locks : Locks) (verifying : Verifying) (hash : Option Bytes) : Type 0 where
  pub fields : held ≡ held_in spend.fields
  pub script : code_found spent.script ≡ script_code spend
  pub values : locks ≡ locks_of spend
  pub verified : spend.verification ≡ verification_of verifying
  pub hash_is : hash ≡ asked_by (verification_of verifying) (code_found spent.script) spend

-- what it demands
pub record IsGuarded (spend : Spend) (amount : Amount) (kind : Kind) (script : Bytes) : Type 0 where
  pub amount_is : amount_seen amount ≡ amount_of (utxo_of spend.input.outpoint spend.fields)
  pub kind_is : kind ≡ kind_of spend
  pub script_is : script ≡ script_in spend

-- what is found of it
pub record IsFound (input : Input) (settled : Settled) : Type 0 where
  pub tree_is : input.tree ≡ option_map shape settled.tree
  pub reading : HasReading input
  pub in_range : IfSome input.tree IsInRange
  pub state_is : settled.state ≡ state_of input
  pub assets_are : settled.assets ≡ assets_in settled.state input.spend
  pub words_are : option_map (λ w. w.items) settled.words ≡ words_in settled.state input.spend
  pub stack_is : settled.stack ≡ chosen_in settled.state input
  pub light : IfSome settled.stack (λ items. weight items ≤ 2 ^ 40)

-- the input with a number, and what is found of it
abbrev pub found_at : (verification : Verification) (psbt : Psbt) (number : ℕ) → Settled → Input
found_at verification psbt number settled = input_of (spend_at verification psbt number) (option_map shape settled.tree)

pub record IsRead (verification : Verification) (psbt : Psbt) (number : ℕ) (input : TransactionInput) (held : Held) (amount : Amount) (kind : Kind) (script : Bytes)
    (asked : Option Bytes) (settled : Settled) : Type 0 where
  pub at : IsAt verification psbt number (spend_at verification psbt number) input held
  pub guarded : IsGuarded (spend_at verification psbt number) amount kind script
  pub asked_is : asked ≡ asked_by verification (script_code (spend_at verification psbt number)) (spend_at verification psbt number)
  pub found : IsFound (found_at verification psbt number settled) settled
