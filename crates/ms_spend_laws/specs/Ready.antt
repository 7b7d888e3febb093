-- What is promised of the witness of a Ready input.
use Rattle.std.specs.Prelude.{◌≡◌, ◌⊎◌, ℕ, ◌≤◌, List, [], ◌∷◌, Contains, true, Option, Some, None}
use Rattle.def_script.specs.Bytes.{Bytes}
use Rattle.def_script.specs.Witness.{items_text, witness_text, weight}
use Rattle.def_machine.specs.Stacks.{Pairs, Checker}
use Rattle.def_machine.specs.Machine.{Given}
use Rattle.def_machine.specs.Program.{program_of}
use Rattle.def_machine.specs.Run.{accepted}
use Rattle.def_tree.specs.Tree.{Key, Tree}
use Rattle.def_emit.specs.Emit.{script_of}
use Rattle.def_limits.specs.Limits.{AreLimits}
use Rattle.def_limits.specs.declared.Limits.{Limits}
use Rattle.def_satisfaction.specs.Satisfaction.{Sat, Holds}
use Rattle.def_choice.specs.Tight.{Tight}
use Rattle.def_choice.specs.NonMalleable.{NonMalleable, given_with}
use Rattle.def_promises.specs.Accepted.{IsAcceptedWithin, Unchangeable}
use Rattle.def_psbt.specs.Transaction.{TransactionOutput}
use Rattle.def_spend.specs.declared.State.TheVariants as state
use Rattle.def_psbt.specs.Types.{IN_WITNESS_SCRIPT}
use Rattle.def_spend.specs.Fields.{field, signatures_in}
use Rattle.def_spend.specs.Utxo.{Utxo, utxo_of}
use Rattle.def_spend.specs.Utxo as utxo
use Rattle.def_spend.specs.Input.{Spend}
use Rattle.def_spend.specs.Good.{counted_signatures, assets_of}
use Rattle.def_spend.specs.Kinds.{IsGuardedBy, kind_of, ends_in_script}
use Rattle.def_spend.specs.Reading.{Input}
use Rattle.def_spend.specs.States.{stack_of}
use Rattle.def_spend.specs.Finalized.{script_sig_of, witness_of}
use Rattle.ms_witness.specs.Replaying.{replay, ran}
use Rattle.ms_spend_laws.specs.Tried.{OfEachIn}
use Rattle.ms_spend_laws.specs.KeyHash.{pkh, key_program}

-- the output that is spent, where it is known
abbrev pub output_in : Utxo → Option TransactionOutput
output_in utxo.none = None
output_in utxo.wrong = None
output_in (utxo.proved output) = Some output
output_in (utxo.claimed output) = Some output

abbrev pub spent_output : Spend → Option TransactionOutput
spent_output spend = output_in (utxo_of spend.input.outpoint spend.fields)

-- ---- it is a canonical satisfaction, as a witness

abbrev pub ReadyIsCanonical : Type 0
ReadyIsCanonical = OfEachIn state.Ready (λ input tree. Sat tree (assets_of input.spend) (stack_of input))

-- of P2WSH the witness is that of the stack, and its last item is the map's witness script, which is the Script of the miniscript;
-- the spent output is its program, and the scriptSig empty, or it is P2SH of that program, and the scriptSig the one push of it
pub record IsScriptWitness (input : Input) (tree : Tree) : Type 0 where
  pub kind : ends_in_script (kind_of input.spend) ≡ true
  pub script : field IN_WITNESS_SCRIPT input.spend.fields ≡ Some (script_of tree)
  pub output : TransactionOutput
  pub spent : spent_output input.spend ≡ Some output
  pub guarded : IsGuardedBy (program_of (script_of tree)) output.script (script_sig_of input.spend)
  pub witness : witness_of input ≡ witness_text (stack_of input) (script_of tree)

-- of P2WPKH it is a signature of a compressed key, which the map holds and which counts, and the key: the miniscript is `pkh` of it, the spent output
-- is the program of its HASH160, and the scriptSig empty, or it is P2SH of that program, and the scriptSig the one push of it
pub record IsKeyWitness (input : Input) (tree : Tree) : Type 0 where
  pub key : Key
  pub sig : Bytes
  pub held : Contains (signatures_in input.spend.fields) (key, sig)
  pub counts : Contains (counted_signatures input.spend) (key, sig)
  pub miniscript : tree ≡ pkh key
  pub output : TransactionOutput
  pub spent : spent_output input.spend ≡ Some output
  pub guarded : IsGuardedBy (key_program key) output.script (script_sig_of input.spend)
  pub witness : witness_of input ≡ items_text (sig ∷ key ∷ [])

abbrev pub IsWitness : Input → Tree → Type 0
IsWitness input tree = IsScriptWitness input tree ⊎ IsKeyWitness input tree

abbrev pub ReadyHasWitness : Type 0
ReadyHasWitness = OfEachIn state.Ready IsWitness

-- ---- the interpreter accepts it

-- the bytes of the witness, under the program of the Script, replay as a run that is accepted
abbrev pub ReplaysAccepted : Input → Tree → Given → Type 0
ReplaysAccepted input tree given =
    (ops : ℕ) × (peak : ℕ) × (checks : Pairs)
    × (replay given (program_of (script_of tree)) (witness_of input) ≡ ran (accepted ops peak checks))

-- with the transaction's locks, where the signatures that count are good, whatever others are: of P2WSH the bytes of the witness
-- replay so, and of each kind the run of the stack on the Script is accepted, within the limits of the miniscript
pub record IsAcceptedByAll (input : Input) (tree : Tree) : Type 0 where
  pub replayed : ends_in_script (kind_of input.spend) ≡ true → (checker : Checker) → Holds checker (assets_of input.spend) → ReplaysAccepted input tree (given_with (assets_of input.spend) checker)
  pub within : (limits : Limits) (checker : Checker) → AreLimits tree limits → Holds checker (assets_of input.spend) →
      IsAcceptedWithin tree limits (given_with (assets_of input.spend) checker) (stack_of input)

abbrev pub ReadyIsAccepted : Type 0
ReadyIsAccepted = OfEachIn state.Ready IsAcceptedByAll

-- ---- nobody can change it

-- every other stack that is accepted passes a check that this one doesn't, or is fresh and has an unknown preimage or
-- another key with the same hash
abbrev pub ReadyIsUnchangeable : Type 0
ReadyIsUnchangeable = OfEachIn state.Ready (λ input tree. Unchangeable tree (assets_of input.spend) (stack_of input))

-- ---- of those that nobody can change

abbrev pub ReadyIsTight : Type 0
ReadyIsTight = OfEachIn state.Ready (λ input tree. Tight tree (assets_of input.spend) (stack_of input))

-- no canonical satisfaction that nobody can change weighs less
abbrev pub ReadyIsLightest : Type 0
ReadyIsLightest =
    OfEachIn state.Ready (λ input tree.
    (other : List Bytes) → Sat tree (assets_of input.spend) other → NonMalleable tree (assets_of input.spend) other →
    weight (stack_of input) ≤ weight other)
