-- On what an input depends: on its map, the transaction, its number and which signatures count alone.
use Rattle.std.specs.Prelude.{◌≡◌, ℕ, List, slice_get, Option}
use Rattle.std.specs.Option.{option_map}
use Rattle.def_script.specs.Bytes.{Bytes}
use Rattle.def_psbt.specs.Map.{Psbt}
use Rattle.def_spend.specs.declared.Verification.{Verification}
use Rattle.def_spend.specs.Hashes.{hash_by}
use Rattle.def_spend.specs.Good.{word_of}
use Rattle.def_spend.specs.Kinds.{kind_of}
use Rattle.def_spend.specs.Reading.{Input, AreInputs}
use Rattle.def_spend.specs.States.{state_of}
use Rattle.def_spend.specs.Finalized.{witness_of, written_map}
use Rattle.def_verify.specs.Verdict.{verdict_of}
use Rattle.def_psbt_answer.specs.Report.{input_report, input_hashes}
use Rattle.def_psbt_answer.specs.Verified.{input_verdict}

-- two inputs, if they are there, have one state, one kind of output, one witness, one map as it is written, the same hashes and words of
-- signatures, one verdict, and the same lines of `inspect`, of `hashes` and of `verify`
pub record AreAlike (one other : Option Input) : Type 0 where
  pub state : option_map state_of one ≡ option_map state_of other
  pub kind : option_map (λ input. kind_of input.spend) one ≡ option_map (λ input. kind_of input.spend) other
  pub witness : option_map witness_of one ≡ option_map witness_of other
  pub written : option_map written_map one ≡ option_map written_map other
  pub hash : (type : ℕ) → option_map (λ input. hash_by type input.spend) one ≡ option_map (λ input. hash_by type input.spend) other
  pub word : (pair : Bytes × Bytes) → option_map (λ input. word_of input.spend pair) one ≡ option_map (λ input. word_of input.spend pair) other
  pub verdict : option_map verdict_of one ≡ option_map verdict_of other
  pub report : option_map input_report one ≡ option_map input_report other
  pub hashes : option_map input_hashes one ≡ option_map input_hashes other
  pub verified : option_map input_verdict one ≡ option_map input_verdict other

-- the inputs of a number are alike in any two PSBTs with one transaction and the same map at this number
abbrev pub MapDecidesAlone : Type 0
MapDecidesAlone =
    (verification : Verification) (psbt other : Psbt) (inputs others : List Input) (number : ℕ) →
    AreInputs verification psbt inputs → AreInputs verification other others →
    psbt.transaction ≡ other.transaction → slice_get psbt.inputs number ≡ slice_get other.inputs number →
    AreAlike (slice_get inputs number) (slice_get others number)
