-- What is promised of what a call of `msat-psbt` writes.
use Rattle.std.specs.Prelude.{◌≡◌, ◌⊎◌, ℕ, ◌↔◌, ◌≤◌, List, [], ◌∷◌, ◌++◌, map, All, length, Some, Ok, unwrap_or}
use Rattle.hex.specs.Hex.{encode_lower}
use Rattle.base64.specs.Engines.{standard}
use Rattle.base64.specs.GeneralPurpose.{encode_of}
use Rattle.def_script.specs.Bytes.{Bytes, IsBytes}
use Rattle.def_script.specs.Witness.{weight}
use Rattle.def_tree.specs.Tree.{Tree}
use Rattle.def_satisfaction.specs.Satisfaction.{Sat}
use Rattle.def_choice.specs.Tight.{Tight}
use Rattle.def_choice.specs.NonMalleable.{NonMalleable}
use Rattle.def_promises.specs.Accepted.{Unchangeable, HasNothingToAccept}
use Rattle.def_curve.specs.declared.Judgement.TheVariants.{Good}
use Rattle.def_psbt.specs.Transaction.{id_of}
use Rattle.def_psbt.specs.Map.{Psbt, psbt_text}
use Rattle.def_psbt.specs.Source.{MAX_SOURCE_SIZE, psbt_of}
use Rattle.def_combine.specs.Combine.{Parts, lines, lines_from, parts_of, combined}
use Rattle.def_spend.specs.declared.State.TheVariants as state
use Rattle.def_spend.specs.declared.Verification.{Verification}
use Rattle.def_spend.specs.declared.Verification.TheVariants.{Verified, Unverified}
use Rattle.def_spend.specs.Fields.{signatures_in}
use Rattle.def_spend.specs.Good.{word_of, assets_of}
use Rattle.def_spend.specs.Input.{spends_of}
use Rattle.def_spend.specs.Reading.{Input, AreInputs}
use Rattle.def_spend.specs.States.{state_of, stack_of}
use Rattle.def_spend.specs.Finalized.{final_transaction, final_id}
use Rattle.def_answer.specs.Lines.{line}
use Rattle.def_psbt_answer.specs.declared.status.Status.TheVariants as status
use Rattle.def_psbt_answer.specs.declared.words.Command.TheVariants as command
use Rattle.def_psbt_answer.specs.declared.words.Request.TheVariants as request
use Rattle.def_psbt_answer.specs.Words.{request_of}
use Rattle.def_psbt_answer.specs.Answer.{Answer}
use Rattle.ms_combine_laws.specs.Combined.{all_parts, IsOfSame, AreJoined}
use Rattle.ms_psbt_laws.specs.Written.{IsSourceOf}
use Rattle.ms_psbt_laws.specs.Network.{IsReadAs}
use Rattle.ms_spend_laws.specs.Tried.{IsTriedWith}
use Rattle.ms_spend_laws.specs.Ready.{IsWitness, IsAcceptedByAll}
use Rattle.ms_spend_laws.specs.Planned.{IsVain, IsEnough}
use Rattle.ms_spend_laws.specs.Verified.{IsAcceptedByConsensus, counting, AreSame}
use Rattle.psbt_cli.specs.Ends.{Call}
use Rattle.psbt_cli.specs.Shown.{IsCalled, WritesSuch, Shows}

-- ---- nothing is lost

-- what `finalize` writes, where it isn't too long, is a source of the same transaction, the same global pairs, the same maps of
-- outputs, the same map of each input that wasn't Ready, and the final map of each that was; none of its inputs is Ready; and
-- `finalize` in the same form answers to it by the same bytes
abbrev pub LosesNothing : Call → Type 0
LosesNothing call =
    (verification : Verification) → Shows (command.Finalize verification) call (λ source psbt inputs report. length report ≤ MAX_SOURCE_SIZE →
    IsSourceOf verification psbt inputs report × Answer call.words report call.status report)

-- ---- the final witness

-- the satisfaction of a Ready input is canonical; its witness has of P2WSH the witness script last, and of P2WPKH it is a signature and
-- the key; the spent output is the program of that script or key, or it is P2SH of that program and the scriptSig is the one push of it;
-- the interpreter accepts the satisfaction on the Script, and of P2WSH the bytes of the witness, where the check takes the signatures
-- that count, whatever others it takes, and where the good ones count also under exactly the check of consensus; nobody can change it;
-- and no canonical satisfaction that nobody can change weighs less
pub record IsWitnessed (input : Input) (tree : Tree) : Type 0 where
  pub canonical : Sat tree (assets_of input.spend) (stack_of input)
  pub witness : IsWitness input tree
  pub accepted : IsAcceptedByAll input tree
  pub consensus : input.spend.verification ≡ Verified → IsAcceptedByConsensus input tree
  pub unchangeable : Unchangeable tree (assets_of input.spend) (stack_of input)
  pub tight : Tight tree (assets_of input.spend) (stack_of input)
  pub lightest : (other : List Bytes) → Sat tree (assets_of input.spend) other → NonMalleable tree (assets_of input.spend) other →
      weight (stack_of input) ≤ weight other

-- each input that is made final is witnessed so, and these are the tried ones of which a canonical satisfaction exists
abbrev pub ShowsWitnesses : Call → Type 0
ShowsWitnesses call =
    (verification : Verification) → Shows (command.Finalize verification) call (λ source psbt inputs report. All (λ input.
    ((state_of input ≡ state.Ready) ↔ IsTriedWith input (λ tree. (stack : List Bytes) × Sat tree (assets_of input.spend) stack))
    × (state_of input ≡ state.Ready → (tree : Tree) → input.tree ≡ Some tree → IsWitnessed input tree)) inputs)

-- ---- what is lacking

-- of an Unsatisfied input no canonical satisfaction exists, and what the Script accepts under the signatures that count is
-- fresh; where there is no plan, no signatures would be enough; and where each key that is asked adds a signature, the input is
-- Ready and weighs at most what was said
abbrev pub TellsLacking : Call → Type 0
TellsLacking call =
    (verification : Verification) → Shows (command.Inspect verification) call (λ source psbt inputs report. All (λ input. state_of input ≡ state.Unsatisfied → (tree : Tree) →
    input.tree ≡ Some tree → HasNothingToAccept tree (assets_of input.spend) × IsVain input tree × IsEnough input tree) inputs)

-- ---- with the option and without it

-- each signature in the map of an input is good
abbrev pub AreGood : Input → Type 0
AreGood input = All (λ pair. word_of input.spend pair ≡ Good) (signatures_in input.spend.fields)

-- where each signature of each input is good, the answer of `finalize` is one with the option and without it
abbrev pub AnswersAlike : Call → Type 0
AnswersAlike call =
    (verification other : Verification) (words : List Bytes) → request_of words ≡ Some (request.One (command.Finalize other)) →
    Shows (command.Finalize verification) call (λ source psbt inputs report. All AreGood inputs → Answer words source call.status report)

-- where each signature of an input is good, it has one state, satisfaction, plan and map as written in both forms; and where its states
-- differ, it is Ready with the option, and Unsatisfied without it
pub record IsCompared (input : Input) : Type 0 where
  pub good : AreGood input → AreSame (counting Verified input) (counting Unverified input)
  pub differ : (state_of (counting Verified input) ≡ state_of (counting Unverified input))
      ⊎ ((state_of (counting Unverified input) ≡ state.Ready) × (state_of (counting Verified input) ≡ state.Unsatisfied))

-- the inputs of either form of `inspect` are those of the other, but for the signatures that count, and each compares so
abbrev pub ComparesForms : Call → Type 0
ComparesForms call =
    (verification other : Verification) → Shows (command.Inspect verification) call (λ source psbt inputs report.
    AreInputs other psbt (map (counting other) inputs) × All IsCompared inputs)

-- ---- the network transaction

-- a report is the digits of bytes that are read as the transaction of the PSBT with each final scriptSig and each final witness; its
-- id is the one that `inspect` tells as the final one, and that of the PSBT's transaction where it tells none
pub record IsExtracted (psbt : Psbt) (report : Bytes) : Type 0 where
  pub bytes : Bytes
  pub digits : report ≡ line (encode_lower bytes)
  pub read : IsReadAs psbt bytes
  pub id : (verification : Verification) →
      id_of (final_transaction psbt) ≡ unwrap_or (final_id psbt.transaction (spends_of verification psbt)) (id_of psbt.transaction)

-- so is what `extract` writes where it is done
abbrev pub ExtractsTransaction : Call → Type 0
ExtractsTransaction call =
    Shows command.Extract call (λ source psbt inputs report. call.status ≡ status.Done → IsExtracted psbt report)

-- ---- the combined PSBT

-- a report is the base64 of a PSBT that is read again, where it isn't too long; its version and its transaction are those of each part;
-- in each of its maps stand exactly the keys that stand there in some part, each with the pair of the first that has it; combined with
-- any part behind it it is itself; and with others behind it it goes on as its parts do
pub record IsCombination (parts : Parts) (whole : Psbt) (report : Bytes) : Type 0 where
  pub base64 : report ≡ line (encode_of standard (psbt_text whole.global whole.inputs whole.outputs))
  pub read : length report ≤ MAX_SOURCE_SIZE → psbt_of report ≡ Ok whole
  pub same : All (IsOfSame whole) (all_parts parts)
  pub keys : AreJoined parts whole
  pub again : All (λ part. combined (record { first = whole; others = part ∷ [] }) ≡ Ok whole) (all_parts parts)
  pub first : (others : List Psbt) →
      combined (record { first = whole; others = others }) ≡ combined (record { first = parts.first; others = parts.others ++ others })

-- so is what `combine` writes of parts that go together; and one alone comes out in its own bytes
abbrev pub CombinesParts : Call → Type 0
CombinesParts call =
    (source : Bytes) (parts : Parts) (whole : Psbt) → IsCalled request.Combine call source → parts_of source ≡ Ok parts → combined parts ≡ Ok whole →
    WritesSuch call (λ report. IsCombination parts whole report
    × ((bytes : Bytes) (number : ℕ) → IsBytes bytes → lines_from 1 (lines source) ≡ record { number = number; text = encode_of standard bytes } ∷ [] →
    report ≡ line (encode_of standard bytes)))
