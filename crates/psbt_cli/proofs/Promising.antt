-- From what a call of `msat-psbt` writes to what is promised of it.
use Rattle.std.proofs.Common.{◌≡◌, ℕ, ◌≤◌, true, List, [], ◌∷◌, length, Option, Some, None, Result, Ok, inl, inr, refl, sym, ◌∙◌, ap, subst, arith}
use Rattle.std.specs.List.{AllByRecursion}
use Rattle.std.proofs.lemmas.Bool.{cases_Bool}
use Rattle.std.proofs.lemmas.List.Elements.{All-from_recursion}
use Rattle.hex.specs.Hex.{encode_lower}
use Rattle.base64.specs.Engines.{standard}
use Rattle.base64.specs.GeneralPurpose.{encode_of}
use Rattle.def_script.specs.Bytes.{Bytes, IsBytes}
use Rattle.def_psbt.specs.Transaction.{TransactionInput, Transaction}
use Rattle.def_combine.specs.declared.CombineRefusal.{CombineRefusal}
use Rattle.def_combine.specs.Combine.{◌>>=◌, Parts, parts_of, combined, combined_of}
use Rattle.def_psbt.specs.Map.{Map, Psbt, psbt_text}
use Rattle.def_psbt.specs.Source.{MAX_SOURCE_SIZE, psbt_of}
use Rattle.def_spend.specs.declared.Verification.{Verification}
use Rattle.def_spend.specs.Input.{Spend, spends_from}
use Rattle.def_spend.specs.Reading.{Input}
use Rattle.def_spend.specs.States.{state_of, is_final}
use Rattle.def_spend.specs.Finalized.{network_text}
use Rattle.def_answer.specs.Lines.{line}
use Rattle.def_psbt_answer.specs.declared.status.Status.TheVariants as status
use Rattle.def_psbt_answer.specs.Report.{finalize_report}
use Rattle.def_psbt_answer.specs.Reply.{Reply, reply, form_of, first_open, extract_by, extract_reply, command_reply, combine_reply}
use Rattle.def_psbt_answer.specs.Answer.{verification_of, Answer}
use Rattle.ms_combine_laws.specs.Combined.{IsReadAgain, HasSameTransaction, HasSameKeys, OneIsItself, HoldsEachPart, GoesOn}
use Rattle.ms_psbt_laws.proofs.Sources.{source_back}
use Rattle.ms_psbt_laws.proofs.Wholes.{text_fits}
use Rattle.ms_psbt_laws.specs.Written.{IsSourceOf, ReportIsSource, AnsweredAgain}
use Rattle.ms_psbt_laws.specs.Network.{NetworkIsRead, IdIsTold}
use Rattle.def_psbt_answer.specs.declared.words.Command.TheVariants as command
use Rattle.def_psbt_answer.specs.declared.words.Form.TheVariants as form
use Rattle.def_psbt_answer.specs.declared.words.Request.TheVariants as request
use Rattle.ms_spend_laws.specs.Tried.{ReadyExactly}
use Rattle.ms_spend_laws.specs.Ready.{ReadyIsCanonical, ReadyHasWitness, ReadyIsAccepted, ReadyIsUnchangeable, ReadyIsTight, ReadyIsLightest}
use Rattle.ms_spend_laws.specs.Unsatisfied.{UnsatisfiedHasNothing}
use Rattle.ms_spend_laws.specs.Verified.{ReadyIsAcceptedByConsensus}
use Rattle.ms_spend_laws.specs.Planned.{NoPlanIsVain, PlanMakesReady}
use Rattle.psbt_cli.specs.Ends.{Call, Ends}
use Rattle.psbt_cli.specs.Shown.{WritesSuch, IsAsked}
use Rattle.psbt_cli.specs.Promises.{LosesNothing, ShowsWitnesses, TellsLacking, IsExtracted, ExtractsTransaction, IsCombination, CombinesParts}
use Rattle.psbt_cli.proofs.Showing.{of_shown, shown_answer, shown, called}

-- what the laws say of a Ready input
pub record ReadyLaws : Type 0 where
  pub exactly : ReadyExactly
  pub canonical : ReadyIsCanonical
  pub witness : ReadyHasWitness
  pub accepted : ReadyIsAccepted
  pub consensus : ReadyIsAcceptedByConsensus
  pub unchangeable : ReadyIsUnchangeable
  pub tight : ReadyIsTight
  pub lightest : ReadyIsLightest

pub shows_witnesses : ReadyLaws → (call : Call) → Ends call → ShowsWitnesses call
shows_witnesses laws call ends verification source psbt inputs is =
    let bytes = is.called.bytes in
    of_shown call _ _
    (λ report e k d lt. (
      laws.exactly source psbt bytes is.given verification inputs is.read k d lt,
      λ ready tree found. record {
        canonical = laws.canonical source psbt bytes is.given verification inputs is.read k d lt ready tree found;
        witness = laws.witness source psbt bytes is.given verification inputs is.read k d lt ready tree found;
        accepted = laws.accepted source psbt bytes is.given verification inputs is.read k d lt ready tree found;
        consensus = laws.consensus source psbt bytes is.given verification inputs is.read k d lt ready tree found;
        unchangeable = laws.unchangeable source psbt bytes is.given verification inputs is.read k d lt ready tree found;
        tight = laws.tight source psbt bytes is.given verification inputs is.read k d lt ready tree found;
        lightest = laws.lightest source psbt bytes is.given verification inputs is.read k d lt ready tree found;
      },
    ))
    (shown (command.Finalize verification) call source psbt inputs ends is)

pub tells_lacking : UnsatisfiedHasNothing → NoPlanIsVain → PlanMakesReady → (call : Call) → Ends call → TellsLacking call
tells_lacking nothing vain enough call ends verification source psbt inputs is =
    let bytes = is.called.bytes in
    of_shown call _ _
    (λ report e k d lt unmet tree found. (
      nothing source psbt bytes is.given verification inputs is.read k d lt unmet tree found,
      vain source psbt bytes is.given verification inputs is.read k d lt unmet tree found,
      enough source psbt bytes is.given verification inputs is.read k d lt unmet tree found,
    ))
    (shown (command.Inspect verification) call source psbt inputs ends is)

-- ---- nothing is lost

lost : ReportIsSource → AnsweredAgain → (call : Call) (verification : Verification) (source : Bytes) (psbt : Psbt) (inputs : List Input)
    → IsAsked (command.Finalize verification) call source psbt inputs
    → (report : Bytes) → Answer call.words source call.status report → report ≡ finalize_report (form_of source) psbt inputs
    → length report ≤ MAX_SOURCE_SIZE → IsSourceOf verification psbt inputs report × Answer call.words report call.status report
lost written again call verification source psbt inputs is report a e few = (
  subst (λ (r : Bytes). IsSourceOf verification psbt inputs r) (sym e)
      (written source psbt is.called.bytes is.given verification inputs is.read (form_of source) (subst (λ (r : Bytes). length r ≤ MAX_SOURCE_SIZE) e few)),
  again call.words verification source psbt call.status report is.called.bytes is.called.named is.given few a,
)

pub loses_nothing : ReportIsSource → AnsweredAgain → (call : Call) → Ends call → LosesNothing call
loses_nothing written again call ends verification source psbt inputs is = go (shown_answer (command.Finalize verification) call source psbt inputs ends is)
  where
    go : WritesSuch call (λ report. Answer call.words source call.status report × (reply call.status report ≡ command_reply (command.Finalize verification) (form_of source) psbt inputs))
        → WritesSuch call (λ report. length report ≤ MAX_SOURCE_SIZE → IsSourceOf verification psbt inputs report × Answer call.words report call.status report)
    go (inl fault) = inl fault
    go (inr (report, w, h)) = inr (report, w, lost written again call verification source psbt inputs is report h.0 (ap (λ (r : Reply). r.report) h.1))

-- ---- the network transaction

-- where an input is read there is a map
has_map : (verification : Verification) (transaction : Transaction) (number : ℕ) (inputs : List TransactionInput) (maps : List Map) (spend : Spend) (spends : List Spend)
    → spend ∷ spends ≡ spends_from verification transaction number inputs maps → 1 ≤ length maps
has_map verification transaction number [] maps spend spends e = absurd cc
has_map verification transaction number (input ∷ inputs) [] spend spends e = absurd cc
has_map verification transaction number (input ∷ inputs) (fields ∷ maps) spend spends e = omega arith

-- what is extracted where it is done
done : (o : Option Input) (psbt : Psbt) (report : Bytes) → reply status.Done report ≡ extract_by o psbt → report ≡ line (encode_lower (network_text psbt))
done (Some input) psbt report e = let wrong : status.Done ≡ status.Open = ap (λ (r : Reply). r.status) e in absurd cc
done None psbt report e = ap (λ (r : Reply). r.report) e

-- an input that isn't Final is found
each_is_final : (inputs : List Input) → first_open inputs ≡ None → AllByRecursion (λ (input : Input). is_final (state_of input) ≡ true) inputs
each_is_final [] e = tt
each_is_final (input ∷ inputs) e = elim (cases_Bool (is_final (state_of input))) [
  | inl is ↦ (is, each_is_final inputs (rw is at e))
  | inr other ↦ absurd (some_open (rw other at e))
]
  where
    some_open : Some input ≡ None → ⊥
    some_open e = cc

-- where it is done there is none
none_open : (o : Option Input) (psbt : Psbt) (report : Bytes) → reply status.Done report ≡ extract_by o psbt → o ≡ None
none_open (Some input) psbt report e = let wrong : status.Done ≡ status.Open = ap (λ (r : Reply). r.status) e in absurd cc
none_open None psbt report e = refl

extracted : NetworkIsRead → IdIsTold → (call : Call) (source : Bytes) (psbt : Psbt) (inputs : List Input) → IsAsked command.Extract call source psbt inputs
    → (report : Bytes) → reply status.Done report ≡ extract_reply psbt inputs → IsExtracted psbt report
extracted read id call source psbt [] is report e = let wrong : status.Done ≡ status.Open = ap (λ (r : Reply). r.status) e in absurd cc
extracted read id call source psbt (input ∷ inputs) is report e =
    let final = each_is_final (input ∷ inputs) (none_open (first_open (input ∷ inputs)) psbt report e) in
    record {
      bytes = network_text psbt;
      digits = done (first_open (input ∷ inputs)) psbt report e;
      read = read source psbt is.called.bytes is.given (has_map (verification_of command.Extract) psbt.transaction 0 psbt.transaction.inputs psbt.inputs _ _ is.read.spends);
      id = id source psbt is.called.bytes is.given (verification_of command.Extract) (input ∷ inputs) is.read
          (All-from_recursion (λ (input : Input). is_final (state_of input) ≡ true) (input ∷ inputs) final);
    }

pub extracts_transaction : NetworkIsRead → IdIsTold → (call : Call) → Ends call → ExtractsTransaction call
extracts_transaction read id call ends source psbt inputs is =
    of_shown call _ _
    (λ report e is_done. extracted read id call source psbt inputs is report (ap (λ s. reply s report) (sym is_done) ∙ e))
    (shown command.Extract call source psbt inputs ends is)

-- ---- the combined PSBT

-- what the laws say of it
pub record CombineLaws : Type 0 where
  pub read : IsReadAgain
  pub transaction : HasSameTransaction
  pub keys : HasSameKeys
  pub alone : OneIsItself
  pub again : HoldsEachPart
  pub first : GoesOn

-- the source gives what its parts are combined to
given_whole : (source : Bytes) (parts : Parts) (whole : Psbt) → parts_of source ≡ Ok parts → combined parts ≡ Ok whole → combined_of source ≡ Ok whole
unfolding combined_of
given_whole source parts whole of is = ap (λ (r : Result Parts CombineRefusal). r >>= combined) of ∙ is

abbrev base64_line : Psbt → Bytes
base64_line whole = line (encode_of standard (psbt_text whole.global whole.inputs whole.outputs))

combination : CombineLaws → (source : Bytes) (parts : Parts) (whole : Psbt) → IsBytes source → parts_of source ≡ Ok parts → combined parts ≡ Ok whole
    → (report : Bytes) → report ≡ base64_line whole → IsCombination parts whole report
combination laws source parts whole bytes of is report e =
    let read = laws.read source parts whole bytes of is in
    let again = laws.again source parts whole bytes of is in
    record {
      base64 = e;
      read = λ few. ap psbt_of e ∙ source_back form.Base64 whole.global whole.inputs whole.outputs whole (text_fits whole read.0)
          (subst (λ (r : Bytes). length r ≤ MAX_SOURCE_SIZE) e few) read.1;
      same = laws.transaction source parts whole bytes of is;
      keys = laws.keys source parts whole bytes of is;
      again = λ k part below. (again k part below).1;
      first = λ others. laws.first parts.first whole parts.others others is;
    }

pub combines_parts : CombineLaws → (call : Call) → Ends call → CombinesParts call
combines_parts laws call ends source parts whole is of joined =
    of_shown call (combine_reply (combined_of source)) _
    (λ report e.
    let text : report ≡ base64_line whole = ap (λ (r : Reply). r.report) (e ∙ ap combine_reply (given_whole source parts whole of joined)) in (
      combination laws source parts whole is.bytes of joined report text,
      λ bytes number fits one. text ∙ ap (λ (b : Bytes). line (encode_of standard b)) (laws.alone source bytes number parts whole is.bytes fits one of joined).1,
    ))
    (called request.Combine call source ends is)
