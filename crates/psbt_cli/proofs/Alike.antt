-- The two forms of `finalize` and of `inspect`, with the option and without it.
use Rattle.std.proofs.Common.{◌≡◌, ℕ, ◌+◌, Bool, ◌&&◌, ◌||◌, List, [], ◌∷◌, map, get_or, Option, Some, Ok, Result, refl, sym, ◌∙◌, ap, subst, if◌then◌else◌}
use Rattle.std.specs.List.{AllByRecursion, list_all}
use Rattle.std.proofs.lemmas.List.Elements.{All-from_recursion, recursion_from_All}
use Rattle.def_script.specs.Bytes.{Bytes}
use Rattle.def_psbt.specs.declared.Refusal.{Refusal}
use Rattle.def_psbt.specs.Transaction.{TransactionInput, Transaction}
use Rattle.def_psbt.specs.Map.{Map, Psbt, psbt_text}
use Rattle.def_psbt.specs.Source.{psbt_of}
use Rattle.def_spend.specs.declared.Verification.{Verification}
use Rattle.def_spend.specs.declared.Verification.TheVariants.{Verified, Unverified}
use Rattle.def_spend.specs.Input.{Spend, spends_from}
use Rattle.def_spend.specs.Reading.{Input, HasReading, AreInputs}
use Rattle.def_spend.specs.States.{is_final, is_ready}
use Rattle.def_spend.specs.declared.State.{State}
use Rattle.def_spend.specs.Finalized.{written_map}
use Rattle.def_psbt_answer.specs.declared.status.Status.{Status}
use Rattle.def_psbt_answer.specs.declared.status.Status.TheVariants as status
use Rattle.def_psbt_answer.specs.declared.words.Command.TheVariants as command
use Rattle.def_psbt_answer.specs.declared.words.Form.{Form}
use Rattle.def_psbt_answer.specs.declared.words.Request.{Request}
use Rattle.def_psbt_answer.specs.declared.words.Request.TheVariants as request
use Rattle.def_psbt_answer.specs.Words.{request_of}
use Rattle.def_psbt_answer.specs.Report.{in_form, finalize_report}
use Rattle.def_psbt_answer.specs.Reply.{Reply, reply, is_settled, settled_status, form_of, command_reply}
use Rattle.def_psbt_answer.specs.Answer.{RepliesToSource, RepliesToWords, Answer}
use Rattle.ms_spend_laws.specs.Verified.{counting, AllGoodIsSame, StatesDiffer}
use Rattle.psbt_cli.specs.Ends.{Call, Ends}
use Rattle.psbt_cli.specs.Promises.{AreGood, AnswersAlike, ComparesForms}
use Rattle.psbt_cli.proofs.Showing.{of_shown, shown}

-- ---- the inputs of both forms

abbrev recount : Verification → Spend → Spend
recount other spend = record spend { verification = other }

spends_as : (verification other : Verification) (transaction : Transaction) (number : ℕ) (inputs : List TransactionInput) (maps : List Map)
    → map (recount other) (spends_from verification transaction number inputs maps) ≡ spends_from other transaction number inputs maps
spends_as verification other transaction number [] maps = refl
spends_as verification other transaction number (input ∷ inputs) [] = refl
spends_as verification other transaction number (input ∷ inputs) (fields ∷ maps) =
    ap (λ (spends : List Spend). record { verification = other; transaction = transaction; number = number; input = input; fields = fields } ∷ spends)
    (spends_as verification other transaction (number + 1) inputs maps)

counted_spends : (other : Verification) (inputs : List Input)
    → map (λ input. input.spend) (map (counting other) inputs) ≡ map (recount other) (map (λ input. input.spend) inputs)
counted_spends other [] = refl
counted_spends other (input ∷ inputs) = ap (λ (spends : List Spend). recount other input.spend ∷ spends) (counted_spends other inputs)

counted_read : (other : Verification) (inputs : List Input) → AllByRecursion HasReading inputs → AllByRecursion HasReading (map (counting other) inputs)
counted_read other [] h = tt
counted_read other (input ∷ inputs) h = (h.0, counted_read other inputs h.1)

counted_inputs : (verification other : Verification) (psbt : Psbt) (inputs : List Input) → AreInputs verification psbt inputs
    → AreInputs other psbt (map (counting other) inputs)
counted_inputs verification other psbt inputs are = record {
  spends = counted_spends other inputs ∙ ap (map (recount other)) are.spends
      ∙ spends_as verification other psbt.transaction 0 psbt.transaction.inputs psbt.inputs;
  read = All-from_recursion HasReading (map (counting other) inputs) (counted_read other inputs (recursion_from_All HasReading inputs are.read));
}

-- ---- what is the same

either_way : {A : Type 0} (f : Input → A) (input : Input) → f (counting Verified input) ≡ f (counting Unverified input) → (one other : Verification)
    → f (counting one input) ≡ f (counting other input)
either_way {A} f input same Verified Verified = refl
either_way {A} f input same Verified Unverified = same
either_way {A} f input same Unverified Verified = sym same
either_way {A} f input same Unverified Unverified = refl

same_maps : AllGoodIsSame → (other : Verification) (inputs : List Input) → AllByRecursion AreGood inputs
    → map written_map inputs ≡ map written_map (map (counting other) inputs)
same_maps law other [] good = refl
same_maps law other (input ∷ inputs) good =
    let rest = same_maps law other inputs good.1 in
    ap (λ (m : Map). m ∷ map written_map inputs) (either_way written_map input (law input good.0).map input.spend.verification other)
    ∙ ap (λ (maps : List Map). written_map (counting other input) ∷ maps) rest

same_settled : AllGoodIsSame → (other : Verification) (inputs : List Input) → AllByRecursion AreGood inputs
    → list_all is_settled inputs ≡ list_all is_settled (map (counting other) inputs)
same_settled law other [] good = refl
same_settled law other (input ∷ inputs) good =
    let rest = same_settled law other inputs good.1 in
    let same = (law input good.0).state in
    ap (λ (b : Bool). b && list_all is_settled inputs) (either_way is_settled input (ap (λ (s : State). is_final s || is_ready s) same) input.spend.verification other)
    ∙ ap (λ (b : Bool). is_settled (counting other input) && b) rest

same_report : AllGoodIsSame → (other : Verification) (form : Form) (psbt : Psbt) (inputs : List Input) → AllByRecursion AreGood inputs
    → finalize_report form psbt inputs ≡ finalize_report form psbt (map (counting other) inputs)
unfolding finalize_report
same_report law other form psbt inputs good =
    ap (λ (maps : List Map). in_form form (psbt_text psbt.global maps psbt.outputs)) (same_maps law other inputs good)

same_reply : AllGoodIsSame → (verification other : Verification) (form : Form) (psbt : Psbt) (inputs : List Input) → AllByRecursion AreGood inputs
    → command_reply (command.Finalize verification) form psbt inputs ≡ command_reply (command.Finalize other) form psbt (map (counting other) inputs)
same_reply law verification other form psbt inputs good =
    ap (λ (b : Bool). reply (if b then status.Done else status.Open) (finalize_report form psbt inputs)) (same_settled law other inputs good)
    ∙ ap (reply (settled_status (map (counting other) inputs))) (same_report law other form psbt inputs good)

-- ---- the answer

replied_alike : (other : Verification) (source : Bytes) (psbt : Psbt) (inputs : List Input) (r : Reply) → psbt_of source ≡ Ok psbt → AreInputs other psbt inputs
    → r ≡ command_reply (command.Finalize other) (form_of source) psbt inputs → RepliesToSource (command.Finalize other) (form_of source) (psbt_of source) r
replied_alike other source psbt inputs r given are e =
    subst (λ (o : Result Psbt Refusal). RepliesToSource (command.Finalize other) (form_of source) o r) (sym given) (inputs, are, e)

answered_by : (words : List Bytes) (request : Request) (source : Bytes) (s : Status) (report : Bytes) → request_of words ≡ Some request
    → RepliesToWords (Some request) source (reply s report) → Answer words source s report
answered_by words request source s report named h = record {
  replies = subst (λ (o : Option Request). RepliesToWords o source (reply s report)) (sym named) h;
}

pub answers_alike : AllGoodIsSame → (call : Call) → Ends call → AnswersAlike call
answers_alike law call ends verification other words named source psbt inputs is =
    of_shown call _ _
    (λ report e good. answered_by words (request.One (command.Finalize other)) source call.status report named
    (replied_alike other source psbt (map (counting other) inputs) (reply call.status report) is.given
    (counted_inputs verification other psbt inputs is.read)
    (e ∙ same_reply law verification other (form_of source) psbt inputs (recursion_from_All AreGood inputs good))))
    (shown (command.Finalize verification) call source psbt inputs ends is)

pub compares_forms : AllGoodIsSame → StatesDiffer → (call : Call) → Ends call → ComparesForms call
compares_forms law differ call ends verification other source psbt inputs is =
    of_shown call _ _
    (λ report e. (
      counted_inputs verification other psbt inputs is.read,
      λ k d lt. record {
        good = law (get_or inputs k d);
        differ = differ source psbt is.called.bytes is.given verification inputs is.read k d lt;
      },
    ))
    (shown (command.Inspect verification) call source psbt inputs ends is)
