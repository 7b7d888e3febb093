-- What `finalize` wrote is a source, to which it answers as before.
use Rattle.std.proofs.Common.{◌≡◌, ℕ, ◌+◌, ◌≤◌, ◌==◌, ◌&&◌, ◌||◌, Bool, true, false, not, List, [], ◌∷◌, length, map, find, inl, inr, Option, Some, Ok, Err, unwrap_or, if◌then◌else◌, refl, sym, ap, subst, ◌∙◌, arith}
use Rattle.std.specs.List.{AllByRecursion, list_all}
use Rattle.std.specs.Option.{option_map}
use Rattle.std.specs.Str.{bytes_eq}
use Rattle.std.proofs.Math.Bool.{or-true}
use Rattle.std.proofs.lemmas.Bool.{ne_eqb, cases_Bool, false_from_ne_true, false≢true}
use Rattle.std.proofs.lemmas.List.{length-append}
use Rattle.std.proofs.lemmas.List.Elements.{All-from_recursion, recursion_from_All}
use Rattle.std.proofs.lemmas.Slice.Eq.{bytes_eq-Decides}
use Rattle.def_script.specs.Bytes.{Bytes, IsBytes}
use Rattle.def_script.specs.Sizes.{read_size}
use Rattle.def_psbt.specs.Transaction.{TransactionInput, Transaction}
use Rattle.def_psbt.specs.Map.{Pair, Map, Psbt, type_of, psbt_text}
use Rattle.def_psbt.specs.Part.{first_size, first_many, first_list, whole}
use Rattle.def_psbt.specs.Forms as forms
use Rattle.def_psbt.specs.Source.{MAX_SOURCE_SIZE, psbt_of}
use Rattle.def_psbt.specs.Laws.{WrittenIsReadBack}
use Rattle.def_spend.specs.declared.State.TheVariants as state
use Rattle.def_psbt.specs.Types.{IN_FINAL_SCRIPTSIG, IN_FINAL_SCRIPTWITNESS}
use Rattle.def_spend.specs.Fields.{has_type, field}
use Rattle.def_spend.specs.declared.Verification.{Verification}
use Rattle.def_spend.specs.Input.{Spend, spends_from, spends_of}
use Rattle.def_spend.specs.Reading.{Input, has_byte, has_item, has_final, open_script, HasReading, AreInputs}
use Rattle.def_spend.specs.States.{state_by, state_of, is_final, is_ready}
use Rattle.def_spend.specs.Finalized.{is_cleared, is_kept, final_pairs, final_map, script_sig_of, witness_of, written_map, finalized}
use Rattle.def_psbt_answer.specs.declared.status.Status.TheVariants as status
use Rattle.def_psbt_answer.specs.declared.words.Command.TheVariants as command
use Rattle.def_psbt_answer.specs.declared.words.Request.TheVariants as request
use Rattle.def_psbt_answer.specs.declared.words.Form.{Form}
use Rattle.def_psbt_answer.specs.Report.{in_form, finalize_report}
use Rattle.def_psbt_answer.specs.Reply.{reply, is_settled, settled_status, form_of, command_reply}
use Rattle.def_psbt_answer.specs.Answer.{RepliesToPsbt, RepliesToSource, RepliesToWords}
use Rattle.ms_psbt_answer_laws.proofs.Answered.{HasKeys, inputs_found, are_inputs}
use Rattle.ms_psbt_answer_laws.proofs.Unique.{one_reading}
use Rattle.ms_psbt_answer_laws.proofs.Written.{leaves_others, none_is_ready, written_again}
use Rattle.ms_given_laws.specs.Given.{EachIsSound}
use Rattle.ms_given_laws.proofs.Held.{keys_are}
use Rattle.ms_given_laws.proofs.Wholes.{HasPlace, places}
use Rattle.ms_spend_laws.proofs.Inputs.{IsGiven, of_each}
use Rattle.ms_psbt_laws.specs.Written.{IsMadeFinal, ReadyIsMadeFinal, ReportIsSource, AnsweredAgain}
use Rattle.ms_psbt_laws.proofs.Sounding.{IsFinalWitness, final_witness, all_items, are_items, items_back}
use Rattle.ms_psbt_laws.proofs.Wholes.{whole_again, written_is_read, text_fits}
use Rattle.ms_psbt_laws.proofs.Sources.{source_back, form_back}

-- ---- an input that was made final is final

-- no pair that is kept has a type that is cleared
kept_other : (cleared type : ℕ) → is_cleared cleared ≡ true → not (is_cleared type) ≡ true → (type == cleared) ≡ false
kept_other cleared type is kept =
    ne_eqb type cleared (λ same. false≢true (ap not (sym is) ∙ ap (λ (t : ℕ). not (is_cleared t)) (sym same) ∙ kept))

-- so of such a type there is what the final pairs have
found_behind : (cleared : ℕ) → is_cleared cleared ≡ true → (fields : Map) (script_sig witness : Bytes)
    → find (has_type cleared) (final_map fields script_sig witness) ≡ find (has_type cleared) (final_pairs script_sig witness)
found_behind cleared is [] script_sig witness = refl
found_behind cleared is (x ∷ xs) script_sig witness =
    let rest = found_behind cleared is xs script_sig witness in
    elim (cases_Bool (is_kept x)) [
      | inl kept ↦ rw (kept, kept_other cleared (type_of x.key) is kept) rest
      | inr other ↦ rw other rest
    ]

-- the value of the first pair of a type, where there is one
abbrev value_in : Option Pair → Option Bytes
value_in o = option_map (λ (pair : Pair). pair.value) o

witness_behind : (script_sig witness : Bytes) → value_in (find (has_type IN_FINAL_SCRIPTWITNESS) (final_pairs script_sig witness)) ≡ Some witness
unfolding read_size
witness_behind [] witness = refl
witness_behind (byte ∷ bytes) witness = refl

script_sig_behind : (script_sig witness : Bytes) → unwrap_or (value_in (find (has_type IN_FINAL_SCRIPTSIG) (final_pairs script_sig witness))) [] ≡ script_sig
unfolding read_size
script_sig_behind [] witness = refl
script_sig_behind (byte ∷ bytes) witness = refl

final_field : (fields : Map) (script_sig witness : Bytes) → field IN_FINAL_SCRIPTWITNESS (final_map fields script_sig witness) ≡ Some witness
final_field fields script_sig witness = ap value_in (found_behind IN_FINAL_SCRIPTWITNESS refl fields script_sig witness) ∙ witness_behind script_sig witness

final_script_sig : (fields : Map) (script_sig witness : Bytes) → unwrap_or (field IN_FINAL_SCRIPTSIG (final_map fields script_sig witness)) [] ≡ script_sig
final_script_sig fields script_sig witness =
    ap (λ (o : Option Pair). unwrap_or (value_in o) []) (found_behind IN_FINAL_SCRIPTSIG refl fields script_sig witness) ∙ script_sig_behind script_sig witness

-- the map of an input that is made final
abbrev map_made : Input → Map
map_made input = final_map input.spend.fields (script_sig_of input.spend) (witness_of input)

-- the byte 00 is a witness without items
pub no_items : forms.witness_of (0x00 ∷ []) ≡ Some []
unfolding read_size first_size first_many first_list whole
no_items = refl

same_items : (one other : List Bytes) → Some one ≡ Some other → one ≡ other
same_items one other e = cc

some_item : (w : Bytes) (items : List Bytes) → forms.witness_of w ≡ Some items → 1 ≤ length items → bytes_eq w (0x00 ∷ []) ≡ false
some_item w items read some = false_from_ne_true _ (λ e.
    let same = (bytes_eq-Decides w (0x00 ∷ [])).0 e in
    let empty : Some [] ≡ Some items = sym no_items ∙ ap forms.witness_of (sym same) ∙ read in
    let long : 0 ≡ length items = ap length (same_items [] items empty) in
    omega (arith, long, some))

made_final : (input : Input) → IsFinalWitness input → has_final (map_made input) ≡ true
made_final input w =
    let items = items_back (all_items w.stack w.last) (are_items w.stack w.last w.fits) in
    let other = some_item (witness_of input) (all_items w.stack w.last) (ap forms.witness_of w.is ∙ items) (omega (arith, length-append w.stack (w.last ∷ []))) in
    let item : has_item (field IN_FINAL_SCRIPTWITNESS (map_made input)) ≡ true =
    ap has_item (final_field input.spend.fields (script_sig_of input.spend) (witness_of input)) ∙ ap not other in
    ap (λ b. has_byte (field IN_FINAL_SCRIPTSIG (map_made input)) || b) item ∙ or-true (has_byte (field IN_FINAL_SCRIPTSIG (map_made input)))

-- a Ready input is made final
pub is_made_final : (input : Input) → IsGiven input → is_ready (state_of input) ≡ true → IsMadeFinal input
is_made_final input given ready =
    let written = ap (λ b. if b then map_made input else input.spend.fields) ready in
    record {
      witness = ap (field IN_FINAL_SCRIPTWITNESS) written ∙ final_field input.spend.fields (script_sig_of input.spend) (witness_of input);
      script_sig = ap (λ (made : Map). unwrap_or (field IN_FINAL_SCRIPTSIG made) []) written ∙ final_script_sig input.spend.fields (script_sig_of input.spend) (witness_of input);
      final = ap has_final written ∙ made_final input (final_witness input given ready);
    }

pub ready_is_made_final : EachIsSound → ReadyIsMadeFinal
ready_is_made_final law = of_each law _ is_made_final

-- ---- an input that was written is settled where it was

-- the same input with another map
abbrev with_fields : Spend → Map → Spend
with_fields spend fields = record spend { fields = fields }

settled_again : (input again : Input) → IsGiven input → HasReading again → again.spend ≡ with_fields input.spend (written_map input) → is_settled again ≡ is_settled input
settled_again input again given read same = go (is_ready (state_of input)) refl
  where
    go : (b : Bool) → is_ready (state_of input) ≡ b → is_settled again ≡ is_settled input
    go false e =
        let spend = same ∙ ap (with_fields input.spend) (leaves_others input e) in
        ap is_settled (one_reading again input read given.read spend)
    go true e =
        let written = ap (λ b. if b then map_made input else input.spend.fields) e in
        let fields = ap (λ spend. spend.fields) same ∙ written in
        let final = ap has_final fields ∙ made_final input (final_witness input given e) in
        let is = ap (λ b. state_by (if b then Err state.Final else open_script again.spend) again.tree again.spend) final in
        let one : is_settled again ≡ true = ap (λ s. is_final s || is_ready s) is in
        let two : is_settled input ≡ true = ap (λ b. is_final (state_of input) || b) e ∙ or-true (is_final (state_of input)) in
        one ∙ sym two

all_settled : (verification : Verification) (transaction : Transaction) (number : ℕ) (ins : List TransactionInput) (maps : List Map) (xs ys : List Input)
    → map (λ input. input.spend) xs ≡ spends_from verification transaction number ins maps
    → map (λ input. input.spend) ys ≡ spends_from verification transaction number ins (map written_map xs)
    → AllByRecursion IsGiven xs → AllByRecursion HasReading ys → list_all is_settled ys ≡ list_all is_settled xs
all_settled verification transaction number [] maps [] [] e f h k = refl
all_settled verification transaction number (i ∷ ins) [] [] [] e f h k = refl
all_settled verification transaction number (i ∷ ins) (m ∷ maps) (x ∷ xs) (y ∷ ys) e f h k =
    let here : x.spend ≡ record { verification = verification; transaction = transaction; number = number; input = i; fields = m } = cc in
    let there : y.spend ≡ record { verification = verification; transaction = transaction; number = number; input = i; fields = written_map x } = cc in
    let rest : map (λ input. input.spend) xs ≡ spends_from verification transaction (number + 1) ins maps = cc in
    let behind : map (λ input. input.spend) ys ≡ spends_from verification transaction (number + 1) ins (map written_map xs) = cc in
    let same = there ∙ ap (λ spend. with_fields spend (written_map x)) (sym here) in
    let first = settled_again x y h.0 k.0 same in
    let others = all_settled verification transaction (number + 1) ins maps xs ys rest behind h.1 k.1 in
    ap (λ b. b && list_all is_settled ys) first ∙ ap (λ b. is_settled x && b) others
all_settled verification transaction number ins maps xs ys e f h k = absurd cc

-- ---- the source

-- the report of a PSBT, read as a source
report_read : EachIsSound → WrittenIsReadBack → (source : Bytes) (psbt : Psbt) → IsBytes source → psbt_of source ≡ Ok psbt
    → (verification : Verification) (inputs : List Input) → AreInputs verification psbt inputs
    → (form : Form) → length (finalize_report form psbt inputs) ≤ MAX_SOURCE_SIZE → psbt_of (finalize_report form psbt inputs) ≡ Ok (finalized psbt inputs)
unfolding finalize_report
report_read law back source psbt fits e verification inputs are form short =
    let whole = whole_again law source psbt fits e verification inputs are in
    source_back form psbt.global (map written_map inputs) psbt.outputs (finalized psbt inputs) (text_fits (finalized psbt inputs) whole) short
    (written_is_read law back source psbt fits e verification inputs are)

pub report_is_source : EachIsSound → WrittenIsReadBack → ReportIsSource
report_is_source law back source psbt fits e verification inputs are form short = record {
  written = finalized psbt inputs;
  read = report_read law back source psbt fits e verification inputs are form short;
  transaction = refl;
  global = refl;
  outputs = refl;
  maps = refl;
  none_ready = λ again h. none_is_ready verification psbt inputs again are h;
}

-- ---- the answer

each_has_keys : (spends : List Spend) → AllByRecursion HasPlace spends → AllByRecursion HasKeys spends
each_has_keys [] h = tt
each_has_keys (spend ∷ spends) h = (keys_are spend.fields h.0.fits, each_has_keys spends h.1)

-- the form of a report
report_form : (psbt : Psbt) (inputs : List Input) (form : Form) → form_of (finalize_report form psbt inputs) ≡ form
unfolding finalize_report
report_form psbt inputs form = form_back form psbt.global (map written_map inputs) psbt.outputs

-- the report of what was written
report_again : (psbt : Psbt) (inputs again : List Input) (form : Form) → (finalized (finalized psbt inputs) again).inputs ≡ (finalized psbt inputs).inputs
    → finalize_report form psbt inputs ≡ finalize_report form (finalized psbt inputs) again
unfolding finalize_report
report_again psbt inputs again form same = ap (λ (maps : List Map). in_form form (psbt_text psbt.global maps psbt.outputs)) (sym same)

pub answered_again : EachIsSound → WrittenIsReadBack → AnsweredAgain
answered_again law back words verification source psbt now report fits named given short answer =
    let replies : RepliesToWords (Some (request.One (command.Finalize verification))) source (reply now report) = subst (λ c. RepliesToWords c source (reply now report)) named answer.replies in
    let found : RepliesToPsbt (command.Finalize verification) (form_of source) psbt (reply now report) =
    subst (λ o. RepliesToSource (command.Finalize verification) (form_of source) o (reply now report)) given replies in
    let are : AreInputs verification psbt found.0 = found.1 in
    let form : Form = form_of source in
    let told : now ≡ settled_status found.0 = ap (λ r. r.status) found.2 in
    let shown : report ≡ finalize_report (form_of source) psbt found.0 = ap (λ r. r.report) found.2 in
    let final : Psbt = finalized psbt found.0 in
    let whole = whole_again law source psbt fits given verification found.0 are in
    let read : psbt_of report ≡ Ok (finalized psbt found.0) =
    ap psbt_of shown ∙ report_read law back source psbt fits given verification found.0 are form (subst (λ (l : Bytes). length l ≤ MAX_SOURCE_SIZE) shown short) in
    let are_again : AreInputs verification final (inputs_found verification final) =
    are_inputs verification final (All-from_recursion HasKeys (spends_of verification final) (each_has_keys (spends_of verification final) (places verification final whole))) in
    let each = recursion_from_All IsGiven found.0 (of_each law IsGiven (λ input g. g) source psbt fits given verification found.0 are) in
    let settled = all_settled verification psbt.transaction 0 psbt.transaction.inputs psbt.inputs found.0 (inputs_found verification final) are.spends are_again.spends each
    (recursion_from_All HasReading (inputs_found verification final) are_again.read) in
    let same_status : now ≡ settled_status (inputs_found verification final) = told ∙ ap (λ b. if b then status.Done else status.Open) (sym settled) in
    let same_form : form_of report ≡ form_of source = ap form_of shown ∙ report_form psbt found.0 form in
    let same_report : report ≡ finalize_report (form_of report) final (inputs_found verification final) =
    shown ∙ report_again psbt found.0 (inputs_found verification final) form (written_again verification psbt found.0 (inputs_found verification final) are are_again)
    ∙ ap (λ f. finalize_report f final (inputs_found verification final)) (sym same_form) in
    let is : reply now report ≡ command_reply (command.Finalize verification) (form_of report) final (inputs_found verification final) =
    ap (λ s. reply s report) same_status ∙ ap (reply (settled_status (inputs_found verification final))) same_report in
    let by_psbt : RepliesToSource (command.Finalize verification) (form_of report) (Ok final) (reply now report) = (inputs_found verification final, are_again, is) in
    let by_source : RepliesToWords (Some (request.One (command.Finalize verification))) report (reply now report) =
    subst (λ o. RepliesToSource (command.Finalize verification) (form_of report) o (reply now report)) (sym read) by_psbt in
    record { replies = subst (λ c. RepliesToWords c report (reply now report)) (sym named) by_source }
