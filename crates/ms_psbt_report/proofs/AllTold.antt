-- What inputs tell, one more at the end.
use Rattle.std.proofs.Common.{◌≡◌, ℕ, ◌&&◌, Bool, List, [], ◌∷◌, ◌++◌, map, Option, sym, ap, ◌∙◌}
use Rattle.std.specs.List.{flat_map, list_all}
use Rattle.std.proofs.lemmas.List.{flat_map_more, map_push}
use Rattle.std.proofs.lemmas.List.Folds.{list_all-append}
use Rattle.std.proofs.Math.Bool.{and-true}
use Rattle.def_script.specs.Bytes.{Bytes}
use Rattle.def_psbt.specs.Transaction.{Transaction}
use Rattle.def_spend.specs.Reading.{Input}
use Rattle.def_spend.specs.Finalized.{final_id}
use Rattle.def_psbt_answer.specs.Fee.{total, is_proved}
use Rattle.def_psbt_answer.specs.Report.{amount_in, input_report, inspect_report}
use Rattle.ms_psbt_report.specs.Scaffolding.Sums.{with_amount}
use Rattle.ms_psbt_report.specs.declared.inspecting.Told.{Told}
use Rattle.ms_psbt_report.specs.Scaffolding.Lines.{money_lines}
use Rattle.ms_psbt_report.specs.Scaffolding.Told.{amounts_in, AreTold}
use Rattle.ms_psbt_report.proofs.Sums.{total_more}

pub all_more : {X : Type 0} (p : X → Bool) (xs : List X) (x : X) → list_all p (xs ++ x ∷ []) ≡ (list_all p xs && p x)
all_more p xs x = list_all-append p xs (x ∷ []) ∙ ap (λ b. list_all p xs && b) (and-true (p x))

pub lines_more : (inputs : List Input) (input : Input) (before after : Bytes) → before ≡ flat_map input_report inputs → after ≡ before ++ input_report input
    → after ≡ flat_map input_report (inputs ++ input ∷ [])
lines_more inputs input before after is e = e ∙ ap (λ bytes. bytes ++ input_report input) is ∙ flat_map_more input_report [] inputs input

pub spent_more : (inputs : List Input) (input : Input) (before after : Option ℕ) → before ≡ total (amounts_in inputs)
    → after ≡ with_amount before (amount_in input.spend) → after ≡ total (amounts_in (inputs ++ input ∷ []))
spent_more inputs input before after is e =
    e ∙ ap (λ sum. with_amount sum (amount_in input.spend)) is ∙ sym (total_more (amounts_in inputs) (amount_in input.spend))
    ∙ ap total (sym (map_push (λ (i : Input). amount_in i.spend) inputs input))

pub proved_more : (inputs : List Input) (input : Input) (before after : Bool) → before ≡ list_all is_proved (amounts_in inputs)
    → after ≡ (before && is_proved (amount_in input.spend)) → after ≡ list_all is_proved (amounts_in (inputs ++ input ∷ []))
proved_more inputs input before after is e =
    e ∙ ap (λ b. b && is_proved (amount_in input.spend)) is ∙ sym (all_more is_proved (amounts_in inputs) (amount_in input.spend))
    ∙ ap (list_all is_proved) (sym (map_push (λ (i : Input). amount_in i.spend) inputs input))

-- what is told of all of them, behind what the transaction does with the money
pub whole_report : (transaction : Transaction) (inputs : List Input) (told : Told) (id : Option Bytes) → AreTold transaction inputs told
    → id ≡ final_id transaction (map (λ (i : Input). i.spend) inputs)
    → money_lines transaction id told.spent.satoshis told.spent.are_proved ++ told.lines.items ≡ inspect_report transaction inputs
unfolding inspect_report
whole_report transaction inputs told id are is =
    let final : Option Bytes = final_id transaction (map (λ (i : Input). i.spend) inputs) in
    ap (λ (o : Option Bytes). money_lines transaction o told.spent.satoshis told.spent.are_proved ++ told.lines.items) is
    ∙ ap (λ (o : Option ℕ). money_lines transaction final o told.spent.are_proved ++ told.lines.items) are.spent
    ∙ ap (λ b. money_lines transaction final (total (amounts_in inputs)) b ++ told.lines.items) are.proved
    ∙ ap (λ (l : Bytes). money_lines transaction final (total (amounts_in inputs)) (list_all is_proved (amounts_in inputs)) ++ l) are.lines
