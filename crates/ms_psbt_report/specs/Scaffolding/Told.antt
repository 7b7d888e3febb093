-- What inputs tell. No public clause cites it, so it need not be believed.
use Rattle.std.specs.Prelude.{◌≡◌, List, map, flat_map}
use Rattle.std.specs.List.{list_all}
use Rattle.def_spend.specs.Amount.{Amount}
use Rattle.def_spend.specs.Reading.{Input}
use Rattle.def_psbt.specs.Transaction.{Transaction}
use Rattle.def_psbt_answer.specs.Fee.{total, is_proved}
use Rattle.def_psbt_answer.specs.Reply.{is_settled}
use Rattle.def_psbt_answer.specs.Report.{amount_in, input_report}
use Rattle.ms_psbt_report.specs.declared.inspecting.Told.{Told}
use Rattle.ms_psbt_report.specs.Scaffolding.FinalIds.{IsIdOf}

abbrev pub amounts_in : List Input → List Amount
amounts_in = map (λ input. amount_in input.spend)

-- this is what those inputs of a transaction tell
pub record AreTold (transaction : Transaction) (inputs : List Input) (told : Told) : Type 0 where
  pub lines : told.lines.items ≡ flat_map input_report inputs
  pub spent : told.spent.satoshis ≡ total (amounts_in inputs)
  pub proved : told.spent.are_proved ≡ list_all is_proved (amounts_in inputs)
  pub id : IsIdOf transaction (map (λ input. input.spend) inputs) told.id
  pub settled : told.are_settled ≡ list_all is_settled inputs
