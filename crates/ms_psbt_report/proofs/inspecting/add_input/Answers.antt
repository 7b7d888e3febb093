use Rattle.std.proofs.Common.{◌&&◌, ◌||◌, List, map, sym, subst, ap, ◌∙◌}
use Rattle.std.proofs.lemmas.List.{map_push}
use Rattle.def_spend.specs.Input.{Spend}
use Rattle.def_spend.specs.Reading.{Input}
use Rattle.def_spend.specs.States.{is_final, is_ready}
use Rattle.def_psbt_answer.specs.Fee.{is_proved}
use Rattle.def_psbt_answer.specs.Reply.{is_settled}
use Rattle.ms_input.specs.Seen.{input_seen}
use Rattle.ms_psbt_report.specs.Scaffolding.Sums.{with_amount}
use Rattle.ms_psbt_report.specs.Scaffolding.FinalIds.{IsIdOf}
use Rattle.ms_psbt_report.proofs.AllTold.{lines_more, spent_more, proved_more, all_more}
use Rattle.ms_psbt_report.proofs.inspecting.add_input.Goals as goal

pub returns-clause-told : goal.returns-clause-told
returns-clause-told c transaction inputs are =
    let input = input_seen c.args.input.now in
    let told = c.args.told.now in
    record {
      lines = lines_more inputs input _ _ are.lines c.in_ok-push_input_report.ensures;
      spent = spent_more inputs input _ _ are.spent (c.with-told.ensures.spent ∙ ap (λ a. with_amount told.spent.satoshis a) c.amount.ensures);
      proved = proved_more inputs input _ _ are.proved (c.with-told.ensures.proved ∙ ap (λ a. told.spent.are_proved && is_proved a) c.amount.ensures);
      id = subst (λ (spends : List Spend). IsIdOf transaction spends c.add.new.self) (sym (map_push (λ (i : Input). i.spend) inputs input))
          (c.in_ok-add.ensures transaction (map (λ (i : Input). i.spend) inputs) are.id);
      settled =
          c.stay_settled-told.ensures ∙ ap (λ s. told.are_settled && (is_final s || is_ready s)) c.state.ensures
          ∙ ap (λ b. b && is_settled input) are.settled ∙ sym (all_more is_settled inputs input);
    }
