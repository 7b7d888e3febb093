use Rattle.std.proofs.Common.{sym, ap, ◌∙◌}
use Rattle.std.proofs.lemmas.Result.{on_ok_weaker}
use Rattle.def_plan.specs.Plan.{Plan}
use Rattle.def_spend.specs.Good.{assets_of}
use Rattle.ms_psbt_report.proofs.InputLines.{told_plan}
use Rattle.ms_psbt_report.proofs.trees.push_plan.Goals as goal

pub returns-in-Some : goal.returns-in-Some
returns-in-Some c tree is =
    on_ok_weaker c.push_asked.result
    (told_plan tree (assets_of c.args.input.now.spend) c.in-Some.plan _ _ _ _ (sym c.in-Some.is ∙ c.in_ok-plan.ensures tree is)
    (c.as_slice.ensures ∙ ap (λ (p : Plan). p.keys) c.plan-in-Some.view_is) (ap (λ (p : Plan). p.weight) c.plan-in-Some.view_is))
    c.push_asked.ensures
