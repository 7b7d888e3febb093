use Rattle.std.proofs.Common.{refl, ◌∙◌}
use Rattle.ms_report.proofs.PlanLines.{plan_lines_of}
use Rattle.ms_report.proofs.plans.plan_report.Goals as goal

pub returns : goal.returns
returns c =
    plan_lines_of (record { keys = c.args.keys.now; weight = c.args.weight }) _ _ _ _ _ refl (c.deref.ensures ∙ c.in_ok-decimal_text.ensures)
    c.new-report.ensures.bytes c.in_ok-push_keys.ensures c.in_ok-push_line.ensures
