use Rattle.std.proofs.Common.{◌∙◌}
use Rattle.ms_tree.specs.Shape.{shape}
use Rattle.ms_report.proofs.PolicyLines.{policy_lines_of}
use Rattle.ms_report.proofs.policies.policy_report.Goals as goal

pub returns : goal.returns
returns c =
    policy_lines_of (shape c.args.sane.now.valid.tree) _ _ _ _ _ _ _ c.in_ok-policy.ensures.simple c.in_ok-least.ensures
    (c.deref.ensures ∙ c.in_ok-print_policy.ensures) (c.deref-2.ensures ∙ c.in_ok-number_text.ensures)
    c.new-report.ensures.bytes c.in_ok-push_line.ensures c.in_ok-push_line-2.ensures
