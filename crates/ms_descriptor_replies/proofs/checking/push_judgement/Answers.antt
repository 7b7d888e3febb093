use Rattle.std.proofs.Common.{subst}
use Rattle.ms_descriptor_replies.specs.Found.{IsFound}
use Rattle.ms_descriptor_replies.proofs.Checked.{judged_tree}
use Rattle.ms_descriptor_replies.proofs.checking.push_judgement.Goals as goal

pub returns-in_ok-push_lines-in-Tree : goal.returns-in_ok-push_lines-in-Tree
returns-in_ok-push_lines-in-Tree c network d place found =
    judged_tree network d place c.in-Tree.field-0 c.in-Tree.measures c.args.report.now.items c.push_lines.new.report.items
    (subst (IsFound network d place) c.in-Tree.is found) c.in_ok-push_lines-in-Tree.ensures
