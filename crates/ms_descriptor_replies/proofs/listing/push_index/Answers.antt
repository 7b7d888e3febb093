use Rattle.std.proofs.Common.{subst}
use Rattle.ms_descriptor.specs.Bodies.{descriptor_at}
use Rattle.ms_descriptor_replies.specs.Scaffolding.Steps.{Finds}
use Rattle.ms_descriptor_replies.proofs.Listed.{adds_key, adds_tree, adds_reason}
use Rattle.ms_descriptor_replies.proofs.listing.push_index.Goals as goal

pub returns-in_ok-push_given-in-Key : goal.returns-in_ok-push_given-in-Key
returns-in_ok-push_given-in-Key c =
    let asked = c.args.asked.now in
    let d = descriptor_at asked.text.now c.args.descriptor.now in
    adds_key asked.network asked.branch d c.args.index c.args.report.now.items c.push_given.new.report.items c.in-Key.given
    (subst (Finds asked.network d asked.branch c.args.index) c.in-Key.is c.in_ok-given.ensures)
    (λ program condition keys h. c.in_ok-push_given-in-Key.ensures asked.text.now asked.network program condition keys h)

pub returns-in_ok-push_given-in-Tree : goal.returns-in_ok-push_given-in-Tree
returns-in_ok-push_given-in-Tree c =
    let asked = c.args.asked.now in
    let d = descriptor_at asked.text.now c.args.descriptor.now in
    adds_tree asked.network asked.branch d c.args.index c.args.report.now.items c.push_given-in-Tree.new.report.items c.in-Tree.given c.in-Tree.field-1
    (subst (Finds asked.network d asked.branch c.args.index) c.in-Tree.is c.in_ok-given.ensures)
    (λ program condition keys h. c.in_ok-push_given-in-Tree.ensures asked.text.now asked.network program condition keys h)

pub returns-in-Nothing : goal.returns-in-Nothing
returns-in-Nothing c =
    let asked = c.args.asked.now in
    let d = descriptor_at asked.text.now c.args.descriptor.now in
    adds_reason asked.network asked.branch d c.args.index c.args.report.now.items c.args.report.now.items c.in-Nothing.reason
    (subst (Finds asked.network d asked.branch c.args.index) c.in-Nothing.is c.in_ok-given.ensures)
