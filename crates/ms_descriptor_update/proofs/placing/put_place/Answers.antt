use Rattle.std.proofs.Common.{subst, None}
use Rattle.ms_descriptor.specs.Bodies.{descriptor_at}
use Rattle.ms_descriptor_replies.specs.Scaffolding.Steps.{Finds}
use Rattle.ms_descriptor_update.proofs.Filling.{puts_key, puts_tree, puts_none}
use Rattle.ms_descriptor_update.proofs.placing.put_place.Goals as goal

pub returns-in_ok-put_script-in-Key : goal.returns-in_ok-put_script-in-Key
returns-in_ok-put_script-in-Key c =
    let d = descriptor_at c.args.text.now c.args.descriptor.now in
    puts_key d c.args.count c.args.place c.args.places.now c.put_script.new.places c.in-Key.given
    (subst (Finds None d _ _) c.in-Key.is c.in_ok-given.ensures) c.in_ok-put_script-in-Key.ensures

pub returns-in_ok-put_script-in-Tree : goal.returns-in_ok-put_script-in-Tree
returns-in_ok-put_script-in-Tree c =
    let d = descriptor_at c.args.text.now c.args.descriptor.now in
    puts_tree d c.args.count c.args.place c.args.places.now c.put_script-in-Tree.new.places c.in-Tree.given c.in-Tree.field-1
    (subst (Finds None d _ _) c.in-Tree.is c.in_ok-given.ensures) c.in_ok-put_script-in-Tree.ensures

pub returns-in-Nothing : goal.returns-in-Nothing
returns-in-Nothing c =
    let d = descriptor_at c.args.text.now c.args.descriptor.now in
    puts_none d c.args.count c.args.place c.args.places.now c.args.places.now c.in-Nothing.reason (subst (Finds None d _ _) c.in-Nothing.is c.in_ok-given.ensures)
