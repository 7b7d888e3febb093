use Rattle.ms_tree.specs.Shape.{shape}
use Rattle.def_answer.specs.Satisfy.{chosen_by, reason_by}
use Rattle.ms_calls.specs.TextReply.{chosen_given}
use Rattle.ms_calls.proofs.TextLemmas.{finds_of_tree, finds_of_stop}
use Rattle.ms_calls.proofs.satisfying.witness_in.Goals as goal

pub returns-in-Ok : goal.returns-in-Ok
returns-in-Ok c =
    finds_of_tree c.args.text.now (reason_by c.args.choice c.args.rules) (chosen_given (chosen_by c.args.choice) c.args.file.now) (shape c.in-Ok.text.tree) c.in-Ok.text.offsets.items
    c.witness_of_text.result c.in-Ok.ensures.utf8 c.in-Ok.ensures.read c.witness_of_text.ensures

pub returns : goal.returns
returns c = finds_of_stop c.args.text.now (reason_by c.args.choice c.args.rules) (chosen_given (chosen_by c.args.choice) c.args.file.now) c.in-Err.stop c.in-Err.ensures.stop
