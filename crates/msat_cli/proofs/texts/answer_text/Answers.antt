use Rattle.std.proofs.Common.{refl}
use Rattle.msat_cli.proofs.StepLemmas.{tree_ended, refused_ended, for_source}
use Rattle.msat_cli.proofs.texts.answer_text.Goals as goal

pub returns-in-Ok-clause-answer : goal.returns-in-Ok-clause-answer
returns-in-Ok-clause-answer g c = tree_ended c.args.kind c.args.text.now _ _ _ _ c.in-Ok.ensures.read c.answer_tree.ensures.answer

pub returns-in-Err-clause-answer : goal.returns-in-Err-clause-answer
returns-in-Err-clause-answer g c =
    refused_ended c.args.kind c.args.text.now c.in-Err.fault _ _ _ c.utf8.text c.in-Err.ensures.refused c.in-Err.ensures.memory
    (record { left = refl; faults = refl }) c.refuse_text.ensures

pub returns-in-Ok-clause-unread : goal.returns-in-Ok-clause-unread
returns-in-Ok-clause-unread g c never =
    c.answer_tree.ensures.unread (λ reads. never (for_source c.args.kind c.args.text.now _ _ c.in-Ok.ensures.read reads))
