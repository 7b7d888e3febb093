use Rattle.def_sane.specs.Unfit.{first_unfit}
use Rattle.ms_tree.specs.Shape.{shape}
use Rattle.def_answer.specs.Answer.{policy_reply}
use Rattle.msat_cli.proofs.StepLemmas.{refused_at_once}
use Rattle.msat_cli.proofs.texts.answer_policy.Goals as goal

pub returns-in-Err : goal.returns-in-Err
returns-in-Err c =
    refused_at_once first_unfit policy_reply (shape c.args.text.now.tree) c.args.text.now.offsets.items _
    (c.refuse_tree.ensures first_unfit c.in-Err.ensures.unfit)
