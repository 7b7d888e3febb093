use Rattle.def_sane.specs.Unfit.{first_unfit_under}
use Rattle.ms_tree.specs.Shape.{shape}
use Rattle.def_answer.specs.Answer.{check_reply}
use Rattle.msat_cli.proofs.StepLemmas.{refused_at_once}
use Rattle.msat_cli.proofs.texts.answer_check.Goals as goal

pub returns-in-Err : goal.returns-in-Err
returns-in-Err c =
    refused_at_once (first_unfit_under c.args.rules) (check_reply c.args.rules) (shape c.args.text.now.tree) c.args.text.now.offsets.items _
    (c.refuse_tree.ensures (first_unfit_under c.args.rules) c.in-Err.ensures.unfit)
