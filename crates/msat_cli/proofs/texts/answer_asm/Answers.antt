use Rattle.def_sane.specs.Unfit.{first_unfit_valid_under}
use Rattle.ms_tree.specs.Shape.{shape}
use Rattle.def_answer.specs.Answer.{asm_reply}
use Rattle.msat_cli.proofs.StepLemmas.{refused_at_once}
use Rattle.msat_cli.proofs.texts.answer_asm.Goals as goal

pub returns-in-Err : goal.returns-in-Err
returns-in-Err c =
    refused_at_once (first_unfit_valid_under c.args.rules) (asm_reply c.args.text.now.offsets.items) (shape c.args.text.now.tree)
    c.args.text.now.offsets.items _ (c.refuse_tree.ensures (first_unfit_valid_under c.args.rules) c.in-Err.ensures.unfit)
