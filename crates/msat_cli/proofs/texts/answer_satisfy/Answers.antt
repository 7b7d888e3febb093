use Rattle.std.proofs.Common.{refl}
use Rattle.ms_tree.specs.Shape.{shape}
use Rattle.ms_words.specs.declared.words.TextCommand.TheVariants as kind
use Rattle.def_answer.specs.Satisfy.{reason_by}
use Rattle.msat_cli.proofs.StepLemmas.{refused_tree}
use Rattle.msat_cli.proofs.texts.answer_satisfy.Goals as goal

pub returns-in-Err-clause-answer : goal.returns-in-Err-clause-answer
returns-in-Err-clause-answer g c =
    refused_tree (kind.Satisfy c.args.choice c.args.rules) (shape c.args.text.now.tree) c.args.text.now.offsets.items _ _ _ (record { left = refl; faults = refl })
    (c.refuse_tree.ensures (reason_by c.args.choice c.args.rules) c.in-Err.ensures.unfit)
