use Rattle.std.proofs.Common.{refl}
use Rattle.def_sane.specs.Unfit.{first_unfit_valid}
use Rattle.ms_tree.specs.Shape.{shape}
use Rattle.ms_words.specs.declared.words.TextCommand.TheVariants as kind
use Rattle.msat_cli.proofs.StepLemmas.{refused_tree}
use Rattle.msat_cli.proofs.texts.answer_traced.Goals as goal

pub returns-in-Err-clause-answer : goal.returns-in-Err-clause-answer
returns-in-Err-clause-answer g c =
    refused_tree kind.Trace (shape c.args.text.now.tree) c.args.text.now.offsets.items _ _ _ (record { left = refl; faults = refl })
    (c.refuse_tree.ensures first_unfit_valid c.in-Err.ensures.unfit)
