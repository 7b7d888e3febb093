use Rattle.ms_tree.specs.Shape.{shape}
use Rattle.ms_generator.proofs.GeneratorLemmas.{is_generated, no_refusal}
use Rattle.ms_generator.proofs.generator.generated_tree.Goals as goal

pub unreachable-requires : goal.unreachable-requires
unreachable-requires c =
    no_refusal c.args.n c.args.text.now _ c.requires.least c.requires.most c.requires.text c.utf8.text (c.in-Err-TooLong.ensures.refused (λ e. cc))

pub unreachable-requires-in-Err-Syntax : goal.unreachable-requires-in-Err-Syntax
unreachable-requires-in-Err-Syntax c =
    no_refusal c.args.n c.args.text.now _ c.requires.least c.requires.most c.requires.text c.utf8.text (c.in-Err-Syntax.ensures.refused (λ e. cc))

pub unreachable-requires-in-Err-TooDeep : goal.unreachable-requires-in-Err-TooDeep
unreachable-requires-in-Err-TooDeep c =
    no_refusal c.args.n c.args.text.now _ c.requires.least c.requires.most c.requires.text c.utf8.text (c.in-Err-TooDeep.ensures.refused (λ e. cc))

pub returns-in-Ok-clause-tree : goal.returns-in-Ok-clause-tree
returns-in-Ok-clause-tree c =
    is_generated c.args.n c.args.text.now (shape c.in-Ok.read.tree) _ c.requires.least c.requires.most c.requires.text c.in-Ok.ensures.read
