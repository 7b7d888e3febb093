use Rattle.std.proofs.Common.{◌++◌}
use Rattle.def_text.specs.Scaffolding.Reader.{leaf_offsets}
use Rattle.ms_tree.specs.Shape.{shape}
use Rattle.ms_text.specs.Scaffolding.Names.{leaf_of}
use Rattle.ms_text.proofs.AnswerLemmas.{refused}
use Rattle.ms_text.proofs.PartLemmas.{leaf_part}
use Rattle.ms_text.proofs.reader.Reader.leaf_form.Goals as goal

pub returns-in_err-argument-clause-reads : goal.returns-in_err-argument-clause-reads
returns-in_err-argument-clause-reads c = λ fs.
    let os = c.args.offsets.now.items ++ leaf_offsets (leaf_of c.args.leaf) c.args.name in
    refused _ _ _ _ c.from_residual.ensures.1 (c.in_err-argument.ensures.reads fs os)

pub returns-clause-part : goal.returns-clause-part
returns-clause-part c =
    leaf_part c.args.self.now.text.now c.args.name c.args.at c.in_ok-argument.argument.end c.args.leaf c.in_ok-argument.argument.value (shape c.in_ok-tree.tree)
    c.in_ok-tree.ensures.tree c.requires.before c.in_ok-argument.ensures.after c.in_ok-argument.ensures.place c.in_ok-argument.ensures.writable

pub returns-clause-reads : goal.returns-clause-reads
returns-clause-reads c = λ fs.
    rw (c.in_ok-tree.ensures.tree, c.in_ok-add_leaf_offsets.ensures.added)
    (c.in_ok-argument.ensures.reads fs (c.args.offsets.now.items ++ leaf_offsets (leaf_of c.args.leaf) c.args.name))
