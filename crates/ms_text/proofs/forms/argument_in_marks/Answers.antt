use Rattle.std.proofs.Common.{◌∙◌}
use Rattle.ms_text.specs.Scaffolding.Leaves.{leaf_tree}
use Rattle.ms_text.specs.Scaffolding.Names.{leaf_of}
use Rattle.ms_text.proofs.AnswerLemmas.{refused, along}
use Rattle.ms_text.proofs.StateLemmas.{takes_leaf_open, takes_leaf_word, takes_leaf_close}
use Rattle.ms_text.proofs.forms.argument_in_marks.Goals as goal

pub returns-in_err-at-clause-reads : goal.returns-in_err-at-clause-reads
returns-in_err-at-clause-reads c = λ fs os.
    refused _ _ _ _ c.from_residual.ensures.1 (c.in_err-at.ensures.reads _ _ (takes_leaf_open (leaf_of c.args.leaf) fs os))

pub returns-in_err-argument-clause-reads : goal.returns-in_err-argument-clause-reads
returns-in_err-argument-clause-reads c = λ fs os.
    refused _ _ _ _ c.from_residual-in_err-argument.ensures.1 (along _ _ _
    (c.in_ok-at.ensures.reads _ _ (takes_leaf_open (leaf_of c.args.leaf) fs os))
    (c.in_err-argument.ensures.reads _ _ (takes_leaf_word (leaf_of c.args.leaf) fs os)))

pub returns-in_err-end-clause-reads : goal.returns-in_err-end-clause-reads
returns-in_err-end-clause-reads c = λ fs os.
    let x = leaf_tree c.args.leaf c.in_ok-argument.argument.value in
    refused _ _ _ _ c.from_residual-in_err-end.ensures.1 (along _ _ _
    (c.in_ok-at.ensures.reads _ _ (takes_leaf_open (leaf_of c.args.leaf) fs os)
    ∙ c.in_ok-argument.ensures.reads _ _ (takes_leaf_word (leaf_of c.args.leaf) fs os))
    (c.in_err-end.ensures.reads _ _ (takes_leaf_close x fs os)))

pub returns-clause-reads : goal.returns-clause-reads
returns-clause-reads c = λ fs os.
    let x = leaf_tree c.args.leaf c.in_ok-argument.argument.value in
    c.in_ok-at.ensures.reads _ _ (takes_leaf_open (leaf_of c.args.leaf) fs os)
    ∙ c.in_ok-argument.ensures.reads _ _ (takes_leaf_word (leaf_of c.args.leaf) fs os)
    ∙ c.in_ok-end.ensures.reads _ _ (takes_leaf_close x fs os)
