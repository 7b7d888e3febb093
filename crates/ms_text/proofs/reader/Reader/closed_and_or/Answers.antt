use Rattle.ms_tree.specs.Shape.{shape}
use Rattle.ms_text.proofs.AnswerLemmas.{refused}
use Rattle.ms_text.proofs.StateLemmas.{takes_andor_third}
use Rattle.ms_text.proofs.reader.Reader.closed_and_or.Goals as goal

pub returns-in_err-end-clause-reads : goal.returns-in_err-end-clause-reads
returns-in_err-end-clause-reads c = λ fs.
    let os = c.args.offsets.now.items in
    refused _ _ _ _ c.from_residual.ensures.1
    (c.in_err-end.ensures.reads _ _ (takes_andor_third (shape c.args.x) (shape c.args.y) (shape c.args.z.tree) c.args.name fs os))

pub returns-clause-reads : goal.returns-clause-reads
returns-clause-reads c = λ fs.
    let os = c.args.offsets.now.items in
    rw (c.in_ok-tree.ensures.tree, c.in_ok-add_offset.ensures.added)
    (c.in_ok-end.ensures.reads _ _ (takes_andor_third (shape c.args.x) (shape c.args.y) (shape c.args.z.tree) c.args.name fs os))
