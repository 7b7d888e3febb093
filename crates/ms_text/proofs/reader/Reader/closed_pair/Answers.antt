use Rattle.ms_tree.specs.Shape.{shape}
use Rattle.ms_text.specs.Scaffolding.Names.{pair_of}
use Rattle.ms_text.proofs.AnswerLemmas.{refused}
use Rattle.ms_text.proofs.StateLemmas.{takes_pair_second}
use Rattle.ms_text.proofs.reader.Reader.closed_pair.Goals as goal

pub returns-in_err-end-clause-reads : goal.returns-in_err-end-clause-reads
returns-in_err-end-clause-reads c = λ fs.
    let os = c.args.offsets.now.items in
    let pair = pair_of c.args.pair in
    refused _ _ _ _ c.from_residual.ensures.1
    (c.in_err-end.ensures.reads _ _ (takes_pair_second pair (shape c.args.x) (shape c.args.y.tree) c.args.name fs os))

pub returns-clause-reads : goal.returns-clause-reads
returns-clause-reads c = λ fs.
    let os = c.args.offsets.now.items in
    let pair = pair_of c.args.pair in
    rw (c.in_ok-tree.ensures.tree, c.in_ok-add_pair_offsets.ensures.added)
    (c.in_ok-end.ensures.reads _ _ (takes_pair_second pair (shape c.args.x) (shape c.args.y.tree) c.args.name fs os))
