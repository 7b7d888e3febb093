use Rattle.std.proofs.Common.{[], ◌∷◌, ◌++◌, ◌∙◌}
use Rattle.ms_text.proofs.AnswerLemmas.{refused, along}
use Rattle.ms_text.proofs.StateLemmas.{takes_multi_open, takes_multi_number}
use Rattle.ms_text.proofs.reader.Reader.multi_form.Goals as goal

pub returns-in_err-at-clause-reads : goal.returns-in_err-at-clause-reads
returns-in_err-at-clause-reads c = λ fs.
    let os = c.args.offsets.now.items ++ c.args.name ∷ [] in
    refused _ _ _ _ c.from_residual.ensures.1 (c.in_err-at.ensures.reads _ _ (takes_multi_open fs os))

pub returns-in_err-k-clause-reads : goal.returns-in_err-k-clause-reads
returns-in_err-k-clause-reads c = λ fs.
    let os = c.args.offsets.now.items ++ c.args.name ∷ [] in
    refused _ _ _ _ c.from_residual-in_err-k.ensures.1 (along _ _ _
    (c.in_ok-at.ensures.reads _ _ (takes_multi_open fs os))
    (c.in_err-k.ensures.reads _ _ (takes_multi_number fs os)))

pub returns-in_err-read-clause-reads : goal.returns-in_err-read-clause-reads
returns-in_err-read-clause-reads c = λ fs.
    let os = c.args.offsets.now.items ++ c.args.name ∷ [] in
    refused _ _ _ _ c.from_residual-in_err-read.ensures.1 (along _ _ _
    (c.in_ok-at.ensures.reads _ _ (takes_multi_open fs os)
    ∙ c.in_ok-k.ensures.reads _ _ (takes_multi_number fs os))
    (c.in_err-read.ensures.reads c.in_ok-k.k.value fs os))

pub returns-clause-reads : goal.returns-clause-reads
returns-clause-reads c = λ fs.
    let os = c.args.offsets.now.items ++ c.args.name ∷ [] in
    rw (c.in_ok-tree.ensures.tree, c.in_ok-add_offset.ensures.added)
    (c.in_ok-at.ensures.reads _ _ (takes_multi_open fs os)
    ∙ c.in_ok-k.ensures.reads _ _ (takes_multi_number fs os)
    ∙ c.in_ok-read.ensures.reads c.in_ok-k.k.value fs os)
