use Rattle.std.proofs.Common.{sym, ap, ◌∙◌}
use Rattle.ms_text.specs.Scaffolding.Leaves.{leaf_tree, leaf_of_key}
use Rattle.ms_text.specs.Scaffolding.Place.{machine_from}
use Rattle.ms_text.proofs.AnswerLemmas.{refused}
use Rattle.ms_text.proofs.KeyLemmas.{takes_of_key}
use Rattle.ms_text.proofs.arguments.key_argument_at.Goals as goal

pub returns-in_err-key-clause-reads : goal.returns-in_err-key-clause-reads
returns-in_err-key-clause-reads c = λ s next t.
    refused _ _ _ _ c.from_residual.ensures.1 (c.in_err-key.ensures.reads s (λ key. next (leaf_tree c.args.name (leaf_of_key c.args.name key))) (takes_of_key c.args.name s next c.requires.name t))

pub returns-clause-reads : goal.returns-clause-reads
returns-clause-reads c = λ s next t.
    c.in_ok-key.ensures.reads s (λ key. next (leaf_tree c.args.name (leaf_of_key c.args.name key))) (takes_of_key c.args.name s next c.requires.name t)
    ∙ ap (λ leaf. machine_from (next (leaf_tree c.args.name leaf)) c.args.text.now c.in_ok-key.key.end) (sym c.key_leaf.ensures)
