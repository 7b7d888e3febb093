use Rattle.std.proofs.Common.{◌≡◌, sym, subst}
use Rattle.def_answer.specs.Generated.{generated_tree}
use Rattle.ms_tree.specs.Shape.{shape}
use Rattle.ms_generator.proofs.GeneratorLemmas.{generated_sane, both_found}
use Rattle.ms_generator.proofs.generator.answer_gen.Goals as goal

pub sane_tree-requires-clause-sane : goal.sane_tree-requires-clause-sane
sane_tree-requires-clause-sane c =
    generated_sane c.args.n (shape c.in_ok-tree.tree) c.requires.least c.requires.most c.in_ok-tree.ensures.tree

pub gen_report-requires-clause-strict : goal.gen_report-requires-clause-strict
gen_report-requires-clause-strict c =
    let tree = subst (λ t. shape t ≡ generated_tree c.args.n) (sym c.in_ok-sane.ensures) c.in_ok-tree.ensures.tree in
    let both = both_found c.args.n (shape c.in_ok-sane.sane.valid.tree) c.in_ok-text.assets c.requires.least c.requires.most tree c.in_ok-text.ensures.assets in
    both.1

pub gen_report-requires-clause-cheapest : goal.gen_report-requires-clause-cheapest
gen_report-requires-clause-cheapest c =
    let tree = subst (λ t. shape t ≡ generated_tree c.args.n) (sym c.in_ok-sane.ensures) c.in_ok-tree.ensures.tree in
    let both = both_found c.args.n (shape c.in_ok-sane.sane.valid.tree) c.in_ok-text.assets c.requires.least c.requires.most tree c.in_ok-text.ensures.assets in
    both.0
