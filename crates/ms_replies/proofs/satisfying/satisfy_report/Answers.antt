use Rattle.std.proofs.Common.{◌≡◌, ◌∙◌}
use Rattle.std.proofs.lemmas.Result.{IfOk-weaker}
use Rattle.std.specs.String.{string_bytes}
use Rattle.def_answer.specs.Satisfy.{satisfy_report}
use Rattle.ms_row_laws.proofs.WithinLimits.{light_stack}
use Rattle.ms_replies.specs.ChoiceTrees.{valid_in, tree_in}
use Rattle.ms_replies.proofs.SatisfiedLines.{satisfied_lines}
use Rattle.ms_replies.proofs.satisfying.satisfy_report.Goals as goal

pub satisfaction_report-requires-clause-light : goal.satisfaction_report-requires-clause-light
satisfaction_report-requires-clause-light c =
    let valid = valid_in c.args.tree.now in
    light_stack (tree_in c.args.tree.now) c.args.assets.now c.args.stack.now valid.in_range.writable valid.valid_by_consensus c.are_assets.ensures.held c.requires

pub returns : goal.returns
returns c =
    let rules = (valid_in c.args.tree.now).rules in
    IfOk-weaker c.satisfaction_report.result _ (λ report. string_bytes report ≡ satisfy_report rules (tree_in c.args.tree.now) c.args.assets.now c.args.stack.now)
    (λ report e. satisfied_lines rules (tree_in c.args.tree.now) c.args.assets.now c.args.stack.now _ _ _ _ _ _
    (c.new-sigs.ensures.table ∙ c.pairs-pairs.ensures) (rw c.tree.ensures.tree at c.in_ok-carried.ensures.report) c.bounds-bounds.ensures.bounds
    (c.as_slice.ensures ∙ rw c.tree.ensures.tree at c.in_ok-carried.ensures.script) (c.as_slice-2.ensures ∙ rw c.tree.ensures.tree at c.in_ok-carried.ensures.witness) e)
    c.satisfaction_report.ensures
