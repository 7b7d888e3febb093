use Rattle.std.proofs.Common.{sym, ap, ◌∙◌}
use Rattle.std.proofs.lemmas.Result.{on_ok_weaker}
use Rattle.def_spend.specs.States.{state_of, stack_of, is_sane}
use Rattle.ms_tree.specs.Shape.{shape}
use Rattle.ms_input.specs.Seen.{input_seen}
use Rattle.ms_psbt_report.proofs.InputLines.{tree_told}
use Rattle.ms_psbt_answer_laws.proofs.Sane.{sane_state}
use Rattle.ms_psbt_report.proofs.trees.push_tree_lines.Goals as goal

pub push_told_tree-requires-clause-sane : goal.push_told_tree-requires-clause-sane
push_told_tree-requires-clause-sane c h =
    sane_state (input_seen c.args.input.now) (shape c.in-Some.tree.now) (sym c.in-Some.ensures.tree) (ap is_sane (sym c.state.ensures) ∙ h)

pub returns : goal.returns
returns c =
    let input = input_seen c.args.input.now in
    on_ok_weaker c.push_last_lines.result
    (tree_told (state_of input) c.state.result input.tree (shape c.in-Some.tree.now) input.spend (stack_of input) _ _ _
    (sym c.in-Some.ensures.tree) c.state.ensures c.in_ok-push_told_tree.ensures)
    (c.push_last_lines.ensures (shape c.in-Some.tree.now) (sym c.in-Some.ensures.tree))
