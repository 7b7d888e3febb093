use Rattle.std.proofs.Common.{sym, ◌∙◌}
use Rattle.def_choice.proofs.Chosen.{strict_is_canonical}
use Rattle.def_sane.specs.declared.Rules.TheVariants.{Policy}
use Rattle.def_sane.proofs.Meanings.{sane_means, valid_under_consensus}
use Rattle.ms_tree.specs.Shape.{shape}
use Rattle.ms_row_laws.proofs.WithinLimits.{light_stack}
use Rattle.ms_plan.proofs.FromTwo.{first_none, second_none, no_longer, plan_found}
use Rattle.ms_plan.proofs.asking.plan_by.Goals as goal

pub returns-in_default : goal.returns-in_default
returns-in_default c assets table marked =
    first_none (shape c.args.tree.now) assets table c.args.first.now c.args.second.now c.requires.in_range.writable c.requires.sane marked
    (sym c.in_ok-stack.ensures.choice ∙ c.in_default.is)

pub returns-in_default-2 : goal.returns-in_default-2
returns-in_default-2 c assets table marked =
    second_none (shape c.args.tree.now) assets table c.args.first.now c.args.second.now c.requires.in_range.writable c.requires.sane marked
    (sym c.in_ok-other.ensures.choice ∙ c.in_default-2.is)

pub differing-requires : goal.differing-requires
differing-requires c =
    let marked = c.requires.marked in
    no_longer (shape c.args.tree.now) marked.0 marked.1 c.args.first.now c.args.second.now c.in-Some.stack c.in-Some-2.other marked.2
    (sym c.in_ok-stack.ensures.choice ∙ c.in-Some.is) (sym c.in_ok-other.ensures.choice ∙ c.in-Some-2.is)

pub weight-weight-requires : goal.weight-weight-requires
weight-weight-requires c =
    light_stack (shape c.args.tree.now) c.args.first.now c.in-Some.stack c.requires.in_range.writable
    (valid_under_consensus Policy (shape c.args.tree.now) ((sane_means (shape c.args.tree.now)).0 c.requires.sane).0) c.are_assets.ensures.held
    (strict_is_canonical (shape c.args.tree.now) c.args.first.now c.in-Some.stack c.requires.in_range.writable c.are_assets.ensures.held (sym c.in_ok-stack.ensures.choice ∙ c.in-Some.is))

pub returns : goal.returns
returns c assets table marked =
    plan_found (shape c.args.tree.now) assets table c.args.first.now c.args.second.now c.in-Some.stack c.in-Some-2.other _ _ _ _ c.requires.in_range.writable c.requires.sane marked
    (sym c.in_ok-stack.ensures.choice ∙ c.in-Some.is) (sym c.in_ok-other.ensures.choice ∙ c.in-Some-2.is)
    c.in_ok-signatures.ensures c.new-keys.ensures.items (c.from_vec-keys.ensures ∙ c.in_ok-push_signers.ensures) c.weight-weight.ensures
