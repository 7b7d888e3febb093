use Rattle.std.proofs.Common.{◌∙◌}
use Rattle.std.proofs.lemmas.Result.{IfOk-weaker}
use Rattle.ms_tree.specs.Shape.{shape}
use Rattle.ms_plan.specs.Estimates.{table_of}
use Rattle.ms_plan.proofs.Promised.{made, made_none, made_lengths, made_suffices, made_weight, made_least, made_listed, made_none_in_vain, made_in_order}
use Rattle.ms_plan.proofs.asking.plan.Goals as goal

pub returns-clause-none : goal.returns-clause-none
returns-clause-none g c =
    IfOk-weaker c.plan_of_table.result _ _
    (λ found is. made_none (shape c.args.tree.now) c.args.assets.now (table_of c.args.estimate.now) found
    (made (shape c.args.tree.now) c.args.assets.now (table_of c.args.estimate.now) _ found c.requires.in_range.writable c.requires.sane
    c.are_assets.ensures.held c.requires.sound.0 (c.as_slice.ensures ∙ c.in_ok-lengths.ensures) is))
    c.plan_of_table.ensures

pub returns-clause-lengths : goal.returns-clause-lengths
returns-clause-lengths g c =
    IfOk-weaker c.plan_of_table.result _ _
    (λ found is. made_lengths (shape c.args.tree.now) c.args.assets.now (table_of c.args.estimate.now) found
    (made (shape c.args.tree.now) c.args.assets.now (table_of c.args.estimate.now) _ found c.requires.in_range.writable c.requires.sane
    c.are_assets.ensures.held c.requires.sound.0 (c.as_slice.ensures ∙ c.in_ok-lengths.ensures) is))
    c.plan_of_table.ensures

pub returns-clause-suffices : goal.returns-clause-suffices
returns-clause-suffices g c =
    IfOk-weaker c.plan_of_table.result _ _
    (λ found is. made_suffices (shape c.args.tree.now) c.args.assets.now (table_of c.args.estimate.now) found
    (made (shape c.args.tree.now) c.args.assets.now (table_of c.args.estimate.now) _ found c.requires.in_range.writable c.requires.sane
    c.are_assets.ensures.held c.requires.sound.0 (c.as_slice.ensures ∙ c.in_ok-lengths.ensures) is))
    c.plan_of_table.ensures

pub returns-clause-weight : goal.returns-clause-weight
returns-clause-weight g c =
    IfOk-weaker c.plan_of_table.result _ _
    (λ found is. made_weight (shape c.args.tree.now) c.args.assets.now (table_of c.args.estimate.now) found
    (made (shape c.args.tree.now) c.args.assets.now (table_of c.args.estimate.now) _ found c.requires.in_range.writable c.requires.sane
    c.are_assets.ensures.held c.requires.sound.0 (c.as_slice.ensures ∙ c.in_ok-lengths.ensures) is))
    c.plan_of_table.ensures

pub returns-clause-least : goal.returns-clause-least
returns-clause-least g c =
    IfOk-weaker c.plan_of_table.result _ _
    (λ found is. made_least (shape c.args.tree.now) c.args.assets.now (table_of c.args.estimate.now) found
    (made (shape c.args.tree.now) c.args.assets.now (table_of c.args.estimate.now) _ found c.requires.in_range.writable c.requires.sane
    c.are_assets.ensures.held c.requires.sound.0 (c.as_slice.ensures ∙ c.in_ok-lengths.ensures) is))
    c.plan_of_table.ensures

pub returns-clause-listed : goal.returns-clause-listed
returns-clause-listed g c =
    IfOk-weaker c.plan_of_table.result _ _
    (λ found is. made_listed (shape c.args.tree.now) c.args.assets.now (table_of c.args.estimate.now) found
    (made (shape c.args.tree.now) c.args.assets.now (table_of c.args.estimate.now) _ found c.requires.in_range.writable c.requires.sane
    c.are_assets.ensures.held c.requires.sound.0 (c.as_slice.ensures ∙ c.in_ok-lengths.ensures) is))
    c.plan_of_table.ensures

pub returns-clause-none_in_vain : goal.returns-clause-none_in_vain
returns-clause-none_in_vain g c =
    IfOk-weaker c.plan_of_table.result _ _
    (λ found is. made_none_in_vain (shape c.args.tree.now) c.args.assets.now (table_of c.args.estimate.now) found
    (made (shape c.args.tree.now) c.args.assets.now (table_of c.args.estimate.now) _ found c.requires.in_range.writable c.requires.sane
    c.are_assets.ensures.held c.requires.sound.0 (c.as_slice.ensures ∙ c.in_ok-lengths.ensures) is))
    c.plan_of_table.ensures

pub returns-clause-in_order : goal.returns-clause-in_order
returns-clause-in_order g c =
    IfOk-weaker c.plan_of_table.result _ _
    (λ found is. made_in_order (shape c.args.tree.now) c.args.assets.now (table_of c.args.estimate.now) found
    (made (shape c.args.tree.now) c.args.assets.now (table_of c.args.estimate.now) _ found c.requires.in_range.writable c.requires.sane
    c.are_assets.ensures.held c.requires.sound.0 (c.as_slice.ensures ∙ c.in_ok-lengths.ensures) is))
    c.plan_of_table.ensures
