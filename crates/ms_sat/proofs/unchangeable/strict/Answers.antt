use Rattle.std.proofs.lemmas.Result.{IfOk-weaker}
use Rattle.ms_tree.specs.Shape.{shape}
use Rattle.def_choice.proofs.Chosen.{tight_is_canonical}
use Rattle.ms_strict_laws.proofs.TightIsUnchangeable.{tight_is_unchangeable, tight_is_non_malleable}
use Rattle.ms_sat.proofs.Promises.{found_sat, found_none, found_non_malleable, found_nothing, found_lightest}
use Rattle.ms_sat.proofs.unchangeable.strict.Goals as goal

pub returns-clause-sat : goal.returns-clause-sat
returns-clause-sat c =
    IfOk-weaker c.satisfaction.result _ _
    (λ found is. found_sat (shape c.args.sane.now.valid.tree) c.args.assets.now found c.args.sane.now.valid.in_range.writable c.args.sane.now.sane_by_consensus c.are_assets.ensures.held is)
    c.satisfaction.ensures.choice

pub returns-clause-none : goal.returns-clause-none
returns-clause-none c =
    IfOk-weaker c.satisfaction.result _ _
    (λ found is. found_none (shape c.args.sane.now.valid.tree) c.args.assets.now found c.args.sane.now.valid.in_range.writable c.args.sane.now.sane_by_consensus c.are_assets.ensures.held is)
    c.satisfaction.ensures.choice

pub returns-clause-non_malleable : goal.returns-clause-non_malleable
returns-clause-non_malleable c =
    IfOk-weaker c.satisfaction.result _ _
    (λ found is. found_non_malleable (shape c.args.sane.now.valid.tree) c.args.assets.now found c.args.sane.now.valid.in_range.writable c.args.sane.now.sane_by_consensus c.are_assets.ensures.held is)
    c.satisfaction.ensures.choice

pub returns-clause-nothing : goal.returns-clause-nothing
returns-clause-nothing c =
    IfOk-weaker c.satisfaction.result _ _
    (λ found is. found_nothing (shape c.args.sane.now.valid.tree) c.args.assets.now found c.args.sane.now.valid.in_range.writable c.args.sane.now.sane_by_consensus c.are_assets.ensures.held is)
    c.satisfaction.ensures.choice

pub returns-clause-lightest : goal.returns-clause-lightest
returns-clause-lightest c =
    IfOk-weaker c.satisfaction.result _ _
    (λ found is. found_lightest (shape c.args.sane.now.valid.tree) c.args.assets.now found c.args.sane.now.valid.in_range.writable c.args.sane.now.sane_by_consensus c.are_assets.ensures.held is)
    c.satisfaction.ensures.choice

pub returns-clause-tight : goal.returns-clause-tight
returns-clause-tight c stack sat =
    tight_is_non_malleable (shape c.args.sane.now.valid.tree) c.args.assets.now stack
    c.args.sane.now.valid.in_range.writable c.args.sane.now.sane_by_consensus c.are_assets.ensures.held sat

pub returns-clause-tight_unchangeable : goal.returns-clause-tight_unchangeable
returns-clause-tight_unchangeable c stack tight =
    tight_is_unchangeable (shape c.args.sane.now.valid.tree) c.args.assets.now stack
    c.args.sane.now.valid.in_range.writable c.args.sane.now.sane_by_consensus c.are_assets.ensures.held
    (tight_is_canonical (shape c.args.sane.now.valid.tree) c.args.assets.now stack tight) tight
