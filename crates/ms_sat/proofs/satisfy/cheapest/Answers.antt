use Rattle.std.proofs.Common.{sym, subst}
use Rattle.std.proofs.lemmas.Result.{IfOk-weaker}
use Rattle.def_choice.specs.Lightest.{IsLightest}
use Rattle.def_choice.proofs.Chosen.{cheapest_is_lightest}
use Rattle.def_satisfaction.specs.Satisfaction.{Sat}
use Rattle.ms_acceptance_laws.proofs.Accepted.{inversion_of}
use Rattle.ms_letter_laws.proofs.NodeLetters.{letters_of}
use Rattle.ms_tree.specs.Shape.{shape}
use Rattle.ms_sat.proofs.Lightest.{none_lightest}
use Rattle.ms_sat.proofs.satisfy.cheapest.Goals as goal

pub returns-clause-lightest : goal.returns-clause-lightest
returns-clause-lightest c =
    let t = shape c.args.valid.now.tree in
    let assets = c.args.assets.now in
    IfOk-weaker c.satisfaction.result _ (λ found. IsLightest (Sat t assets) found)
    (λ found is. subst (IsLightest (Sat t assets)) (sym is) (cheapest_is_lightest t assets c.args.valid.now.in_range.writable c.are_assets.ensures.held)) c.satisfaction.ensures.choice

pub returns-clause-none : goal.returns-clause-none
returns-clause-none c =
    let t = shape c.args.valid.now.tree in
    let assets = c.args.assets.now in
    IfOk-weaker c.satisfaction.result _ _
    (λ found is. none_lightest (Sat t assets) found
    (subst (IsLightest (Sat t assets)) (sym is) (cheapest_is_lightest t assets c.args.valid.now.in_range.writable c.are_assets.ensures.held))) c.satisfaction.ensures.choice

pub returns-clause-inversion : goal.returns-clause-inversion
returns-clause-inversion c = inversion_of (shape c.args.valid.now.tree) c.args.valid.now.in_range.writable c.args.valid.now.valid_by_consensus

pub returns-clause-letters : goal.returns-clause-letters
returns-clause-letters c = letters_of (shape c.args.valid.now.tree) c.args.valid.now.in_range.writable c.args.valid.now.valid_by_consensus
