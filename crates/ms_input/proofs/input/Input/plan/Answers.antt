use Rattle.std.proofs.Common.{ap, subst}
use Rattle.std.proofs.lemmas.Result.{IfOk-weaker}
use Rattle.ms_input.specs.Asked.{asked_plan}
use Rattle.ms_input.specs.Settled.{is_late}
use Rattle.ms_input.specs.Seen.{Seen, input_seen}
use Rattle.ms_input.specs.Scaffolding.Kept.{IsFound}
use Rattle.ms_input.proofs.Found.{no_tree, no_assets, tree_is, is_sane, told_plan}
use Rattle.ms_input.proofs.input.Input.plan.Goals as goal
use Rattle.ms_input.proofs.input.Input.plan.Goals.{in_default-via-in-Some+in_default, in_default-via-in_default}
use Rattle.ms_tree.specs.Shape.{shape}

pub asked_plan-requires-clause-sane : goal.asked_plan-requires-clause-sane
asked_plan-requires-clause-sane c =
    let found = subst (λ (s : Seen). IsFound (input_seen s) c.self.inside.settled) c.self.view_is c.self.invariant.found in
    is_sane (input_seen c.args.self.now) (shape c.in-Some-Some.tree) found.reading (ap is_late c.requires)
    (tree_is (input_seen c.args.self.now) c.self.inside.settled c.in-Some-Some.tree found c.in-Some-Some.is-0)

pub returns : goal.returns
returns c tree is =
    let found = subst (λ (s : Seen). IsFound (input_seen s) c.self.inside.settled) c.self.view_is c.self.invariant.found in
    IfOk-weaker c.asked_plan.result _ _
    (λ plan e. told_plan asked_plan (input_seen c.args.self.now) c.self.inside.settled c.in-Some-Some.tree tree c.in-Some-Some.assets plan found c.requires
    c.in-Some-Some.is-0 c.in-Some-Some.is-1 is e)
    c.asked_plan.ensures

pub unreachable-requires : goal.unreachable-requires
unreachable-requires c =
    let input = input_seen c.args.self.now in
    let settled = c.self.inside.settled in
    let found = subst (λ (s : Seen). IsFound (input_seen s) settled) c.self.view_is c.self.invariant.found in
    elim c.in_default.branch [
      | in_default-via-in-Some+in_default w ↦ no_assets input settled found (ap is_late c.requires) w.in_default.is-1
      | in_default-via-in_default w ↦ no_tree input settled found (ap is_late c.requires) w.in_default.is-0
    ]
