use Rattle.std.proofs.Common.{sym, ap, subst, ◌∙◌}
use Rattle.std.proofs.lemmas.Result.{IfOk-weaker}
use Rattle.ms_input.specs.Settled.{is_late}
use Rattle.ms_input.specs.Spending.{code_seen}
use Rattle.ms_input.specs.Seen.{Seen, input_seen}
use Rattle.ms_input.specs.Scaffolding.Kept.{IsGuarded, IsFound}
use Rattle.ms_input.proofs.Found.{no_tree, no_assets, no_stack, tree_is, is_sane, has_script, kept_assets, kept_stack, unchanged}
use Rattle.ms_input.proofs.Witnesses.{ends_by, script_witness, key_witness, replayed, never_both}
use Rattle.ms_input.proofs.input.Input.witness.Goals as goal
use Rattle.ms_input.proofs.input.Input.witness.Goals.{in_default-via-in-Some+in-Some+in_default, in_default-via-in-Some+in_default, in_default-via-in_default}
use Rattle.ms_tree.specs.Shape.{shape}

pub final_witness-requires-clause-sane : goal.final_witness-requires-clause-sane
final_witness-requires-clause-sane c =
    let found = subst (λ (s : Seen). IsFound (input_seen s) c.self.inside.settled) c.self.view_is c.self.invariant.found in
    is_sane (input_seen c.args.self.now) (shape c.in-Some-Some-Some.tree) found.reading (ap is_late c.requires)
    (tree_is (input_seen c.args.self.now) c.self.inside.settled c.in-Some-Some-Some.tree found c.in-Some-Some-Some.is-0)

pub key_witness-requires-clause-sane : goal.key_witness-requires-clause-sane
key_witness-requires-clause-sane c =
    let found = subst (λ (s : Seen). IsFound (input_seen s) c.self.inside.settled) c.self.view_is c.self.invariant.found in
    is_sane (input_seen c.args.self.now) (shape c.in-Some-Some-Some.tree) found.reading (ap is_late c.requires)
    (tree_is (input_seen c.args.self.now) c.self.inside.settled c.in-Some-Some-Some.tree found c.in-Some-Some-Some.is-0)

pub final_witness-requires-clause-script : goal.final_witness-requires-clause-script
final_witness-requires-clause-script c =
    let i = c.self.inside in
    let found = subst (λ (s : Seen). IsFound (input_seen s) i.settled) c.self.view_is c.self.invariant.found in
    let guarded = subst (λ (s : Seen). IsGuarded s.spend i.amount i.kind (code_seen i.script)) c.self.view_is c.self.invariant.guarded in
    has_script (input_seen c.args.self.now) (shape c.in-Some-Some-Some.tree) found.reading (ap is_late c.requires)
    (tree_is (input_seen c.args.self.now) i.settled c.in-Some-Some-Some.tree found c.in-Some-Some-Some.is-0)
    ∙ sym guarded.script_is ∙ sym c.as_slice.ensures

pub returns-then-ends_in_script-clause-witness : goal.returns-then-ends_in_script-clause-witness
returns-then-ends_in_script-clause-witness c =
    let i = c.self.inside in
    let found = subst (λ (s : Seen). IsFound (input_seen s) i.settled) c.self.view_is c.self.invariant.found in
    let guarded = subst (λ (s : Seen). IsGuarded s.spend i.amount i.kind (code_seen i.script)) c.self.view_is c.self.invariant.guarded in
    let ends = ends_by (input_seen c.args.self.now) i.kind c.ends_in_script.result _ guarded.kind_is c.ends_in_script.ensures c.if-ends_in_script.true in
    let stack = kept_stack (input_seen c.args.self.now) i.settled c.in-Some-Some-Some.stack found c.requires c.in-Some-Some-Some.is-2 in
    IfOk-weaker c.final_witness.result _ _
    (λ witness is. is ∙ script_witness (input_seen c.args.self.now) _ _ ends stack (c.as_slice.ensures ∙ guarded.script_is)) c.final_witness.ensures.witness

pub returns-then-ends_in_script-clause-accepted : goal.returns-then-ends_in_script-clause-accepted
returns-then-ends_in_script-clause-accepted c =
    let i = c.self.inside in
    let found = subst (λ (s : Seen). IsFound (input_seen s) i.settled) c.self.view_is c.self.invariant.found in
    let guarded = subst (λ (s : Seen). IsGuarded s.spend i.amount i.kind (code_seen i.script)) c.self.view_is c.self.invariant.guarded in
    let assets = kept_assets (input_seen c.args.self.now) i.settled c.in-Some-Some-Some.assets found (ap is_late c.requires) c.in-Some-Some-Some.is-1 in
    IfOk-weaker c.final_witness.result _ _
    (λ witness is ends. replayed (input_seen c.args.self.now) _ _ witness assets (c.as_slice.ensures ∙ guarded.script_is) is) c.final_witness.ensures.accepted

pub returns-else-ends_in_script-clause-witness : goal.returns-else-ends_in_script-clause-witness
returns-else-ends_in_script-clause-witness c =
    let i = c.self.inside in
    let found = subst (λ (s : Seen). IsFound (input_seen s) i.settled) c.self.view_is c.self.invariant.found in
    let guarded = subst (λ (s : Seen). IsGuarded s.spend i.amount i.kind (code_seen i.script)) c.self.view_is c.self.invariant.guarded in
    let ends = ends_by (input_seen c.args.self.now) i.kind c.ends_in_script.result _ guarded.kind_is c.ends_in_script.ensures c.if-ends_in_script.false in
    let stack = kept_stack (input_seen c.args.self.now) i.settled c.in-Some-Some-Some.stack found c.requires c.in-Some-Some-Some.is-2 in
    IfOk-weaker c.key_witness.result _ _ (λ witness is. is ∙ key_witness (input_seen c.args.self.now) _ ends stack) c.key_witness.ensures.witness

pub returns-else-ends_in_script-clause-accepted : goal.returns-else-ends_in_script-clause-accepted
returns-else-ends_in_script-clause-accepted c =
    let i = c.self.inside in
    let guarded = subst (λ (s : Seen). IsGuarded s.spend i.amount i.kind (code_seen i.script)) c.self.view_is c.self.invariant.guarded in
    let none = ends_by (input_seen c.args.self.now) i.kind c.ends_in_script.result _ guarded.kind_is c.ends_in_script.ensures c.if-ends_in_script.false in
    IfOk-weaker c.key_witness.result _ _ (λ witness is ends. absurd (never_both _ none ends)) c.key_witness.ensures.witness

pub returns-then-ends_in_script-clause-unchangeable : goal.returns-then-ends_in_script-clause-unchangeable
returns-then-ends_in_script-clause-unchangeable c =
    let found = subst (λ (s : Seen). IsFound (input_seen s) c.self.inside.settled) c.self.view_is c.self.invariant.found in
    IfOk-weaker c.final_witness.result _ _
    (λ witness is. unchanged (input_seen c.args.self.now) c.self.inside.settled c.in-Some-Some-Some.tree c.in-Some-Some-Some.assets c.in-Some-Some-Some.stack found c.requires
    c.in-Some-Some-Some.is-0 c.in-Some-Some-Some.is-1 c.in-Some-Some-Some.is-2 c.final_witness.ensures.unchangeable)
    c.final_witness.ensures.witness

pub returns-else-ends_in_script-clause-unchangeable : goal.returns-else-ends_in_script-clause-unchangeable
returns-else-ends_in_script-clause-unchangeable c =
    let found = subst (λ (s : Seen). IsFound (input_seen s) c.self.inside.settled) c.self.view_is c.self.invariant.found in
    IfOk-weaker c.key_witness.result _ _
    (λ witness is. unchanged (input_seen c.args.self.now) c.self.inside.settled c.in-Some-Some-Some.tree c.in-Some-Some-Some.assets c.in-Some-Some-Some.stack found c.requires
    c.in-Some-Some-Some.is-0 c.in-Some-Some-Some.is-1 c.in-Some-Some-Some.is-2 c.key_witness.ensures.unchangeable)
    c.key_witness.ensures.witness

pub unreachable-requires : goal.unreachable-requires
unreachable-requires c =
    let input = input_seen c.args.self.now in
    let settled = c.self.inside.settled in
    let found = subst (λ (s : Seen). IsFound (input_seen s) settled) c.self.view_is c.self.invariant.found in
    elim c.in_default.branch [
      | in_default-via-in-Some+in-Some+in_default w ↦ no_stack input settled found c.requires w.in_default.is-2
      | in_default-via-in-Some+in_default w ↦ no_assets input settled found (ap is_late c.requires) w.in_default.is-1
      | in_default-via-in_default w ↦ no_tree input settled found (ap is_late c.requires) w.in_default.is-0
    ]
