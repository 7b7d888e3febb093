use Rattle.std.proofs.Common.{sym, subst}
use Rattle.std.proofs.lemmas.Result.{IfOk-weaker}
use Rattle.ms_tree.specs.Shape.{shape}
use Rattle.ms_input.specs.Witnesses.{IsReplayed}
use Rattle.ms_input.proofs.Witnessed.{fits, is_replayed, is_unchangeable}
use Rattle.ms_input.proofs.finalize.witness.final_witness.Goals as goal

pub witness_bytes-requires : goal.witness_bytes-requires
witness_bytes-requires c =
    fits (shape c.args.tree.now) c.args.script.now c.args.assets.now c.args.stack.now
    (record { in_range = c.requires.in_range; sane = c.requires.sane; same = c.requires.script; few = c.are_assets.ensures; chosen = c.requires.chosen })

pub returns-clause-accepted : goal.returns-clause-accepted
returns-clause-accepted c =
    IfOk-weaker c.witness_bytes.result _ _
    (λ witness is. subst (IsReplayed c.args.assets.now c.args.script.now) (sym is)
    (is_replayed (shape c.args.tree.now) c.args.script.now c.args.assets.now c.args.stack.now
    (record { in_range = c.requires.in_range; sane = c.requires.sane; same = c.requires.script; few = c.are_assets.ensures; chosen = c.requires.chosen })))
    c.witness_bytes.ensures

pub returns-clause-unchangeable : goal.returns-clause-unchangeable
returns-clause-unchangeable c =
    is_unchangeable (shape c.args.tree.now) c.args.script.now c.args.assets.now c.args.stack.now
    (record { in_range = c.requires.in_range; sane = c.requires.sane; same = c.requires.script; few = c.are_assets.ensures; chosen = c.requires.chosen })
