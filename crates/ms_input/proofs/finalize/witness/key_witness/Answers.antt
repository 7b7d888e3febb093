use Rattle.std.proofs.Common.{refl, arith}
use Rattle.def_emit.specs.Emit.{script_of}
use Rattle.ms_tree.specs.Shape.{shape}
use Rattle.ms_input.proofs.Witnessed.{fits, is_unchangeable}
use Rattle.ms_input.proofs.finalize.witness.key_witness.Goals as goal

pub stack_bytes-requires : goal.stack_bytes-requires
stack_bytes-requires c =
    let f = fits (shape c.args.tree.now) (script_of (shape c.args.tree.now)) c.args.assets.now c.args.stack.now
    (record { in_range = c.requires.in_range; sane = c.requires.sane; same = refl; few = c.are_assets.ensures; chosen = c.requires.chosen })
    in
    record { few = f.few; items = f.items; last = omega arith }

pub returns-clause-unchangeable : goal.returns-clause-unchangeable
returns-clause-unchangeable c =
    is_unchangeable (shape c.args.tree.now) (script_of (shape c.args.tree.now)) c.args.assets.now c.args.stack.now
    (record { in_range = c.requires.in_range; sane = c.requires.sane; same = refl; few = c.are_assets.ensures; chosen = c.requires.chosen })
