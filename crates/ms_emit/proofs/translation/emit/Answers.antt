use Rattle.def_emit.proofs.Short.{short-emit}
use Rattle.ms_tree.specs.Shape.{shape}
use Rattle.ms_emit.proofs.translation.emit.Goals as goal

pub returns-clause-encodable : goal.returns-clause-encodable
returns-clause-encodable c =
    rw (c.in_ok-add_tree.ensures, c.new-script.ensures) (short-emit (shape c.args.tree.now) c.requires.writable).all
