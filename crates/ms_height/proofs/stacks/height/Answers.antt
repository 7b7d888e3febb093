use Rattle.std.proofs.Common.{subst, sym}
use Rattle.def_height.specs.Height.{IsHeight}
use Rattle.def_height.proofs.Found.{height_is_computed}
use Rattle.ms_tree.specs.Shape.{shape}
use Rattle.ms_work.proofs.Accepted.{typed_of}
use Rattle.ms_height.proofs.stacks.height.Goals as goal

pub returns-clause-height : goal.returns-clause-height
returns-clause-height c =
    subst (IsHeight (shape c.args.tree.now)) (sym c.highest.ensures.height) (height_is_computed (shape c.args.tree.now) (typed_of (shape c.args.tree.now) c.requires.typed))
