use Rattle.std.proofs.Common.{◌<◌, length, ap, sym, subst, arith}
use Rattle.def_tree.specs.InRange.{IsInRange, measure}
use Rattle.ms_tree.specs.declared.tree.Tree.{Tree}
use Rattle.ms_tree.specs.Shape.{shape}
use Rattle.ms_tree.proofs.Parts.{measure-child}
use Rattle.ms_policy.proofs.of_tree.+policy.Goals as goal

pub simplified_each-simplified-requires : goal.simplified_each-simplified-requires
simplified_each-simplified-requires t c =
    let within : c.loop-child.child-index < length c.args.children.now = omega arith in
    let P : Tree → Type 0 = λ x. IsInRange (shape x) in (
      omega (arith, ap (λ x. measure (shape x)) c.child-item.is, measure-child c.args.children.now c.loop-child.child-index c.child-item.result within),
      subst P (sym c.child-item.is) (c.requires c.loop-child.child-index c.child-item.result within),
    )
