use Rattle.std.proofs.Common.{◌<◌, length, ap, sym, subst, arith}
use Rattle.def_tree.specs.InRange.{IsInRange, measure}
use Rattle.ms_tree.specs.declared.tree.Tree.{Tree}
use Rattle.ms_tree.specs.Shape.{shape}
use Rattle.ms_tree.proofs.Parts.{measure-child}
use Rattle.ms_print.proofs.print.+print.Goals as goal

pub print_thresh-print_further-requires : goal.print_thresh-print_further-requires
print_thresh-print_further-requires t c =
    let within : c.loop-x.x-index < length c.args.children.now = omega arith in
    let P : Tree → Type 0 = λ x. IsInRange (shape x) in (
      omega (arith, ap (λ x. measure (shape x)) c.x-item.is, measure-child c.args.children.now c.loop-x.x-index c.x-item.result within),
      subst P (sym c.x-item.is) (c.requires c.loop-x.x-index c.x-item.result within),
    )
