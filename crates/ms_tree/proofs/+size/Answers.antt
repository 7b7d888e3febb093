use Rattle.std.proofs.Common.{◌≡◌, [], arith, drop, sym, ◌∙◌}
use Rattle.std.proofs.lemmas.List.{drop_all}
use Rattle.ms_tree.proofs.Parts.{nodes_at, in_range_at}
use Rattle.ms_tree.proofs.+size.Goals as goal

pub size::size_of_all-size-requires : goal.size::size_of_all-size-requires
size::size_of_all-size-requires t c =
    let few = nodes_at c.args.children.now c.loop-child.child-index c.child-item.result c.loop-child-test.true c.child-item.is in
    (omega (arith, c.decreases, few), in_range_at c.args.children.now c.loop-child.child-index c.child-item.result c.loop-child-test.true c.child-item.is c.requires)

pub size::size_of_all-returns : goal.size::size_of_all-returns
size::size_of_all-returns t c =
    let gone : drop c.loop-child.child-index c.args.children.now ≡ [] = drop_all c.loop-child.child-index c.args.children.now c.loop-child-test.false in
    sym c.loop-child.invariant.fits ∙ (rw gone at c.loop-child.invariant.left)
