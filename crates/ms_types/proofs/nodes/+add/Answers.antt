use Rattle.std.proofs.Common.{Some, refl, ap, ◌∙◌, arith, []}
use Rattle.ms_tree.specs.Shape.{shape, shapes}
use Rattle.ms_tree.proofs.Parts.{nodes_at, in_range_at}
use Rattle.ms_types.specs.Scaffolding.Told.{joined, one_told, trees_told, seen_told}
use Rattle.ms_types.proofs.Telling.{
  on_ok,
  leaf_done,
  leaf_type,
  and_or_done,
  and_or_type,
  two_done,
  two_type,
  thresh_done,
  thresh_type,
  multi_done,
  multi_type,
  wrap_done,
  wrap_type,
}
use Rattle.ms_types.proofs.Telling.{child_told, child_done, one_counted, joined_first, told_end, added_end}
use Rattle.ms_types.proofs.nodes.+add.Goals as goal

pub add_children-add_tree-requires : goal.add_children-add_tree-requires
add_children-add_tree-requires g t c =
    let few = nodes_at c.args.children.now c.loop-child.child-index c.child-item.result c.loop-child-test.true c.child-item.is in
    λ κs within. (
      omega (arith, c.decreases, few),
      (within.0, (within.1, in_range_at c.args.children.now c.loop-child.child-index c.child-item.result c.loop-child-test.true c.child-item.is c.requires)),
    )

pub add_children-loop-child-init : goal.add_children-loop-child-init
add_children-loop-child-init g t c = record {
  types = Some [];
  seen = ap (λ s. Some s) c.no_children.ensures;
  count = refl;
  told = joined_first (trees_told g.T.TypeSystem.rows (shapes c.args.children.now));
  added = refl;
}

pub add_children-loop-child-preserved : goal.add_children-loop-child-preserved
add_children-loop-child-preserved g t c =
    let inv = c.loop-child.invariant in
    record {
      types = joined inv.types (one_told c.in_ok-ty.ty);
      seen = c.and_child-seen.ensures inv.types inv.seen;
      count = one_counted inv.types c.in_ok-ty.ty c.loop-child.child-index inv.count;
      told = child_told g.T.TypeSystem.rows inv.types c.in_ok-ty.ty c.args.children.now c.loop-child.child-index c.child-item.result
          c.loop-child-test.true c.child-item.is c.in_ok-ty.ensures.told ∙ inv.told;
      added = child_done g.T.TypeSystem.rows c.loop-child.types.items c.add_tree.new.types.items c.args.children.now c.loop-child.child-index
          c.child-item.result c.loop-child-test.true c.child-item.is c.in_ok-ty.ensures.added ∙ inv.added;
    }

pub add_children-returns-clause-told : goal.add_children-returns-clause-told
add_children-returns-clause-told g t c =
    let inv = c.loop-child.invariant in
    inv.seen ∙ ap (seen_told g.T.TypeSystem.seen) (told_end g.T.TypeSystem.rows inv.types c.args.children.now c.loop-child.child-index (omega (
      arith,
      c.loop-child-test.false,
    )) inv.told)

pub add_children-returns-clause-added : goal.add_children-returns-clause-added
add_children-returns-clause-added g t c =
    let inv = c.loop-child.invariant in
    added_end g.T.TypeSystem.rows c.loop-child.types.items c.args.types.now.items c.args.children.now c.loop-child.child-index (omega (arith, c.loop-child-test.false)) inv.added

pub add_tree-returns-in-Leaf-clause-added : goal.add_tree-returns-in-Leaf-clause-added
add_tree-returns-in-Leaf-clause-added g t c =
    on_ok c.add.result _ _
    (λ v e. leaf_done g.T.TypeSystem.rows c.args.types.now.items _ c.in-Leaf.leaf (shape c.args.tree.now) c.passed.result c.of_leaf.result
    c.in-Leaf.ensures.shows c.of_leaf.ensures c.passed.ensures e)
    c.add.ensures.added

pub add_tree-returns-in-Leaf-clause-told : goal.add_tree-returns-in-Leaf-clause-told
add_tree-returns-in-Leaf-clause-told g t c =
    on_ok c.add.result _ _
    (λ v e. e ∙ leaf_type g.T.TypeSystem.rows c.in-Leaf.leaf (shape c.args.tree.now) c.passed.result c.of_leaf.result c.in-Leaf.ensures.shows c.of_leaf.ensures c.passed.ensures)
    c.add.ensures.same

pub add_tree-returns-in-Multi-clause-added : goal.add_tree-returns-in-Multi-clause-added
add_tree-returns-in-Multi-clause-added g t c =
    on_ok c.add-in-Multi.result _ _
    (λ v e. multi_done g.T.TypeSystem.rows c.args.types.now.items _ (shape c.args.tree.now) c.in-Multi.k c.in-Multi.keys.now c.passed-in-Multi.result
    c.of_multi.result c.in-Multi.ensures.shows c.of_multi.ensures c.passed-in-Multi.ensures e)
    c.add-in-Multi.ensures.added

pub add_tree-returns-in-Multi-clause-told : goal.add_tree-returns-in-Multi-clause-told
add_tree-returns-in-Multi-clause-told g t c =
    on_ok c.add-in-Multi.result _ _
    (λ v e. e ∙ multi_type g.T.TypeSystem.rows (shape c.args.tree.now) c.in-Multi.k c.in-Multi.keys.now c.passed-in-Multi.result c.of_multi.result
    c.in-Multi.ensures.shows c.of_multi.ensures c.passed-in-Multi.ensures)
    c.add-in-Multi.ensures.same

pub add_tree-returns-in_ok-z-in-AndOr-clause-added : goal.add_tree-returns-in_ok-z-in-AndOr-clause-added
add_tree-returns-in_ok-z-in-AndOr-clause-added g t c =
    on_ok c.add-in-AndOr.result _ _ (λ v e. and_or_done g.T.TypeSystem.rows c.args.types.now.items c.add_tree.new.types.items
    c.add_tree-in-AndOr.new.types.items c.add_tree-in-AndOr-2.new.types.items _ (shape c.args.tree.now) (shape c.in-AndOr.x.now) (shape
    c.in-AndOr.y.now) (shape c.in-AndOr.z.now) c.of_and_or.result c.in-AndOr.ensures.shows c.in_ok-x-in-AndOr.ensures.added
    c.in_ok-y-in-AndOr.ensures.added c.in_ok-z-in-AndOr.ensures.added (and_or_type g.T.TypeSystem.rows (shape c.args.tree.now) (shape
    c.in-AndOr.x.now) (shape c.in-AndOr.y.now) (shape c.in-AndOr.z.now) c.in_ok-x-in-AndOr.x c.in_ok-y-in-AndOr.y c.in_ok-z-in-AndOr.z
    c.of_and_or.result c.in-AndOr.ensures.shows c.in_ok-x-in-AndOr.ensures.told c.in_ok-y-in-AndOr.ensures.told c.in_ok-z-in-AndOr.ensures.told
    c.of_and_or.ensures) e)
    c.add-in-AndOr.ensures.added

pub add_tree-returns-in_ok-z-in-AndOr-clause-told : goal.add_tree-returns-in_ok-z-in-AndOr-clause-told
add_tree-returns-in_ok-z-in-AndOr-clause-told g t c =
    on_ok c.add-in-AndOr.result _ _ (λ v e. e ∙ (and_or_type g.T.TypeSystem.rows (shape c.args.tree.now) (shape c.in-AndOr.x.now) (shape
    c.in-AndOr.y.now) (shape c.in-AndOr.z.now) c.in_ok-x-in-AndOr.x c.in_ok-y-in-AndOr.y c.in_ok-z-in-AndOr.z c.of_and_or.result
    c.in-AndOr.ensures.shows c.in_ok-x-in-AndOr.ensures.told c.in_ok-y-in-AndOr.ensures.told c.in_ok-z-in-AndOr.ensures.told c.of_and_or.ensures))
    c.add-in-AndOr.ensures.same

pub add_tree-returns-in_ok-y-in-Two-clause-added : goal.add_tree-returns-in_ok-y-in-Two-clause-added
add_tree-returns-in_ok-y-in-Two-clause-added g t c =
    on_ok c.add-in-Two.result _ _ (λ v e. two_done g.T.TypeSystem.rows c.args.types.now.items c.add_tree-in-Two.new.types.items
    c.add_tree-in-Two-2.new.types.items _ (shape c.args.tree.now) (shape c.in-Two.x.now) (shape c.in-Two.y.now) c.in-Two.kind c.of_two.result
    c.in-Two.ensures.shows c.in_ok-x-in-Two.ensures.added c.in_ok-y-in-Two.ensures.added (two_type g.T.TypeSystem.rows (shape c.args.tree.now)
    (shape c.in-Two.x.now) (shape c.in-Two.y.now) c.in-Two.kind c.in_ok-x-in-Two.x c.in_ok-y-in-Two.y c.of_two.result c.in-Two.ensures.shows
    c.in_ok-x-in-Two.ensures.told c.in_ok-y-in-Two.ensures.told c.of_two.ensures) e)
    c.add-in-Two.ensures.added

pub add_tree-returns-in_ok-y-in-Two-clause-told : goal.add_tree-returns-in_ok-y-in-Two-clause-told
add_tree-returns-in_ok-y-in-Two-clause-told g t c =
    on_ok c.add-in-Two.result _ _ (λ v e. e ∙ (two_type g.T.TypeSystem.rows (shape c.args.tree.now) (shape c.in-Two.x.now) (shape c.in-Two.y.now)
    c.in-Two.kind c.in_ok-x-in-Two.x c.in_ok-y-in-Two.y c.of_two.result c.in-Two.ensures.shows c.in_ok-x-in-Two.ensures.told
    c.in_ok-y-in-Two.ensures.told c.of_two.ensures))
    c.add-in-Two.ensures.same

pub add_tree-returns-in_ok-seen-in-Thresh-clause-added : goal.add_tree-returns-in_ok-seen-in-Thresh-clause-added
add_tree-returns-in_ok-seen-in-Thresh-clause-added g t c =
    on_ok c.add-in-Thresh.result _ _ (λ v e. thresh_done g.T.TypeSystem.rows c.args.types.now.items c.add_children.new.types.items _ (shape
    c.args.tree.now) (shapes c.in-Thresh.children.now) c.in-Thresh.k c.of_thresh.result c.in-Thresh.ensures.shows
    c.in_ok-seen-in-Thresh.ensures.added (thresh_type g.T.TypeSystem.rows (shape c.args.tree.now) (shapes c.in-Thresh.children.now) c.in-Thresh.k
    c.of_thresh.result c.in-Thresh.ensures.shows (c.of_thresh.ensures (trees_told g.T.TypeSystem.rows (shapes c.in-Thresh.children.now))
    c.in_ok-seen-in-Thresh.ensures.told)) e)
    c.add-in-Thresh.ensures.added

pub add_tree-returns-in_ok-seen-in-Thresh-clause-told : goal.add_tree-returns-in_ok-seen-in-Thresh-clause-told
add_tree-returns-in_ok-seen-in-Thresh-clause-told g t c =
    on_ok c.add-in-Thresh.result _ _ (λ v e. e ∙ (thresh_type g.T.TypeSystem.rows (shape c.args.tree.now) (shapes c.in-Thresh.children.now)
    c.in-Thresh.k c.of_thresh.result c.in-Thresh.ensures.shows (c.of_thresh.ensures (trees_told g.T.TypeSystem.rows (shapes
    c.in-Thresh.children.now)) c.in_ok-seen-in-Thresh.ensures.told)))
    c.add-in-Thresh.ensures.same

pub add_tree-returns-in_ok-x-in-Wrap-clause-added : goal.add_tree-returns-in_ok-x-in-Wrap-clause-added
add_tree-returns-in_ok-x-in-Wrap-clause-added g t c =
    on_ok c.add-in-Wrap.result _ _ (λ v e. wrap_done g.T.TypeSystem.rows c.args.types.now.items c.add_tree-in-Wrap.new.types.items _ (shape
    c.args.tree.now) (shape c.in-Wrap.x.now) c.in-Wrap.wrapper c.of_wrap.result c.in-Wrap.ensures.shows c.in_ok-x-in-Wrap.ensures.added (wrap_type
    g.T.TypeSystem.rows (shape c.args.tree.now) (shape c.in-Wrap.x.now) c.in-Wrap.wrapper c.in_ok-x-in-Wrap.x c.of_wrap.result
    c.in-Wrap.ensures.shows c.in_ok-x-in-Wrap.ensures.told c.of_wrap.ensures) e)
    c.add-in-Wrap.ensures.added

pub add_tree-returns-in_ok-x-in-Wrap-clause-told : goal.add_tree-returns-in_ok-x-in-Wrap-clause-told
add_tree-returns-in_ok-x-in-Wrap-clause-told g t c =
    on_ok c.add-in-Wrap.result _ _ (λ v e. e ∙ (wrap_type g.T.TypeSystem.rows (shape c.args.tree.now) (shape c.in-Wrap.x.now) c.in-Wrap.wrapper
    c.in_ok-x-in-Wrap.x c.of_wrap.result c.in-Wrap.ensures.shows c.in_ok-x-in-Wrap.ensures.told c.of_wrap.ensures))
    c.add-in-Wrap.ensures.same
