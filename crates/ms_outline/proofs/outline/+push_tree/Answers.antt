use Rattle.std.proofs.Common.{◌+◌, ◌∙◌, ap, arith}
use Rattle.def_tree.specs.InRange.{depth}
use Rattle.def_tree.specs.Size.{nodes}
use Rattle.def_answer.specs.Outline.{node_line}
use Rattle.std.specs.String.{string_bytes}
use Rattle.ms_tree.specs.Shape.{shape}
use Rattle.ms_tree.proofs.Parts.{nodes_at, in_range_at}
use Rattle.ms_outline.proofs.Standing.{own, and_or_x, and_or_y, and_or_z, two_x, two_y, thresh_xs, wrap_x, this_one, next_ones, and_or_written, on_ok, loop_written, left_nodes, depth_at}
use Rattle.ms_outline.proofs.Some.{some_nodes}
use Rattle.ms_outline.proofs.outline.+push_tree.Goals as goal

pub push_tree-push_node-requires-clause-types : goal.push_tree-push_node-requires-clause-types
push_tree-push_node-requires-clause-types t c =
    own c.args.types.now.correctness.items c.args.types.now.malleability.items c.args.first _ (shape c.args.tree.now)
    c.requires.own c.requires.types

pub push_tree-push_tree-requires : goal.push_tree-push_tree-requires
push_tree-push_tree-requires t c =
    let is = c.in-AndOr.ensures.shows in
    let size = ap nodes is in
    let deep = ap depth is in (
      omega (arith, c.decreases, size),
      (
        c.in-AndOr.ensures.in_range.0,
        (
          and_or_x _ _ c.args.first _ _ _ _ is c.requires.types,
          (
            omega (arith, c.requires.places, size),
            (
              omega (arith, c.requires.room, deep),
              (omega (arith, c.requires.numbers, size), omega (arith, c.nodes.ensures, some_nodes (shape c.in-AndOr.x.now))),
            ),
          ),
        ),
      ),
    )

pub push_tree-push_tree-requires-in-AndOr : goal.push_tree-push_tree-requires-in-AndOr
push_tree-push_tree-requires-in-AndOr t c =
    let is = c.in-AndOr.ensures.shows in
    let size = ap nodes is in
    let deep = ap depth is in
    let x = c.nodes.ensures in (
      omega (arith, c.decreases, size),
      (
        c.in-AndOr.ensures.in_range.1,
        (
          and_or_y _ _ c.args.first _ _ _ _ _ is (ap (λ n. c.args.first + n) x) c.requires.types,
          (
            omega (arith, c.requires.places, size, x),
            (
              omega (arith, c.requires.room, deep),
              (omega (arith, c.requires.numbers, size, x), omega (arith, x, c.nodes-in-AndOr.ensures, some_nodes (shape c.in-AndOr.y.now))),
            ),
          ),
        ),
      ),
    )

pub push_tree-push_tree-requires-in-AndOr-2 : goal.push_tree-push_tree-requires-in-AndOr-2
push_tree-push_tree-requires-in-AndOr-2 t c =
    let is = c.in-AndOr.ensures.shows in
    let size = ap nodes is in
    let deep = ap depth is in
    let x = c.nodes.ensures in
    let y = c.nodes-in-AndOr.ensures in (
      omega (arith, c.decreases, size),
      (
        c.in-AndOr.ensures.in_range.2,
        (
          and_or_z _ _ c.args.first _ _ _ _ _ is (omega (arith, x, y)) c.requires.types,
          (
            omega (arith, c.requires.places, size, x, y),
            (
              omega (arith, c.requires.room, deep),
              (omega (arith, c.requires.numbers, size, x, y), omega (arith, c.requires.own, size, x, y, some_nodes (shape c.in-AndOr.z.now))),
            ),
          ),
        ),
      ),
    )

pub push_tree-push_tree-requires-in-Two : goal.push_tree-push_tree-requires-in-Two
push_tree-push_tree-requires-in-Two t c =
    let is = c.in-Two.ensures.shows in
    let size = ap nodes is in
    let deep = ap depth is in (
      omega (arith, c.decreases, size),
      (
        c.in-Two.ensures.in_range.0,
        (
          two_x _ _ c.args.first _ _ _ _ is c.requires.types,
          (
            omega (arith, c.requires.places, size),
            (
              omega (arith, c.requires.room, deep),
              (omega (arith, c.requires.numbers, size), omega (arith, c.nodes-in-Two.ensures, some_nodes (shape c.in-Two.x.now))),
            ),
          ),
        ),
      ),
    )

pub push_tree-push_tree-requires-in-Two-2 : goal.push_tree-push_tree-requires-in-Two-2
push_tree-push_tree-requires-in-Two-2 t c =
    let is = c.in-Two.ensures.shows in
    let size = ap nodes is in
    let deep = ap depth is in
    let x = c.nodes-in-Two.ensures in (
      omega (arith, c.decreases, size),
      (
        c.in-Two.ensures.in_range.1,
        (
          two_y _ _ c.args.first _ _ _ _ _ is (ap (λ n. c.args.first + n) x) c.requires.types,
          (
            omega (arith, c.requires.places, size, x),
            (
              omega (arith, c.requires.room, deep),
              (omega (arith, c.requires.numbers, size, x), omega (arith, c.requires.own, size, x, some_nodes (shape c.in-Two.y.now))),
            ),
          ),
        ),
      ),
    )

pub push_tree-push_trees-requires : goal.push_tree-push_trees-requires
push_tree-push_trees-requires t c =
    let is = c.in-Thresh.ensures.shows in
    let size = ap nodes is in
    let deep = ap depth is in (
      omega (arith, c.decreases, size),
      (
        c.in-Thresh.ensures.in_range.1,
        (
          thresh_xs _ _ c.args.first _ _ _ is c.requires.types,
          (
            omega (arith, c.requires.places, size),
            (
              omega (arith, c.requires.room, deep),
              omega (arith, c.requires.numbers, size),
            ),
          ),
        ),
      ),
    )

pub push_tree-push_tree-requires-in-Wrap : goal.push_tree-push_tree-requires-in-Wrap
push_tree-push_tree-requires-in-Wrap t c =
    let is = c.in-Wrap.ensures.shows in
    let size = ap nodes is in
    let deep = ap depth is in (
      omega (arith, c.decreases, size),
      (
        c.in-Wrap.ensures.in_range,
        (
          wrap_x _ _ c.args.first _ _ _ is c.requires.types,
          (
            omega (arith, c.requires.places, size),
            (
              omega (arith, c.requires.room, deep),
              (omega (arith, c.requires.numbers, size), omega (arith, c.requires.own, size, some_nodes (shape c.in-Wrap.x.now))),
            ),
          ),
        ),
      ),
    )

pub push_tree-returns-in_ok-push_tree-in-AndOr-2 :
    goal.push_tree-returns-in_ok-push_tree-in-AndOr-2
push_tree-returns-in_ok-push_tree-in-AndOr-2 t c =
    let x = c.nodes.ensures in
    let y = c.nodes-in-AndOr.ensures in
    on_ok c.push_tree-in-AndOr-2.result _ _
    (and_or_written (node_line c.args.offsets.now) (string_bytes c.args.report.now) _ _ _ _ c.args.first _ _ _ c.args.depth (shape c.args.tree.now)
    (shape c.in-AndOr.x.now) (shape c.in-AndOr.y.now) (shape c.in-AndOr.z.now) c.in-AndOr.ensures.shows (ap (λ n. c.args.first + n) x) (omega (arith, y))
    c.requires.own
    c.in_ok-push_node.ensures c.in_ok-push_tree-in-AndOr.ensures c.in_ok-push_tree-in-AndOr-2.ensures)
    c.push_tree-in-AndOr-2.ensures

pub push_trees-push_tree-requires : goal.push_trees-push_tree-requires
push_trees-push_tree-requires t c =
    let xs = c.args.trees.now in
    let i = c.loop-tree.tree-index in
    let x = c.tree-item.result in
    let below = c.loop-tree-test.true in
    let at = c.tree-item.is in
    let inv = c.loop-tree.invariant in
    let few = nodes_at xs i x below at in
    let left = left_nodes (node_line c.args.offsets.now) xs i x below at in (
      omega (arith, c.decreases, few),
      (
        in_range_at xs i x below at c.requires.range,
        (
          this_one _ _ _ xs i x below at inv.types,
          (
            omega (arith, c.requires.places, inv.left, left),
            (
              omega (arith, c.requires.room, depth_at xs i x below at),
              (omega (arith, c.requires.numbers, inv.left, left), omega (arith, c.nodes.ensures, some_nodes (shape x))),
            ),
          ),
        ),
      ),
    )

pub push_trees-loop-tree-preserved : goal.push_trees-loop-tree-preserved
push_trees-loop-tree-preserved t c =
    let xs = c.args.trees.now in
    let i = c.loop-tree.tree-index in
    let x = c.tree-item.result in
    let below = c.loop-tree-test.true in
    let at = c.tree-item.is in
    let inv = c.loop-tree.invariant in
    let left = left_nodes (node_line c.args.offsets.now) xs i x below at in
    let size = c.nodes.ensures in
    record {
      left = omega (arith, inv.left, left, size);
      types = next_ones _ _ _ _ xs i x below at (ap (λ n. c.loop-tree.next + n) size) inv.types;
      written =
          loop_written (node_line c.args.offsets.now) (string_bytes c.loop-tree.report) _ c.loop-tree.next _ c.args.depth xs i x below at
          (ap (λ n. c.loop-tree.next + n) size) c.in_ok-push_tree.ensures ∙ inv.written;
    }
