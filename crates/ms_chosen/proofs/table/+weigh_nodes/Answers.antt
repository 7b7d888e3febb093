use Rattle.std.proofs.Common.{◌≡◌, ◌-◌, ◌+◌, ◌++◌, ◌∷◌, [], length, map, take, sym, ◌∙◌, ap, subst, arith, length-append}
use Rattle.def_tree.specs.Size.{nodes}
use Rattle.def_tree.specs.Nodes.{all_nodes, nodes_of_all}
use Rattle.def_types.specs.Typed.{IsTyped}
use Rattle.def_tree.proofs.NodeLists.{nodes_are_all}
use Rattle.ms_tree.specs.Shape.{shape, shapes}
use Rattle.ms_tree.proofs.Parts.{nodes_at}
use Rattle.ms_work.proofs.Children.{ready_children, ready_behind}
use Rattle.ms_chosen.specs.Scaffolding.Count.{AreTold}
use Rattle.ms_chosen.specs.Scaffolding.Table.{Adds, below}
use Rattle.ms_chosen.proofs.Rows.{shape_more, nodes_more, same_weighed}
use Rattle.ms_chosen.proofs.Rules.{thresh_some, multi_some}
use Rattle.ms_chosen.proofs.Light.{light_by}
use Rattle.ms_chosen.proofs.Tables.{root_last, adds_none, adds_both, adds_entry, added_slice, added_length}
use Rattle.ms_chosen.proofs.Counts.{few_written, told_written}
use Rattle.ms_chosen.proofs.table.+weigh_nodes.Goals as goal

pub weigh_nodes-returns-clause-light : goal.weigh_nodes-returns-clause-light
weigh_nodes-returns-clause-light t c =
    let w = c.in_ok-weighed.ensures.weighed in
    light_by c.args.rule c.args.assets.now (shape c.args.tree.now) c.in_ok-weighed.weighed.costs c.requires.ready.in_range c.requires.ready.typed c.requires.are w.sat w.dsat

pub weigh_nodes-returns-clause-added : goal.weigh_nodes-returns-clause-added
weigh_nodes-returns-clause-added t c =
    let rule = c.args.rule in
    let assets = c.args.assets.now in
    let tree = shape c.args.tree.now in
    let w = c.in_ok-weighed.ensures.weighed in
    let light = light_by rule assets tree c.in_ok-weighed.weighed.costs c.requires.ready.in_range c.requires.ready.typed c.requires.are w.sat w.dsat in
    let long = added_length rule assets (below tree) c.args.table.now.items c.weigh_root.new.table.items c.in_ok-weighed.ensures.added in
    let all = ap length (root_last tree) in
    let nodes_are : c.len.result - c.len-start.result + 1 ≡ nodes tree =
    omega (arith, c.len.ensures, c.weigh_root.new.table.ok.0, c.len-start.ensures, c.args.table.now.ok.0, long, all, nodes_are_all tree, length-append (below tree) (tree ∷ [])) in
    subst (λ ts. Adds rule assets ts c.args.table.now.items c.push.new.self.items) (sym (root_last tree))
    (adds_entry rule assets (below tree) tree c.args.table.now.items c.weigh_root.new.table.items c.push.new.self.items _ c.in_ok-weighed.ensures.added c.in_ok-push.ensures.items
    (record { weighed = w; light = light; nodes = nodes_are }))

pub weigh_root-weigh_and_or-requires-clause-table : goal.weigh_root-weigh_and_or-requires-clause-table
weigh_root-weigh_and_or-requires-clause-table t c =
    let rule = c.args.rule in
    let assets = c.args.assets.now in
    let nx = all_nodes (shape c.in-AndOr.x.now) in
    let ny = all_nodes (shape c.in-AndOr.y.now) in
    let nz = all_nodes (shape c.in-AndOr.z.now) in
    let xy = adds_both rule assets nx ny _ _ _ c.in_ok-weigh_nodes-in-AndOr.ensures.added c.in_ok-weigh_nodes-in-AndOr-2.ensures.added in
    let all = adds_both rule assets (nx ++ ny) nz _ _ _ xy c.in_ok-weigh_nodes-in-AndOr-3.ensures.added in (
      rule,
      assets,
      added_slice rule assets (nx ++ ny ++ nz) c.args.table.now.items c.weigh_nodes-in-AndOr-2.new.table.items c.deref.result.now
          c.len-start.result all c.deref.ensures.value (c.len-start.ensures ∙ c.args.table.now.ok.0),
    )

pub weigh_root-weigh_two-requires-clause-table : goal.weigh_root-weigh_two-requires-clause-table
weigh_root-weigh_two-requires-clause-table t c =
    let rule = c.args.rule in
    let assets = c.args.assets.now in
    let nx = all_nodes (shape c.in-Two.x.now) in
    let nz = all_nodes (shape c.in-Two.z.now) in
    let all = adds_both rule assets nx nz _ _ _ c.in_ok-weigh_nodes-in-Two.ensures.added c.in_ok-weigh_nodes-in-Two-2.ensures.added in (
      rule,
      assets,
      added_slice rule assets (nx ++ nz) c.args.table.now.items c.weigh_nodes-in-Two-2.new.table.items c.deref-in-Two.result.now
          c.len-start.result all c.deref-in-Two.ensures.value (c.len-start.ensures ∙ c.args.table.now.ok.0),
    )

pub weigh_root-weigh_thresh-requires : goal.weigh_root-weigh_thresh-requires
weigh_root-weigh_thresh-requires t c =
    let shows = c.in-Thresh.ensures.shows in
    let k = c.in-Thresh.k in
    let xs = c.in-Thresh.children.now in
    let some = thresh_some k (shapes xs) (subst IsTyped shows c.requires.ready.typed) in
    (omega (arith, c.decreases, ap nodes shows), (ready_children _ k xs _ shows c.requires.ready, (c.requires.are, some)))

pub weigh_root-weigh_multi-requires-clause-some : goal.weigh_root-weigh_multi-requires-clause-some
weigh_root-weigh_multi-requires-clause-some t c = multi_some c.in-Multi.k c.in-Multi.keys.now (subst IsTyped c.in-Multi.ensures.shows c.requires.ready.typed)

pub weigh_root-returns-in_ok-weigh_nodes-in-AndOr-3-clause-weighed : goal.weigh_root-returns-in_ok-weigh_nodes-in-AndOr-3-clause-weighed
weigh_root-returns-in_ok-weigh_nodes-in-AndOr-3-clause-weighed t c =
    let rule = c.args.rule in
    let assets = c.args.assets.now in
    let nx = all_nodes (shape c.in-AndOr.x.now) in
    let ny = all_nodes (shape c.in-AndOr.y.now) in
    let nz = all_nodes (shape c.in-AndOr.z.now) in
    let xy = adds_both rule assets nx ny _ _ _ c.in_ok-weigh_nodes-in-AndOr.ensures.added c.in_ok-weigh_nodes-in-AndOr-2.ensures.added in
    let all = adds_both rule assets (nx ++ ny) nz _ _ _ xy c.in_ok-weigh_nodes-in-AndOr-3.ensures.added in
    same_weighed rule assets _ _ c.weigh_and_or.result (sym c.in-AndOr.ensures.shows)
    (c.weigh_and_or.ensures rule assets
    (added_slice rule assets (nx ++ ny ++ nz) c.args.table.now.items c.weigh_nodes-in-AndOr-2.new.table.items c.deref.result.now c.len-start.result all
    c.deref.ensures.value (c.len-start.ensures ∙ c.args.table.now.ok.0)))

pub weigh_root-returns-in_ok-weigh_nodes-in-AndOr-3-clause-added : goal.weigh_root-returns-in_ok-weigh_nodes-in-AndOr-3-clause-added
weigh_root-returns-in_ok-weigh_nodes-in-AndOr-3-clause-added t c =
    let rule = c.args.rule in
    let assets = c.args.assets.now in
    let nx = all_nodes (shape c.in-AndOr.x.now) in
    let ny = all_nodes (shape c.in-AndOr.y.now) in
    let nz = all_nodes (shape c.in-AndOr.z.now) in
    let xy = adds_both rule assets nx ny _ _ _ c.in_ok-weigh_nodes-in-AndOr.ensures.added c.in_ok-weigh_nodes-in-AndOr-2.ensures.added in
    let all = adds_both rule assets (nx ++ ny) nz _ _ _ xy c.in_ok-weigh_nodes-in-AndOr-3.ensures.added in
    subst (λ s. Adds rule assets (below s) c.args.table.now.items c.weigh_nodes-in-AndOr-2.new.table.items) (sym c.in-AndOr.ensures.shows) all

pub weigh_root-returns-in_ok-weigh_nodes-in-Two-2-clause-weighed : goal.weigh_root-returns-in_ok-weigh_nodes-in-Two-2-clause-weighed
weigh_root-returns-in_ok-weigh_nodes-in-Two-2-clause-weighed t c =
    let rule = c.args.rule in
    let assets = c.args.assets.now in
    let nx = all_nodes (shape c.in-Two.x.now) in
    let nz = all_nodes (shape c.in-Two.z.now) in
    let all = adds_both rule assets nx nz _ _ _ c.in_ok-weigh_nodes-in-Two.ensures.added c.in_ok-weigh_nodes-in-Two-2.ensures.added in
    same_weighed rule assets _ _ c.weigh_two.result (sym c.in-Two.ensures.shows)
    (c.weigh_two.ensures rule assets
    (added_slice rule assets (nx ++ nz) c.args.table.now.items c.weigh_nodes-in-Two-2.new.table.items c.deref-in-Two.result.now c.len-start.result all
    c.deref-in-Two.ensures.value (c.len-start.ensures ∙ c.args.table.now.ok.0)))

pub weigh_root-returns-in_ok-weigh_nodes-in-Two-2-clause-added : goal.weigh_root-returns-in_ok-weigh_nodes-in-Two-2-clause-added
weigh_root-returns-in_ok-weigh_nodes-in-Two-2-clause-added t c =
    let rule = c.args.rule in
    let assets = c.args.assets.now in
    let nx = all_nodes (shape c.in-Two.x.now) in
    let nz = all_nodes (shape c.in-Two.z.now) in
    let all = adds_both rule assets nx nz _ _ _ c.in_ok-weigh_nodes-in-Two.ensures.added c.in_ok-weigh_nodes-in-Two-2.ensures.added in
    subst (λ s. Adds rule assets (below s) c.args.table.now.items c.weigh_nodes-in-Two-2.new.table.items) (sym c.in-Two.ensures.shows) all

pub weigh_root-returns-in-Multi-clause-weighed : goal.weigh_root-returns-in-Multi-clause-weighed
weigh_root-returns-in-Multi-clause-weighed t c =
    same_weighed c.args.rule c.args.assets.now _ _ c.weigh_multi.result (sym c.in-Multi.ensures.shows) (c.weigh_multi.ensures c.args.rule)

pub weigh_thresh-loop-child-init : goal.weigh_thresh-loop-child-init
weigh_thresh-loop-child-init t c = record {
  few = c.none-all.ensures.few c.args.slots.now;
  told = c.none-all.ensures.told c.args.rule c.args.assets.now c.args.slots.now;
  free = omega (arith, c.none-all.ensures.free);
  place = c.none-all.ensures.place;
  added = adds_none c.args.rule c.args.assets.now c.args.table.now.items;
}

pub weigh_thresh-weigh_nodes-requires : goal.weigh_thresh-weigh_nodes-requires
weigh_thresh-weigh_nodes-requires t c =
    let x = c.child-item.result in
    let fewer = nodes_at c.args.children.now c.loop-child.child-index x c.loop-child-test.true c.child-item.is in
    let free = c.loop-child.invariant.free in
    let ready = ready_behind _ _ c.requires.ready c.loop-child.slots c.loop-child.auto.slots _ x c.loop-child-test.true c.child-item.is _ free in
    (omega (arith, c.decreases, fewer), (ready, c.requires.are))

pub weigh_thresh-add-requires-clause-few : goal.weigh_thresh-add-requires-clause-few
weigh_thresh-add-requires-clause-few t c = few_written c.loop-child.all c.loop-child.slots c.weigh_nodes.new.slots c.weigh_nodes.auto.slots c.loop-child.invariant.few

pub weigh_thresh-loop-child-preserved : goal.weigh_thresh-loop-child-preserved
weigh_thresh-loop-child-preserved t c =
    let rule = c.args.rule in
    let assets = c.args.assets.now in
    let xs = c.args.children.now in
    let i = c.loop-child.child-index in
    let x = c.child-item.result in
    let slots = c.loop-child.slots in
    let inv = c.loop-child.invariant in
    let told = told_written rule assets (map shape (take i xs)) c.loop-child.all slots c.weigh_nodes.new.slots (length slots - c.loop-child.all.tally.free) inv.few.tally.room inv.told in
    let more = shape_more xs i x c.loop-child-test.true c.child-item.is in
    let nodes = nodes_more xs i x c.loop-child-test.true c.child-item.is in
    record {
      few = c.add.ensures.few;
      told = subst (λ ts. AreTold rule assets ts c.add.new.self c.add.new.slots) (sym more)
          (c.add.ensures.told rule assets (map shape (take i xs)) (shape x) told c.in_ok-weighed.ensures.weighed);
      free = omega (arith, c.add.ensures.free, inv.free);
      place = omega (arith, c.add.ensures.place, inv.place);
      added = subst (λ ts. Adds rule assets ts c.args.table.now.items c.weigh_nodes.new.table.items) (sym nodes)
          (adds_both rule assets (nodes_of_all (shapes (take i xs))) (all_nodes (shape x)) _ _ _ inv.added c.in_ok-weighed.ensures.added);
    }
