use Rattle.std.proofs.Common.{◌≡◌, ◌-◌, ◌++◌, map, take, drop, is_some, sym, ◌∙◌, ap, subst, arith}
use Rattle.def_tree.specs.Tree as model
use Rattle.def_tree.specs.Size.{nodes}
use Rattle.def_tree.specs.Nodes.{all_nodes, nodes_of_all}
use Rattle.def_choice.specs.Cheapest.{all_dissatisfied, stack_of}
use Rattle.def_choice.specs.Dissatisfaction.{dissatisfaction}
use Rattle.ms_tree.specs.declared.tree.Tree.{Tree}
use Rattle.ms_tree.specs.Shape.{shape, shapes}
use Rattle.ms_tree.proofs.Parts.{nodes_at}
use Rattle.ms_work.proofs.Children.{few_children}
use Rattle.ms_chosen.specs.Scaffolding.Costs.{costs_of}
use Rattle.ms_chosen.specs.Scaffolding.Choice.{chosen}
use Rattle.ms_choice.specs.Marks.{set_by}
use Rattle.ms_chosen.specs.Scaffolding.Pushed.{IsPushed}
use Rattle.ms_chosen.specs.Rule.{stack_by, free_by, child_by, children_by}
use Rattle.ms_chosen.specs.Scaffolding.Table.{AreEntries, Chooses, IsFound, below}
use Rattle.ms_chosen.specs.Scaffolding.Way.{tree_of, stack_of_part, stack_of_way, IsSeenWay}
use Rattle.ms_chosen.proofs.Pushed.{on_ok, pushed_both}
use Rattle.ms_chosen.proofs.Counts.{child_costs}
use Rattle.ms_chosen.proofs.Rows.{last_entries, dissatisfied_less, pushed_unless, same_weighed}
use Rattle.ms_chosen.proofs.Rules.{thresh_stack, children_shapes}
use Rattle.ms_chosen.proofs.Taken.{FromOn, ChildPushed, from_less}
use Rattle.ms_chosen.proofs.satisfy.+satisfy.Goals as goal

pub dissatisfy-returns-in-AndOr : goal.dissatisfy-returns-in-AndOr
dissatisfy-returns-in-AndOr t c =
    let rule = c.requires.0 in
    let assets = c.args.assets.now in
    let shows = c.in-AndOr.ensures.shows in
    let xs = all_nodes (shape c.in-AndOr.x.now) ++ all_nodes (shape c.in-AndOr.y.now) in
    let entries = subst (λ s. AreEntries rule assets (below s) c.below-below.result.now) shows (c.below-below.ensures rule assets c.requires.1) in
    let z = c.see_last.ensures.seen rule assets xs entries in
    let xy = c.see_two.ensures.seen rule assets (c.see_last.ensures.before rule assets xs entries) in
    let ways = (c.row_of_and_or.ensures.seen rule assets xy.0 xy.1 z).1 in
    let same : model.and_or (tree_of c.see_two.result.0) (tree_of c.see_two.result.1) (tree_of c.see_last.result.1) ≡ tree_of c.args.seen =
    (λ i. model.and_or (c.see_two.ensures.x i) (c.see_two.ensures.z i) (c.see_last.ensures.tree i)) ∙ sym shows in
    let is = sym (c.row_of_and_or.ensures.row.dsat rule assets) ∙ ap dissatisfaction same in
    on_ok c.push_dissatisfying.result _ _
    (λ pushed. subst (λ o. IsPushed o c.args.stack.now c.push_dissatisfying.new.stack) is (pushed rule ways)) c.push_dissatisfying.ensures

pub dissatisfy-returns-in-Two : goal.dissatisfy-returns-in-Two
dissatisfy-returns-in-Two t c =
    let rule = c.requires.0 in
    let assets = c.args.assets.now in
    let shows = c.in-Two.ensures.shows in
    let entries = subst (λ s. AreEntries rule assets (below s) c.below-below.result.now) shows (c.below-below.ensures rule assets c.requires.1) in
    let xz = c.see_two-in-Two.ensures.seen rule assets entries in
    let ways = (c.row_of_two.ensures.seen rule assets xz.0 xz.1).1 in
    let same : model.two c.in-Two.kind (tree_of c.see_two-in-Two.result.0) (tree_of c.see_two-in-Two.result.1) ≡ tree_of c.args.seen =
    (λ i. model.two c.in-Two.kind (c.see_two-in-Two.ensures.x i) (c.see_two-in-Two.ensures.z i)) ∙ sym shows in
    let is = sym (c.row_of_two.ensures.row.dsat rule assets) ∙ ap dissatisfaction same in
    on_ok c.push_dissatisfying-in-Two.result _ _
    (λ pushed. subst (λ o. IsPushed o c.args.stack.now c.push_dissatisfying-in-Two.new.stack) is (pushed rule ways)) c.push_dissatisfying-in-Two.ensures

pub dissatisfy-returns-in-Wrap : goal.dissatisfy-returns-in-Wrap
dissatisfy-returns-in-Wrap t c =
    let rule = c.requires.0 in
    let assets = c.args.assets.now in
    let shows = c.in-Wrap.ensures.shows in
    let entries = subst (λ s. AreEntries rule assets (below s) c.below-below.result.now) shows (c.below-below.ensures rule assets c.requires.1) in
    let ways = (c.row_of_wrap.ensures.seen rule assets (record { in_range = c.in-Wrap.ensures.in_range; entries = entries })).1 in
    let is = sym (c.row_of_wrap.ensures.row.dsat rule assets) ∙ ap dissatisfaction (sym shows) in
    on_ok c.push_dissatisfying-in-Wrap.result _ _
    (λ pushed. subst (λ o. IsPushed o c.args.stack.now c.push_dissatisfying-in-Wrap.new.stack) is (pushed rule ways)) c.push_dissatisfying-in-Wrap.ensures

pub push_satisfying-returns-in-Some : goal.push_satisfying-returns-in-Some
push_satisfying-returns-in-Some t c =
    on_ok c.push_way.result _ _
    (λ pushed rule seen.
    let way = c.in-Some.ensures.way rule c.args.assets.now seen in
    subst (λ o. IsPushed o c.args.stack.now c.push_way.new.stack) (sym way.stack) (pushed rule way.seen)) c.push_way.ensures

pub push_dissatisfying-returns-in-Some : goal.push_dissatisfying-returns-in-Some
push_dissatisfying-returns-in-Some t c =
    on_ok c.push_way.result _ _
    (λ pushed rule seen.
    let way = c.in-Some.ensures.way rule c.args.assets.now seen in
    subst (λ o. IsPushed o c.args.stack.now c.push_way.new.stack) (sym way.stack) (pushed rule way.seen)) c.push_way.ensures

pub push_way-returns-in_ok-push_part-in-Both : goal.push_way-returns-in_ok-push_part-in-Both
push_way-returns-in_ok-push_part-in-Both t c =
    let assets = c.args.assets.now in
    on_ok c.push_part-in-Both-2.result _ _
    (λ pushed rule.
    subst (λ way. IsSeenWay rule assets way → IsPushed (stack_of_way rule assets way) c.args.stack.now c.push_part-in-Both-2.new.stack) (sym c.in-Both.is) (λ seen.
    pushed_both (stack_of_part rule assets c.in-Both.below) (stack_of_part rule assets c.in-Both.above) c.args.stack.now c.push_part-in-Both.new.stack
    c.push_part-in-Both-2.new.stack (c.in_ok-push_part-in-Both.ensures rule seen.0) (pushed rule seen.1))) c.push_part-in-Both-2.ensures

pub dissatisfy_all-see_last-requires-clause-table : goal.dissatisfy_all-see_last-requires-clause-table
dissatisfy_all-see_last-requires-clause-table t c =
    let rule = c.requires.table.0 in
    let assets = c.args.assets.now in
    let xs = c.args.children.now in
    let p = c.loop-place.place in (
      rule,
      assets,
      nodes_of_all (shapes (take (p - 1) xs)),
      last_entries rule assets xs p c.index-children-place.result c.loop-place.before.now (omega (arith, c.loop-place-test.true)) c.loop-place.auto.place c.index-children-place.is
          (c.loop-place.invariant.before rule c.requires.table.1),
    )

pub dissatisfy_all-dissatisfy-requires : goal.dissatisfy_all-dissatisfy-requires
dissatisfy_all-dissatisfy-requires t c =
    let xs = c.args.children.now in
    let p = c.loop-place.place in
    let x = c.index-children-place.result in
    let few = nodes_at xs (p - 1) x (omega (arith, c.loop-place-test.true, c.loop-place.auto.place)) c.index-children-place.is in
    let same = ap nodes c.see_last.ensures.tree in
    let rule = c.requires.table.0 in
    let assets = c.args.assets.now in
    let last = last_entries rule assets xs p x c.loop-place.before.now (omega (arith, c.loop-place-test.true)) c.loop-place.auto.place c.index-children-place.is
    (c.loop-place.invariant.before rule c.requires.table.1)
    in
    (omega (arith, c.decreases, few, same), (rule, c.see_last.ensures.seen rule assets (nodes_of_all (shapes (take (p - 1) xs))) last))

pub dissatisfy_all-returns : goal.dissatisfy_all-returns
dissatisfy_all-returns t c =
    let first : c.loop-place.place ≡ 0 = omega (arith, c.loop-place-test.false) in
    subst (λ n. IsPushed (all_dissatisfied (shapes (drop n c.args.children.now))) c.args.stack.now c.loop-place.stack) first c.loop-place.invariant.pushed

pub push_children-see_last-requires-clause-table : goal.push_children-see_last-requires-clause-table
push_children-see_last-requires-clause-table t c =
    let rule = c.requires.table.0 in
    let assets = c.args.assets.now in
    let xs = c.args.children.now in
    let p = c.loop-place.place in (
      rule,
      assets,
      nodes_of_all (shapes (take (p - 1) xs)),
      last_entries rule assets xs p c.index-children-place.result c.loop-place.before.now (omega (arith, c.loop-place-test.true)) c.loop-place.auto.place c.index-children-place.is
          (c.loop-place.invariant.before rule c.requires.table.1),
    )

pub push_children-weighed-requires : goal.push_children-weighed-requires
push_children-weighed-requires t c =
    let rule = c.requires.table.0 in
    let assets = c.args.assets.now in
    let xs = c.args.children.now in
    let p = c.loop-place.place in
    let last = last_entries rule assets xs p c.index-children-place.result c.loop-place.before.now (omega (arith, c.loop-place-test.true)) c.loop-place.auto.place c.index-children-place.is
    (c.loop-place.invariant.before rule c.requires.table.1)
    in
    (rule, assets, c.see_last.ensures.seen rule assets (nodes_of_all (shapes (take (p - 1) xs))) last)

pub push_children-overflow_cast-place : goal.push_children-overflow_cast-place
push_children-overflow_cast-place t c = omega (arith, few_children c.args.children.now, c.loop-place.auto.place, c.requires.few)

pub push_children-satisfy-requires : goal.push_children-satisfy-requires
push_children-satisfy-requires t c =
    let xs = c.args.children.now in
    let p = c.loop-place.place in
    let x = c.index-children-place.result in
    let few = nodes_at xs (p - 1) x (omega (arith, c.loop-place-test.true, c.loop-place.auto.place)) c.index-children-place.is in
    let same = ap nodes c.see_last.ensures.tree in
    let rule = c.requires.table.0 in
    let assets = c.args.assets.now in
    let last = last_entries rule assets xs p x c.loop-place.before.now (omega (arith, c.loop-place-test.true)) c.loop-place.auto.place c.index-children-place.is
    (c.loop-place.invariant.before rule c.requires.table.1)
    in
    (omega (arith, c.decreases, few, same), (rule, c.see_last.ensures.seen rule assets (nodes_of_all (shapes (take (p - 1) xs))) last))

pub push_children-dissatisfy-requires : goal.push_children-dissatisfy-requires
push_children-dissatisfy-requires t c =
    let xs = c.args.children.now in
    let p = c.loop-place.place in
    let x = c.index-children-place.result in
    let few = nodes_at xs (p - 1) x (omega (arith, c.loop-place-test.true, c.loop-place.auto.place)) c.index-children-place.is in
    let same = ap nodes c.see_last.ensures.tree in
    let rule = c.requires.table.0 in
    let assets = c.args.assets.now in
    let last = last_entries rule assets xs p x c.loop-place.before.now (omega (arith, c.loop-place-test.true)) c.loop-place.auto.place c.index-children-place.is
    (c.loop-place.invariant.before rule c.requires.table.1)
    in
    (omega (arith, c.decreases, few, same), (rule, c.see_last.ensures.seen rule assets (nodes_of_all (shapes (take (p - 1) xs))) last))

pub push_children-returns : goal.push_children-returns
push_children-returns t c =
    λ rule k h found.
    let assets = c.args.assets.now in
    let xs = c.args.children.now in
    let child = λ (x : Tree). child_by rule assets (shape x) in
    let choice = c.in-Some.choice in
    let first : c.loop-place.place ≡ 0 = omega (arith, c.loop-place-test.false) in
    let pushed = subst (λ n. FromOn child choice.last n (drop n xs) c.args.stack.now c.loop-place.stack) first (c.loop-place.invariant.pushed rule h) in
    let is = subst (IsFound (costs_of (children_by rule assets (shapes xs))) (children_by rule assets (shapes xs)) k) c.in-Some.is found in
    let whole : chosen (children_by rule assets (shapes xs)) k ≡ stack_of (map child xs) (set_by choice.last 0 (costs_of (map child xs))) =
    is.set ∙ ap (λ cs. stack_of cs (set_by choice.last 0 (costs_of cs))) (children_shapes rule assets xs) in
    subst (λ o. IsPushed o c.args.stack.now c.loop-place.stack) (sym whole) pushed

pub push_dissatisfying-push_way-requires : goal.push_dissatisfying-push_way-requires
push_dissatisfying-push_way-requires t c =
    let way = c.in-Some.ensures.way c.requires.0 c.args.assets.now c.requires.1 in
    (omega (arith, c.decreases, c.in-Some.ensures.fewer), (c.requires.0, way.seen))

pub push_satisfying-push_way-requires : goal.push_satisfying-push_way-requires
push_satisfying-push_way-requires t c =
    let way = c.in-Some.ensures.way c.requires.0 c.args.assets.now c.requires.1 in
    (omega (arith, c.decreases, c.in-Some.ensures.fewer), (c.requires.0, way.seen))

pub satisfy-returns-in-Thresh : goal.satisfy-returns-in-Thresh
satisfy-returns-in-Thresh t c =
    let rule = c.requires.0 in
    let assets = c.args.assets.now in
    let shows = c.in-Thresh.ensures.shows in
    let xs = c.in-Thresh.children.now in
    on_ok c.push_children.result _ _
    (λ pushed. λ rule seen.
    let entries = subst (λ s. AreEntries rule assets (below s) c.below-below.result.now) shows (c.below-below.ensures rule assets seen) in
    let weighed = c.weighed.ensures.weighed rule assets seen in
    let found = subst (λ s. Chooses rule assets s c.weighed.result.now.choice) shows weighed.choice in
    let is = sym (ap (stack_by rule assets) shows ∙ thresh_stack rule assets c.in-Thresh.field-0 xs) in
    subst (λ o. IsPushed o c.args.stack.now c.push_children.new.stack) is (pushed rule c.in-Thresh.field-0 entries found))
    c.push_children.ensures

pub dissatisfy_all-loop-place-preserved : goal.dissatisfy_all-loop-place-preserved
dissatisfy_all-loop-place-preserved t c =
    let assets = c.args.assets.now in
    let xs = c.args.children.now in
    let p = c.loop-place.place in
    let x = c.index-children-place.result in
    let some = c.loop-place-test.true in
    let pushed = subst (λ s. IsPushed (dissatisfaction s) c.loop-place.stack c.dissatisfy.new.stack) c.see_last.ensures.tree c.in_ok-dissatisfy.ensures in
    record {
      before = λ rule h.
          c.see_last.ensures.before rule assets (nodes_of_all (shapes (take (p - 1) xs)))
          (last_entries rule assets xs p x c.loop-place.before.now (omega (arith, some)) c.loop-place.auto.place c.index-children-place.is (c.loop-place.invariant.before rule h));
      pushed = dissatisfied_less xs p x c.args.stack.now c.loop-place.stack c.dissatisfy.new.stack (omega (arith, some)) c.loop-place.auto.place c.index-children-place.is
          c.loop-place.invariant.pushed pushed;
    }

pub push_children-loop-place-preserved-in-Continue-1 : goal.push_children-loop-place-preserved-in-Continue-1
push_children-loop-place-preserved-in-Continue-1 t c =
    let assets = c.args.assets.now in
    let xs = c.args.children.now in
    let p = c.loop-place.place in
    let x = c.index-children-place.result in
    let some = c.loop-place-test.true in
    record {
      before = λ rule h.
          c.see_last.ensures.before rule assets (nodes_of_all (shapes (take (p - 1) xs)))
          (last_entries rule assets xs p x c.loop-place.before.now (omega (arith, some)) c.loop-place.auto.place c.index-children-place.is (c.loop-place.invariant.before rule h));
      pushed = λ rule h.
          let child = λ (y : Tree). child_by rule assets (shape y) in
          let last = last_entries rule assets xs p x c.loop-place.before.now (omega (arith, some)) c.loop-place.auto.place c.index-children-place.is (c.loop-place.invariant.before rule h) in
          let seen = c.see_last.ensures.seen rule assets (nodes_of_all (shapes (take (p - 1) xs))) last in
          let weighed = same_weighed rule assets _ (shape x) c.weighed.result.now c.see_last.ensures.tree (c.weighed.ensures.weighed rule assets seen) in
          let costs = child_costs rule assets (shape x) c.weighed.result.now c.as_child.result weighed c.as_child.ensures.sat c.as_child.ensures.dsat in
          let pushed = subst (λ s. IsPushed (stack_by rule assets s) c.loop-place.stack c.satisfy.new.stack) c.see_last.ensures.tree (c.in_ok-satisfy.ensures rule seen) in
          from_less child c.in-Some.choice.last xs p x c.as_child.result c.is_taken.result c.args.stack.now c.loop-place.stack c.satisfy.new.stack
          (omega (arith, some)) c.loop-place.auto.place c.index-children-place.is costs c.is_taken.ensures (c.loop-place.invariant.pushed rule h)
          (subst (λ b. ChildPushed child c.in-Some.choice.last b x c.loop-place.stack c.satisfy.new.stack) (sym c.if-is_taken.true) pushed);
    }

pub push_children-loop-place-preserved : goal.push_children-loop-place-preserved
push_children-loop-place-preserved t c =
    let assets = c.args.assets.now in
    let xs = c.args.children.now in
    let p = c.loop-place.place in
    let x = c.index-children-place.result in
    let some = c.loop-place-test.true in
    record {
      before = λ rule h.
          c.see_last.ensures.before rule assets (nodes_of_all (shapes (take (p - 1) xs)))
          (last_entries rule assets xs p x c.loop-place.before.now (omega (arith, some)) c.loop-place.auto.place c.index-children-place.is (c.loop-place.invariant.before rule h));
      pushed = λ rule h.
          let child = λ (y : Tree). child_by rule assets (shape y) in
          let last = last_entries rule assets xs p x c.loop-place.before.now (omega (arith, some)) c.loop-place.auto.place c.index-children-place.is (c.loop-place.invariant.before rule h) in
          let seen = c.see_last.ensures.seen rule assets (nodes_of_all (shapes (take (p - 1) xs))) last in
          let weighed = same_weighed rule assets _ (shape x) c.weighed.result.now c.see_last.ensures.tree (c.weighed.ensures.weighed rule assets seen) in
          let costs = child_costs rule assets (shape x) c.weighed.result.now c.as_child.result weighed c.as_child.ensures.sat c.as_child.ensures.dsat in
          let this = subst (λ s. IsPushed (dissatisfaction s) c.loop-place.stack c.dissatisfy.new.stack) c.see_last.ensures.tree c.in_ok-dissatisfy.ensures in
          let pushed = pushed_unless (is_some (free_by rule assets (shape x))) (dissatisfaction (shape x)) c.loop-place.stack c.dissatisfy.new.stack this in
          from_less child c.in-Some.choice.last xs p x c.as_child.result c.is_taken.result c.args.stack.now c.loop-place.stack c.dissatisfy.new.stack
          (omega (arith, some)) c.loop-place.auto.place c.index-children-place.is costs c.is_taken.ensures (c.loop-place.invariant.pushed rule h)
          (subst (λ b. ChildPushed child c.in-Some.choice.last b x c.loop-place.stack c.dissatisfy.new.stack) (sym c.if-is_taken.false) pushed);
    }
