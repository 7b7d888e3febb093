use Rattle.std.proofs.Common.{arith, subst, sym}
use Rattle.def_tree.specs.Nodes.{all_nodes}
use Rattle.ms_tree.specs.Shape.{shape}
use Rattle.ms_chosen.specs.Scaffolding.Table.{AreEntries}
use Rattle.ms_chosen.proofs.Tables.{some_entries, last_entry, last_fits, split_front, split_back}
use Rattle.ms_chosen.proofs.way.see_last.Goals as goal

pub overflow_sub-nodes : goal.overflow_sub-nodes
overflow_sub-nodes c =
    let h = c.requires.table in omega (arith, some_entries h.0 h.1 h.2 (shape c.args.tree.now) c.args.table.now h.3)

pub bounds-table-table : goal.bounds-table-table
bounds-table-table c =
    let h = c.requires.table in omega (arith, some_entries h.0 h.1 h.2 (shape c.args.tree.now) c.args.table.now h.3)

pub overflow_sub-table : goal.overflow_sub-table
overflow_sub-table c =
    let h = c.requires.table in
    last_fits h.0 h.1 h.2 (shape c.args.tree.now) c.args.table.now _ h.3

pub returns-clause-before : goal.returns-clause-before
returns-clause-before c = λ rule assets ts h.
    let last = last_entry rule assets ts (shape c.args.tree.now) c.args.table.now _ h in
    subst (AreEntries rule assets ts) (sym c.split_at.ensures.front) (split_front rule assets ts (shape c.args.tree.now) c.args.table.now _ h last.nodes)

pub returns-clause-seen : goal.returns-clause-seen
returns-clause-seen c = λ rule assets ts h.
    let last = last_entry rule assets ts (shape c.args.tree.now) c.args.table.now _ h in
    record {
      in_range = c.requires.in_range;
      entries = subst (AreEntries rule assets (all_nodes (shape c.args.tree.now))) (sym c.split_at.ensures.back)
          (split_back rule assets ts (shape c.args.tree.now) c.args.table.now _ h last.nodes);
    }
