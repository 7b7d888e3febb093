use Rattle.std.proofs.Common.{◌++◌}
use Rattle.def_tree.specs.Nodes.{all_nodes}
use Rattle.def_tree.specs.Tree as model
use Rattle.ms_tree.specs.Shape.{shape}
use Rattle.ms_chosen.proofs.Rows.{same_weighed}
use Rattle.ms_chosen.proofs.table.weigh_and_or.Goals as goal

pub returns : goal.returns
returns c = λ rule assets h.
    let nodes = all_nodes (shape c.args.x.now) ++ all_nodes (shape c.args.y.now) in
    let xy = c.see_two.ensures.seen rule assets (c.see_last.ensures.before rule assets nodes h) in
    let seen = c.row_of_and_or.ensures.seen rule assets xy.0 xy.1 (c.see_last.ensures.seen rule assets nodes h) in
    same_weighed rule assets _ _ c.weigh_row.result (λ i. model.and_or (c.see_two.ensures.x i) (c.see_two.ensures.z i) (c.see_last.ensures.tree i))
    (c.weigh_row.ensures rule assets _ c.row_of_and_or.ensures.row seen tt)
