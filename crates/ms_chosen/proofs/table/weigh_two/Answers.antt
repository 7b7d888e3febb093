use Rattle.def_tree.specs.Tree as model
use Rattle.ms_chosen.proofs.Rows.{same_weighed}
use Rattle.ms_chosen.proofs.table.weigh_two.Goals as goal

pub returns : goal.returns
returns c = λ rule assets h.
    let xz = c.see_two.ensures.seen rule assets h in
    same_weighed rule assets _ _ c.weigh_row.result (λ i. model.two c.args.kind (c.see_two.ensures.x i) (c.see_two.ensures.z i))
    (c.weigh_row.ensures rule assets _ c.row_of_two.ensures.row (c.row_of_two.ensures.seen rule assets xz.0 xz.1) tt)
