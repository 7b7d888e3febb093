use Rattle.std.proofs.Common.{[]}
use Rattle.def_tree.specs.Nodes.{all_nodes}
use Rattle.ms_tree.specs.Shape.{shape}
use Rattle.ms_chosen.proofs.way.see_two.Goals as goal

pub returns-clause-seen : goal.returns-clause-seen
returns-clause-seen c = λ rule assets h. (
  c.see_last-2.ensures.seen rule assets [] (c.see_last.ensures.before rule assets (all_nodes (shape c.args.x.now)) h),
  c.see_last.ensures.seen rule assets (all_nodes (shape c.args.x.now)) h,
)
