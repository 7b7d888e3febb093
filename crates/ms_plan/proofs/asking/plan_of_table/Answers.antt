use Rattle.ms_plan.proofs.asking.plan_of_table.Goals as goal

pub plan_by-requires-clause-marked : goal.plan_by-requires-clause-marked
plan_by-requires-clause-marked c = (
  c.args.assets.now,
  c.args.table.now,
  record { held = c.are_assets.ensures.held; lengths = c.requires.lengths; rising = c.in_ok-first.ensures; falling = c.in_ok-second.ensures },
)
