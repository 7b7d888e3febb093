use Rattle.def_plan.proofs.examples.plans.Goals as goal
use Rattle.def_plan.proofs.Computed.{shortest_two, first_two, too_few, lock_counts, preimages_first}

pub returns-clause-shortest_two : goal.returns-clause-shortest_two
returns-clause-shortest_two c = shortest_two

pub returns-clause-first_two : goal.returns-clause-first_two
returns-clause-first_two c = first_two

pub returns-clause-too_few : goal.returns-clause-too_few
returns-clause-too_few c = too_few

pub returns-clause-lock_counts : goal.returns-clause-lock_counts
returns-clause-lock_counts c = lock_counts

pub returns-clause-preimages_first : goal.returns-clause-preimages_first
returns-clause-preimages_first c = preimages_first
