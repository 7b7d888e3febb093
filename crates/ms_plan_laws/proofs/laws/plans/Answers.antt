use Rattle.ms_plan_laws.proofs.laws.plans.Goals as goal
use Rattle.ms_plan_laws.proofs.Found.{estimate_exists}
use Rattle.ms_plan_laws.proofs.Plans.{none_holds, lengths_decide, suffices_always, weighs_at_most_always, least_always, listed_always, none_in_vain_ever, in_order_always}

pub returns-clause-estimate : goal.returns-clause-estimate
returns-clause-estimate c = estimate_exists

pub returns-clause-none : goal.returns-clause-none
returns-clause-none c = none_holds

pub returns-clause-lengths : goal.returns-clause-lengths
returns-clause-lengths c = lengths_decide

pub returns-clause-suffices : goal.returns-clause-suffices
returns-clause-suffices c = suffices_always

pub returns-clause-weight : goal.returns-clause-weight
returns-clause-weight c = weighs_at_most_always

pub returns-clause-least : goal.returns-clause-least
returns-clause-least c = least_always

pub returns-clause-listed : goal.returns-clause-listed
returns-clause-listed c = listed_always

pub returns-clause-none_in_vain : goal.returns-clause-none_in_vain
returns-clause-none_in_vain c = none_in_vain_ever

pub returns-clause-in_order : goal.returns-clause-in_order
returns-clause-in_order c = in_order_always
