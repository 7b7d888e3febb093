use Rattle.def_types.proofs.examples.refusals.Goals as goal
use Rattle.std.proofs.Common.{refl}
use Rattle.def_types.proofs.Rows.{correctness_rows, malleability_rows}

-- The refusals compute.
pub returns-clause-number_ranges : goal.returns-clause-number_ranges
unfolding correctness_rows malleability_rows
returns-clause-number_ranges c = (refl, refl, refl, refl, refl, refl, refl, refl, refl)

pub returns-clause-and_or_rules : goal.returns-clause-and_or_rules
unfolding correctness_rows malleability_rows
returns-clause-and_or_rules c = (refl, refl, refl, refl, refl)

pub returns-clause-and_or_children : goal.returns-clause-and_or_children
unfolding correctness_rows malleability_rows
returns-clause-and_or_children c = (refl, refl, refl)

pub returns-clause-and_rules : goal.returns-clause-and_rules
unfolding correctness_rows malleability_rows
returns-clause-and_rules c = (refl, refl, refl, refl)

pub returns-clause-or_rules : goal.returns-clause-or_rules
unfolding correctness_rows malleability_rows
returns-clause-or_rules c = (refl, refl, refl, refl, refl, refl, refl, refl, refl, refl, refl)

pub returns-clause-threshold_rules : goal.returns-clause-threshold_rules
unfolding correctness_rows malleability_rows
returns-clause-threshold_rules c = (refl, refl, refl, refl, refl, refl)

pub returns-clause-wrapper_rules : goal.returns-clause-wrapper_rules
unfolding correctness_rows malleability_rows
returns-clause-wrapper_rules c = (refl, refl, refl, refl, refl, refl, refl, refl, refl, refl)

pub returns-clause-rule_order : goal.returns-clause-rule_order
unfolding correctness_rows malleability_rows
returns-clause-rule_order c = (refl, refl)

pub returns-clause-malleable_and_or : goal.returns-clause-malleable_and_or
unfolding correctness_rows malleability_rows
returns-clause-malleable_and_or c = (refl, refl, refl, refl)

pub returns-clause-malleable_or : goal.returns-clause-malleable_or
unfolding correctness_rows malleability_rows
returns-clause-malleable_or c = (refl, refl, refl, refl, refl, refl, refl, refl)

pub returns-clause-malleable_threshold : goal.returns-clause-malleable_threshold
unfolding correctness_rows malleability_rows
returns-clause-malleable_threshold c = (refl, refl, refl)

pub returns-clause-malleable_order : goal.returns-clause-malleable_order
unfolding correctness_rows malleability_rows
returns-clause-malleable_order c = (refl, refl)
