use Rattle.def_types.proofs.examples.properties.Goals as goal
use Rattle.std.proofs.Common.{refl}
use Rattle.def_types.proofs.Rows.{malleability_rows}

-- The properties compute.
pub returns-clause-leaf_properties : goal.returns-clause-leaf_properties
unfolding malleability_rows
returns-clause-leaf_properties c = (refl, refl, refl, refl, refl, refl, refl, refl)

pub returns-clause-and_or_properties : goal.returns-clause-and_or_properties
unfolding malleability_rows
returns-clause-and_or_properties c = (refl, refl, refl)

pub returns-clause-and_properties : goal.returns-clause-and_properties
unfolding malleability_rows
returns-clause-and_properties c = (refl, refl, refl, refl, refl, refl)

pub returns-clause-or_properties : goal.returns-clause-or_properties
unfolding malleability_rows
returns-clause-or_properties c = (refl, refl, refl, refl, refl, refl, refl, refl, refl)

pub returns-clause-threshold_properties : goal.returns-clause-threshold_properties
unfolding malleability_rows
returns-clause-threshold_properties c = (refl, refl, refl)

pub returns-clause-wrapper_properties : goal.returns-clause-wrapper_properties
unfolding malleability_rows
returns-clause-wrapper_properties c = (refl, refl, refl, refl, refl, refl, refl, refl, refl, refl)
