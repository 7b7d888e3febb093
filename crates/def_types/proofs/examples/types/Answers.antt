use Rattle.def_types.proofs.examples.types.Goals as goal
use Rattle.std.proofs.Common.{refl}
use Rattle.def_types.proofs.Rows.{correctness_rows, malleability_rows}

-- The types compute.
pub returns-clause-key_type : goal.returns-clause-key_type
unfolding correctness_rows malleability_rows
returns-clause-key_type c = (refl, refl)

pub returns-clause-chain_type : goal.returns-clause-chain_type
unfolding correctness_rows malleability_rows
returns-clause-chain_type c = (refl, refl)

pub returns-clause-zero_type : goal.returns-clause-zero_type
unfolding correctness_rows malleability_rows
returns-clause-zero_type c = (refl, refl)

pub returns-clause-one_type : goal.returns-clause-one_type
unfolding correctness_rows malleability_rows
returns-clause-one_type c = (refl, refl)

pub returns-clause-locks_type : goal.returns-clause-locks_type
unfolding correctness_rows malleability_rows
returns-clause-locks_type c = (refl, refl)
