use Rattle.def_types.proofs.laws.types.Goals as goal
use Rattle.def_types.proofs.Typing.{correctness_is_every, correctness_is_first, malleability_is_every, malleability_is_first, typed_means, non_malleable_means}

pub returns-clause-correctness_of : goal.returns-clause-correctness_of
returns-clause-correctness_of c = correctness_is_every

pub returns-clause-correctness_first : goal.returns-clause-correctness_first
returns-clause-correctness_first c = correctness_is_first

pub returns-clause-malleability_of : goal.returns-clause-malleability_of
returns-clause-malleability_of c = malleability_is_every

pub returns-clause-malleability_first : goal.returns-clause-malleability_first
returns-clause-malleability_first c = malleability_is_first

pub returns-clause-typed : goal.returns-clause-typed
returns-clause-typed c = typed_means

pub returns-clause-non_malleable : goal.returns-clause-non_malleable
returns-clause-non_malleable c = non_malleable_means
