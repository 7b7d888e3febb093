use Rattle.ms_strict_laws.proofs.laws.strict.Goals as goal
use Rattle.ms_strict_laws.proofs.StrictChoiceExists.{strict_exists}
use Rattle.ms_strict_laws.proofs.TightIsUnchangeable.{strict_is_non_malleable, strict_is_unchangeable, nothing_to_accept, tight_is_non_malleable, tight_is_unchangeable}
use Rattle.ms_strict_laws.proofs.UnchangeableIsTight.{strict_is_lightest}

pub returns-clause-exists : goal.returns-clause-exists
returns-clause-exists c = strict_exists

pub returns-clause-non_malleable : goal.returns-clause-non_malleable
returns-clause-non_malleable c = strict_is_non_malleable

pub returns-clause-nothing : goal.returns-clause-nothing
returns-clause-nothing c = nothing_to_accept

pub returns-clause-tight : goal.returns-clause-tight
returns-clause-tight c = tight_is_non_malleable

pub returns-clause-lightest : goal.returns-clause-lightest
returns-clause-lightest c = strict_is_lightest

pub returns-clause-unchangeable : goal.returns-clause-unchangeable
returns-clause-unchangeable c = strict_is_unchangeable

pub returns-clause-tight_unchangeable : goal.returns-clause-tight_unchangeable
returns-clause-tight_unchangeable c = tight_is_unchangeable
