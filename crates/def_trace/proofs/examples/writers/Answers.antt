-- The examples, each computed.
use Rattle.std.proofs.Common.{refl}
use Rattle.def_trace.proofs.examples.writers.Goals as goal
use Rattle.def_trace.proofs.Computing.{traces}

pub returns-clause-choices : goal.returns-clause-choices
unfolding traces
returns-clause-choices c = refl

pub returns-clause-verify_forms : goal.returns-clause-verify_forms
unfolding traces
returns-clause-verify_forms c = refl

pub returns-clause-threshold : goal.returns-clause-threshold
unfolding traces
returns-clause-threshold c = refl

pub returns-clause-with_places : goal.returns-clause-with_places
unfolding traces
returns-clause-with_places c = refl

pub returns-clause-listed : goal.returns-clause-listed
unfolding traces
returns-clause-listed c = refl
