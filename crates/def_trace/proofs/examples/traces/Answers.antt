-- The examples, each computed.
use Rattle.std.proofs.Common.{refl}
use Rattle.def_trace.proofs.examples.traces.Goals as goal
use Rattle.def_trace.proofs.Computing.{traces}

pub returns-clause-branches_inside : goal.returns-clause-branches_inside
unfolding traces
returns-clause-branches_inside c = refl

pub returns-clause-passed_pushes : goal.returns-clause-passed_pushes
unfolding traces
returns-clause-passed_pushes c = refl

pub returns-clause-both_stacks : goal.returns-clause-both_stacks
unfolding traces
returns-clause-both_stacks c = refl

pub returns-clause-nothing_changed : goal.returns-clause-nothing_changed
unfolding traces
returns-clause-nothing_changed c = refl

pub returns-clause-good_signatures : goal.returns-clause-good_signatures
unfolding traces
returns-clause-good_signatures c = refl

pub returns-clause-stopped_by_verify : goal.returns-clause-stopped_by_verify
unfolding traces
returns-clause-stopped_by_verify c = refl

pub returns-clause-stopped_behind_good : goal.returns-clause-stopped_behind_good
unfolding traces
returns-clause-stopped_behind_good c = refl

pub returns-clause-no_line : goal.returns-clause-no_line
unfolding traces
returns-clause-no_line c = (refl, refl)

pub returns-clause-read_back : goal.returns-clause-read_back
unfolding traces
returns-clause-read_back c = refl

pub returns-clause-unread : goal.returns-clause-unread
unfolding traces
returns-clause-unread c = (refl, refl, refl)
