use Rattle.def_verify.proofs.examples.executions.Goals as goal
use Rattle.def_verify.proofs.Computed.{native, nested, key_hash, other}

pub returns-clause-native : goal.returns-clause-native
returns-clause-native c = native

pub returns-clause-nested : goal.returns-clause-nested
returns-clause-nested c = nested

pub returns-clause-key_hash : goal.returns-clause-key_hash
returns-clause-key_hash c = key_hash

pub returns-clause-other : goal.returns-clause-other
returns-clause-other c = other
