use Rattle.def_verify.proofs.examples.hashes.Goals as goal
use Rattle.def_verify.proofs.Computed.{other_bytes}

pub returns : goal.returns
returns c = record { other_bytes = other_bytes }
