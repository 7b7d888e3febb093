use Rattle.def_decode.proofs.examples.nested.Goals as goal
use Rattle.def_decode.proofs.Computed.{nested_ones, other_ones}

pub returns-clause-nested_ones : goal.returns-clause-nested_ones
returns-clause-nested_ones c = nested_ones

pub returns-clause-other_ones : goal.returns-clause-other_ones
returns-clause-other_ones c = other_ones
