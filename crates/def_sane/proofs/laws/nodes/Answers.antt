use Rattle.def_sane.proofs.laws.nodes.Goals as goal
use Rattle.def_sane.proofs.FirstMix.{mix_is_first}
use Rattle.def_sane.proofs.FirstRepeat.{none_is_repeated}
use Rattle.def_sane.proofs.Repeating.{repeated_is_first}

pub returns : goal.returns
returns c = record { mix = mix_is_first; repeated = repeated_is_first; distinct = none_is_repeated }
