use Rattle.def_audit.proofs.Erased.{derives_is_full}
use Rattle.def_audit.proofs.StepNodes.{steps_are_of_tree}
use Rattle.def_audit.proofs.laws.derivations.Goals as goal

pub returns : goal.returns
returns c = record { is_full = derives_is_full; of_tree = steps_are_of_tree }
