use Rattle.def_policy.proofs.Truths.{simple_keeps_truth}
use Rattle.def_policy.proofs.Forms.{simple_is_simple}
use Rattle.def_policy.proofs.Kept.{simple_is_kept, simple_once}
use Rattle.def_policy.proofs.Sizes.{simple_is_smaller}
use Rattle.def_policy.proofs.laws.simple.Goals as goal

pub returns : goal.returns
returns c = record { truth = simple_keeps_truth; form = simple_is_simple; kept = simple_is_kept; once = simple_once; smaller = simple_is_smaller }
