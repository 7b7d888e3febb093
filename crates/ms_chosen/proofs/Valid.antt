-- What a valid tree is, and what its stacks weigh.
use Rattle.std.proofs.Common.{◌≡◌, reverse, Option, Some, None, refl, ap}
use Rattle.std.specs.Option.{option_map}
use Rattle.def_machine.specs.Stacks.{Stack}
use Rattle.def_tree.specs.Tree.{Tree}
use Rattle.def_sane.specs.declared.Rules.TheVariants.{Consensus}
use Rattle.def_sane.specs.Unfit.{IsValidUnder}
use Rattle.def_sane.proofs.Meanings.{valid_means_under}
use Rattle.def_types.specs.Typed.{IsTyped}
use Rattle.def_script.specs.Witness.{weight}
use Rattle.def_choice.proofs.Weights.{weight-reverse}
use Rattle.ms_chosen.specs.Scaffolding.Costs.{weight_of}

pub weight_of-reverse : (o : Option Stack) → option_map weight (option_map reverse o) ≡ weight_of o
weight_of-reverse None = refl
weight_of-reverse (Some v) = ap Some (weight-reverse v)

pub typed_valid : (t : Tree) → IsValidUnder Consensus t → IsTyped t
typed_valid t valid = ((valid_means_under Consensus t).0 valid).0
