-- Satisfactions without a signature.
use Rattle.std.specs.Prelude.{Option}
use Rattle.def_machine.specs.Stacks.{Stack}
use Rattle.def_tree.specs.Tree.{Tree}
use Rattle.def_assets.specs.Assets.{Assets, unsigned}
use Rattle.def_choice.specs.Cheapest.{cheapest_of}

-- a satisfaction without a signature, or none
abbrev pub free : Assets → Tree → Option Stack
free assets tree = cheapest_of (unsigned assets) tree
