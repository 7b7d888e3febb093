-- Which keys to ask for a signature besides those that are there.
use Rattle.std.specs.Prelude.{Option}
use Rattle.std.specs.Option.{option_map}
use Rattle.def_tree.specs.Tree.{Tree}
use Rattle.def_assets.specs.Assets.{Assets}
use Rattle.def_plan.specs.Plan.{Plan}
use Rattle.def_spend.specs.Asking.{plan_with, unsigned_keys}

-- a plan whose keys that have a signature aren't asked
abbrev pub asked : Assets → Plan → Plan
asked assets plan = record plan { keys = unsigned_keys assets plan.keys }

abbrev pub asked_plan : Tree → Assets → Option Plan
asked_plan tree assets = option_map (asked assets) (plan_with tree assets)
