-- The steps so far, and those that are left.
use Rattle.std.proofs.Common.{◌≡◌, ◌++◌, drop, map}
use Rattle.def_descriptor.specs.Gives.{number_at}
use Rattle.ms_paths.specs.Paths.{way_at}
use Rattle.ms_descriptor_update.proofs.origins.push_ways.Given as goal

abbrev pub invariant-loop-way : goal.invariant-loop-way
invariant-loop-way l =
    l.steps.items ++ map (number_at l.branch l.index) (map way_at (drop l.way-index l.ways))
    ≡ l.initial.steps.items ++ map (number_at l.branch l.index) (map way_at l.ways)
