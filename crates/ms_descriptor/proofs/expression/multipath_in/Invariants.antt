-- No `<..>` stands in the steps so far.
use Rattle.std.proofs.Common.{◌≡◌, map, drop}
use Rattle.def_descriptor.specs.ReadKey.{multipath_in}
use Rattle.ms_paths.specs.Paths.{way_at}
use Rattle.ms_descriptor.proofs.expression.multipath_in.Given as goal

abbrev pub invariant-loop-way : goal.invariant-loop-way
invariant-loop-way l = multipath_in (map way_at (drop l.way-index l.ways)) ≡ multipath_in (map way_at l.ways)
