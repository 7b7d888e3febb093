-- The steps before are none.
use Rattle.std.proofs.Common.{◌≡◌, drop, map}
use Rattle.std.specs.List.{list_any}
use Rattle.def_descriptor.specs.Gives.{is_index}
use Rattle.ms_paths.specs.Paths.{way_at}
use Rattle.ms_descriptor_lines.proofs.shapes.has_index.Given as goal

abbrev pub invariant-loop-way : goal.invariant-loop-way
invariant-loop-way l = list_any is_index (map way_at (drop l.way-index l.ways)) ≡ list_any is_index (map way_at l.ways)
