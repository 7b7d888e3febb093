-- The steps so far, and those that are left.
use Rattle.std.proofs.Common.{◌≡◌, ◌++◌, drop, map}
use Rattle.std.specs.Prelude.{flat_map}
use Rattle.def_descriptor.specs.Gives.{number_at}
use Rattle.ms_paths.specs.Paths.{way_at}
use Rattle.def_descriptor_answer.specs.Lines.{step_text}
use Rattle.ms_descriptor_lines.proofs.paths.push_ways.Given as goal

abbrev pub invariant-loop-way : goal.invariant-loop-way
invariant-loop-way l =
    l.report.items ++ flat_map step_text (map (number_at l.branch l.index) (map way_at (drop l.way-index l.ways)))
    ≡ l.initial.report.items ++ flat_map step_text (map (number_at l.branch l.index) (map way_at l.ways))
