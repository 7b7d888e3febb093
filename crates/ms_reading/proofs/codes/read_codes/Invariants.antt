use Rattle.std.proofs.Common.{◌≡◌, ◌-◌, ◌≤◌, ◌++◌, length, drop, map}
use Rattle.def_script.specs.Items.{items}
use Rattle.def_script.specs.Laws.{item_of}
use Rattle.ms_reading.specs.Scaffolding.States.{instruction_of}
use Rattle.ms_reading.proofs.codes.read_codes.Given as goal

abbrev pub invariant-loop-from : goal.invariant-loop-from
invariant-loop-from l = (l.from ≤ length l.script) × (items l.script ≡ map item_of (map instruction_of l.codes.items) ++ items (drop l.from l.script))

abbrev pub decreases-loop-from : goal.decreases-loop-from
decreases-loop-from l = length l.script - l.from
