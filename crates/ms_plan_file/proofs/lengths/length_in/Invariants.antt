use Rattle.std.proofs.Common.{◌≡◌, drop}
use Rattle.def_plan.specs.Lengths.{length_of}
use Rattle.ms_plan_file.proofs.lengths.length_in.Given as goal

abbrev pub invariant-loop-entry : goal.invariant-loop-entry
invariant-loop-entry l = length_of (drop l.entry-index l.table) l.key ≡ length_of l.table l.key
