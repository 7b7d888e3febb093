use Rattle.std.proofs.Common.{◌↔◌, drop}
use Rattle.ms_plan_file.proofs.Tables.{AreEntries}
use Rattle.ms_plan_file.proofs.lengths.are_lengths.Given as goal

-- all is right exactly where what is left is
abbrev pub invariant-loop-place : goal.invariant-loop-place
invariant-loop-place l = AreEntries (drop l.place l.table) ↔ AreEntries l.table
