use Rattle.std.proofs.Common.{◌≡◌}
use Rattle.ms_assets.proofs.Repeats.{repeat_from}
use Rattle.ms_plan_file.proofs.plan_file.check_repeats.Given as goal

abbrev pub invariant-loop-i : goal.invariant-loop-i
invariant-loop-i l = repeat_from l.i l.table ≡ repeat_from 0 l.table
