use Rattle.std.proofs.Common.{◌≡◌}
use Rattle.ms_assets.proofs.Repeats.{repeat_from}
use Rattle.ms_arrays.proofs.entries.check_repeated.Given as goal

abbrev pub invariant-loop-i : goal.invariant-loop-i
invariant-loop-i l = repeat_from l.i l.entries ≡ repeat_from 0 l.entries
