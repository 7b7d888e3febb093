use Rattle.std.proofs.Common.{◌≡◌}
use Rattle.def_files.specs.Parts.{same_under}
use Rattle.ms_assets.proofs.Repeats.{same_from}
use Rattle.ms_assets.proofs.checking.check_repeats.Given as goal

abbrev pub invariant-loop-i : goal.invariant-loop-i
invariant-loop-i l = same_from (same_under l.format) l.i l.pairs ≡ same_from (same_under l.format) 0 l.pairs
