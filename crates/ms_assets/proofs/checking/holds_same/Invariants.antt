use Rattle.std.proofs.Common.{◌≡◌, drop}
use Rattle.std.specs.List.{list_any}
use Rattle.def_files.specs.Parts.{same_under}
use Rattle.ms_assets.proofs.checking.holds_same.Given as goal

abbrev pub invariant-loop-other : goal.invariant-loop-other
invariant-loop-other l = list_any (same_under l.format l.pair) (drop l.other-index l.table) ≡ list_any (same_under l.format l.pair) l.table
