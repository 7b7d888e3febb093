-- The expressions before have no version.
use Rattle.std.proofs.Common.{◌≡◌, drop}
use Rattle.ms_outputs.specs.Keys.{expressions_in, first_version}
use Rattle.ms_outputs.proofs.outputs.version_in.Given as goal

abbrev pub invariant-loop-piece : goal.invariant-loop-piece
invariant-loop-piece l = first_version (expressions_in (drop l.piece-index l.pieces)) ≡ first_version (expressions_in l.pieces)
