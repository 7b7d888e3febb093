-- The keys so far, and those that are left.
use Rattle.std.proofs.Common.{◌≡◌, ◌++◌, drop, map}
use Rattle.def_descriptor_answer.specs.Update.{with_origins}
use Rattle.ms_outputs.specs.Keys.{expressions_in}
use Rattle.ms_update.specs.Seen.{key_at}
use Rattle.ms_descriptor_update.proofs.origins.push_of_pieces.Given as goal

abbrev pub invariant-loop-piece : goal.invariant-loop-piece
invariant-loop-piece l =
    map key_at l.known.items ++ with_origins l.branch l.index (expressions_in (drop l.piece-index l.pieces)) l.left
    ≡ map key_at l.initial.known.items ++ with_origins l.branch l.index (expressions_in l.pieces) l.keys
