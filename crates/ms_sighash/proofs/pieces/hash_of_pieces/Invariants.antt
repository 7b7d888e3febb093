use Rattle.sha2.specs.Hashers.{Holds256}
use Rattle.ms_sighash.specs.Pieces.{pieces}
use Rattle.ms_sighash.proofs.pieces.hash_of_pieces.Given as goal

abbrev pub invariant-pieces : goal.invariant-pieces
invariant-pieces l = Holds256 l.hasher (pieces l.from l.size l.i l.inputs)
