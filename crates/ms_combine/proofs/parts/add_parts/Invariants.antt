use Rattle.std.proofs.Common.{◌+◌, ◌≤◌, List, length}
use Rattle.def_psbt.specs.Map.{Psbt}
use Rattle.def_psbt.specs.Source.{MAX_SOURCE_SIZE}
use Rattle.ms_combine.specs.Scaffolding.Left.{HasRoom, texts_left}
use Rattle.ms_combine.specs.Scaffolding.Kept.{AreKept, texts_size, parts_with}
use Rattle.ms_combine.proofs.Reading.{SoFar}
use Rattle.ms_combine.proofs.parts.add_parts.Given as goal

abbrev pub invariant-lines : goal.invariant-lines
invariant-lines l =
    HasRoom l.left × (length l.parts.bytes.items + texts_size (texts_left l.left) ≤ MAX_SOURCE_SIZE)
    × ((first : Psbt) (others : List Psbt) → AreKept l.fn.parts first others → SoFar l.parts (parts_with first others (texts_left l.fn.left)) (texts_left l.left))

abbrev pub decreases-lines : goal.decreases-lines
decreases-lines l = length (texts_left l.left)
