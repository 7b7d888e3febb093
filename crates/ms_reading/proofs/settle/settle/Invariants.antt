use Rattle.std.proofs.Common.{◌≡◌, length}
use Rattle.ms_decode_laws.specs.Scaffolding.Reader.{settle}
use Rattle.ms_reading.specs.Scaffolding.Parts.{tree_of}
use Rattle.ms_reading.specs.Scaffolding.States.{frames_of}
use Rattle.ms_reading.proofs.settle.settle.Given as goal

abbrev pub invariant-loop-frame : goal.invariant-loop-frame
invariant-loop-frame l = settle (tree_of l.tree) (frames_of l.frames.items) ≡ settle (tree_of l.fn.tree) (frames_of l.fn.frames.items)

abbrev pub decreases-loop-frame : goal.decreases-loop-frame
decreases-loop-frame l = length l.frames.items
