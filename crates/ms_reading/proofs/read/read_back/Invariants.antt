use Rattle.std.proofs.Common.{◌≡◌, length, Some}
use Rattle.def_decode.specs.Decoded.{first_with}
use Rattle.ms_decode_laws.specs.Scaffolding.Reader.{at, run, start}
use Rattle.ms_reading.specs.Scaffolding.Keys.{keys_of}
use Rattle.ms_reading.specs.Scaffolding.States.{frames_of, want_of, backwards}
use Rattle.ms_reading.proofs.read.read_back.Given as goal

abbrev pub invariant-loop-code : goal.invariant-loop-code
invariant-loop-code l =
    run (first_with (keys_of l.keys)) (Some (at (want_of l.want) (frames_of l.frames.items))) (backwards l.codes.items)
    ≡ run (first_with (keys_of l.keys)) (Some start) (backwards l.fn.codes.items)

abbrev pub decreases-loop-code : goal.decreases-loop-code
decreases-loop-code l = length l.codes.items
