use Rattle.std.proofs.Common.{◌∙◌, ap}
use Rattle.def_decode.specs.Decoded.{first_with}
use Rattle.ms_decode_laws.specs.Scaffolding.Reader.{at, finish}
use Rattle.ms_reading.specs.Scaffolding.Keys.{keys_of}
use Rattle.ms_reading.specs.Scaffolding.States.{frames_of, want_of, instruction_of, backwards}
use Rattle.ms_reading.proofs.Running.{stopped}
use Rattle.ms_reading.proofs.read.read_back.Goals as goal

pub returns-in_default-2 : goal.returns-in_default-2
returns-in_default-2 c =
    stopped (first_with (keys_of c.args.keys.now)) (at (want_of c.loop-code.want) (frames_of c.loop-code.frames.items)) (instruction_of c.in-Some.code)
    (backwards c.pop_code.new.codes.items) (backwards c.loop-code.codes.items)
    c.in-Some.ensures.taken (rw c.in_default-2.is at c.in_ok-next.ensures)
    ∙ ap finish c.loop-code.invariant
