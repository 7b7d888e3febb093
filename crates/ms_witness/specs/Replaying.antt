-- The replay of a witness: what its bytes give is run, where its Script has the program of the output (BIP 141;
-- Bitcoin Core: `VerifyWitnessProgram`).
use Rattle.std.specs.Prelude.{List, if◌then◌else◌, Result, Ok, Err}
use Rattle.std.specs.Str.{bytes_eq}
use Rattle.def_machine.specs.Program.{program_of}
use Rattle.def_machine.specs.Machine.{Given}
use Rattle.def_machine.specs.Run.{Outcome, run}
use Rattle.def_script.specs.Bytes.{Bytes}
use Rattle.ms_witness.specs.declared.fault.WitnessFault.{WitnessFault}
use Rattle.ms_witness.specs.Reading.{read_witness}

-- the bytes are no witness; its Script has another program than the output; or it was run
pub data Replayed : Type 0 where
  unread : (fault : WitnessFault) → Replayed
  wrong_program : (wanted found : Bytes) → Replayed
  ran : Outcome → Replayed

abbrev pub replay_read : Given → (program : Bytes) → Result (List Bytes × Bytes) WitnessFault → Replayed
replay_read given program (Err fault) = unread fault
replay_read given program (Ok witness) =
    if bytes_eq (program_of witness.1) program then ran (run given witness.1 witness.0)
    else wrong_program program (program_of witness.1)

abbrev pub replay : Given → (program : Bytes) → (bytes : Bytes) → Replayed
replay given program bytes = replay_read given program (read_witness bytes)
