-- What the definitions imply.
use Rattle.std.specs.Prelude.{◌≡◌, List, Ok}
use Rattle.def_script.specs.Bytes.{Bytes, IsBytes}
use Rattle.def_script.specs.Witness.{witness_text}
use Rattle.def_machine.specs.Program.{program_of}
use Rattle.def_machine.specs.Machine.{Given}
use Rattle.def_machine.specs.Run.{run}
use Rattle.ms_witness.specs.Replaying.{replay, ran}
use Rattle.ms_witness.specs.Reading.{FitsWitness, read_witness}

-- a witness that was written is read back
abbrev pub WitnessIsReadBack : Type 0
WitnessIsReadBack = (stack : List Bytes) → (script : Bytes) → FitsWitness stack script → read_witness (witness_text stack script) ≡ Ok (stack, script)

-- and what is read as a witness is its one spelling
abbrev pub WitnessHasOneSpelling : Type 0
WitnessHasOneSpelling =
    (bytes : Bytes) → (read : List Bytes × Bytes) → IsBytes bytes → read_witness bytes ≡ Ok read
    → FitsWitness read.0 read.1 × (bytes ≡ witness_text read.0 read.1)

-- the replay of a witness that was written, under the program of its Script, is the run of its Script on its stack
abbrev pub WitnessIsReplayed : Type 0
WitnessIsReplayed =
    (given : Given) → (stack : List Bytes) → (script : Bytes) → FitsWitness stack script
    → replay given (program_of script) (witness_text stack script) ≡ ran (run given script stack)
