-- What contracts see of a Script.
use Rattle.std.specs.Prelude.{List, map}
use Rattle.def_script.specs.Instruction.{Instruction, push, code}
use Rattle.ms_script.specs.declared.script.Instr.{Instr}
use Rattle.ms_script.specs.declared.script.Instr.TheVariants.{Push, Code}

-- an instruction, where a push is seen as its bytes
abbrev pub instruction_of : Instr → Instruction
instruction_of (Push bytes) = push bytes.items
instruction_of (Code op) = code op

abbrev pub instructions_of : List Instr → List Instruction
instructions_of instrs = map instruction_of instrs
