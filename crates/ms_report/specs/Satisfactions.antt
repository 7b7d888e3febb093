-- What is printed of a satisfaction, part by part.
use Rattle.std.specs.Prelude.{List, ◌++◌, codes, flat_map}
use Rattle.hex.specs.Hex.{encode_lower}
use Rattle.def_script.specs.Bytes.{Bytes}
use Rattle.def_machine.specs.Run.{Outcome}
use Rattle.def_answer.specs.Lines.{line, script_line, program_line}
use Rattle.def_answer.specs.Satisfy.{item_line, replay_line}

-- the lines of a Script and its program, the line of the limits, the items bottom first, the witness, and its run
unfoldable pub satisfaction_lines : (limits script : Bytes) → (stack : List Bytes) → (witness : Bytes) → Outcome → Bytes
satisfaction_lines limits script stack witness outcome =
    script_line script
    ++ program_line script
    ++ limits
    ++ flat_map item_line stack
    ++ line (codes "witness " ++ encode_lower witness)
    ++ replay_line stack outcome
