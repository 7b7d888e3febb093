-- Scripts without a DUP, which have no `pk_h`. No public clause cites it, so it need not be believed.
use Rattle.std.specs.Prelude.{Bool, true, false, List}
use Rattle.std.specs.List.{list_any}
use Rattle.def_script.specs.declared.Op.TheVariants as op
use Rattle.def_script.specs.Instruction.{Instruction, code}
use Rattle.ms_reading.specs.declared.codes.Code.{Code}
use Rattle.ms_reading.specs.Scaffolding.States.{instruction_of}

abbrev pub is_dup : Instruction → Bool
is_dup (code op.Dup) = true
is_dup other = false

abbrev pub has_dup : List Code → Bool
has_dup codes = list_any (λ c. is_dup (instruction_of c)) codes
