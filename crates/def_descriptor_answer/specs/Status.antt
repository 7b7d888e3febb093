-- The exit code of each status: that of the status of `msat` which means the same.
use Rattle.std.specs.Prelude.{ℕ}
use Rattle.def_descriptor_answer.specs.declared.status.Status.{Status}
use Rattle.def_descriptor_answer.specs.declared.status.Status.TheVariants as status

abbrev pub code_of : Status → ℕ
code_of status.Done = 0
code_of status.Usage = 1
code_of status.Refused = 2
code_of status.PsbtRefused = 3
code_of status.Unfit = 4
code_of status.NoInput = 4
code_of status.ReadFault = 5
code_of status.WriteFault = 6
code_of status.Memory = 7
