-- The exit code of each status.
use Rattle.std.specs.Prelude.{ℕ}
use Rattle.def_answer.specs.declared.status.Status.{Status}
use Rattle.def_answer.specs.declared.status.Status.TheVariants as status

abbrev pub code_of : Status → ℕ
code_of status.Done = 0
code_of status.Usage = 1
code_of status.TextRefused = 2
code_of status.FileRefused = 3
code_of status.NoSatisfaction = 4
code_of status.ReadFault = 5
code_of status.WriteFault = 6
code_of status.Memory = 7
code_of status.ScriptRefused = 8
code_of status.NotAccepted = 9
code_of status.NoReading = 10
