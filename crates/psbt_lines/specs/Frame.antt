-- The status of a call of `msat-psbt` for the word `lines`.
use Rattle.def_psbt_answer.specs.declared.status.Status.{Status}
use Rattle.def_psbt_answer.specs.declared.status.Status.TheVariants as status
use Rattle.ms_lines.specs.declared.stream.Ending.{Ending}
use Rattle.ms_lines.specs.declared.stream.Ending.TheVariants as ending

abbrev pub status_of : Ending → Status
status_of ending.Done = status.Done
status_of ending.ReadFault = status.ReadFault
status_of ending.WriteFault = status.WriteFault
status_of ending.Memory = status.Memory
