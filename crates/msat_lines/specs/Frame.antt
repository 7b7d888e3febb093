-- The status of a call for the word `lines`, and the answer where the source lies in memory.
use Rattle.std.specs.Prelude.{◌≡◌, ◌⊎◌, List}
use Rattle.def_script.specs.Bytes.{Bytes}
use Rattle.def_answer.specs.declared.status.Status.{Status}
use Rattle.def_answer.specs.declared.status.Status.TheVariants as status
use Rattle.def_answer.specs.Answer.{Answer}
use Rattle.def_lines.specs.Answers.{AnswersLines}
use Rattle.def_lines.specs.Msat.{msat_answers}
use Rattle.ms_frame.specs.Asking.{AsksLines}
use Rattle.ms_lines.specs.declared.stream.Ending.{Ending}
use Rattle.ms_lines.specs.declared.stream.Ending.TheVariants as ending

abbrev pub status_of : Ending → Status
status_of ending.Done = status.Done
status_of ending.ReadFault = status.ReadFault
status_of ending.WriteFault = status.WriteFault
status_of ending.Memory = status.Memory

-- ---- of a source and a sink in memory

-- the answer of `msat` to other words
pub record OtherAnswer (words : List Bytes) (source : Bytes) (status : Status) (report : Bytes) : Type 0 where
  pub others : ¬ AsksLines words
  pub answer : Answer words source status report

-- of the word `lines` the answers to the lines of the source
pub record LinesAnswer (words : List Bytes) (source : Bytes) (s : Status) (report : Bytes) : Type 0 where
  pub asks : AsksLines words
  pub done : s ≡ status.Done
  pub answers : AnswersLines msat_answers source report

abbrev pub WholeAnswer : (words : List Bytes) → (source : Bytes) → Status → (report : Bytes) → Type 0
WholeAnswer words source s report = OtherAnswer words source s report ⊎ LinesAnswer words source s report
