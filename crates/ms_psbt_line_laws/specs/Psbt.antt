-- What `msat_psbt` answers to words, by its exit codes.
use Rattle.std.specs.Prelude.{◌≡◌}
use Rattle.def_psbt_answer.specs.declared.status.Status.{Status}
use Rattle.def_psbt_answer.specs.Answer.{Answer}
use Rattle.def_psbt_answer.specs.Status.{code_of}
use Rattle.def_lines.specs.Answers.{AnswersOf}

abbrev pub psbt_answers : AnswersOf
psbt_answers words source code report = (status : Status) × Answer words source status report × (code ≡ code_of status)
