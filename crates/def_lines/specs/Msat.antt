-- What `msat` answers to words, by its exit statuses.
use Rattle.std.specs.Prelude.{◌≡◌}
use Rattle.def_answer.specs.declared.status.Status.{Status}
use Rattle.def_answer.specs.Answer.{Answer}
use Rattle.def_answer.specs.Status.{code_of}
use Rattle.def_lines.specs.Answers.{AnswersOf}

abbrev pub msat_answers : AnswersOf
msat_answers words source code report = (status : Status) × Answer words source status report × (code ≡ code_of status)
