use Rattle.ms_answer_laws.proofs.laws.answers.Goals as goal
use Rattle.ms_answer_laws.proofs.Unique.{one_form, form_or_none, one_answer, some_answer}
use Rattle.ms_answer_laws.proofs.Early.{answers_have_status, no_reading_is_of_decode, not_accepted_is_of_witness}

pub returns : goal.returns
returns c = record {
  one_form = one_form;
  form_or_none = form_or_none;
  one_answer = one_answer;
  some_answer = some_answer;
  status = answers_have_status;
  no_reading = no_reading_is_of_decode;
  not_accepted = not_accepted_is_of_witness;
}
