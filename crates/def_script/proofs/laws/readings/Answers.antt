use Rattle.def_script.proofs.laws.readings.Goals as goal
use Rattle.def_script.proofs.Reading.{byte_stands_for_op, spelling_is_read_back}
use Rattle.def_script.proofs.Decoding.{number_is_read_back, number_has_one_spelling, nonzero_is_true}
use Rattle.def_script.proofs.Sizing.{size_is_read_back, size_has_one_spelling}

pub returns : goal.returns
returns c = record {
  opcode = byte_stands_for_op;
  script = spelling_is_read_back;
  number = number_is_read_back;
  one_number = number_has_one_spelling;
  nonzero = nonzero_is_true;
  size = size_is_read_back;
  one_size = size_has_one_spelling;
}
