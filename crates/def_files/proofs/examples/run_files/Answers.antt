-- The examples, each computed.
use Rattle.def_files.proofs.examples.run_files.Goals as goal
use Rattle.std.proofs.Common.{refl}
use Rattle.def_files.proofs.OnLiterals.{files_on_literals}

pub returns : goal.returns
unfolding files_on_literals
returns c = record {
  run_of_one = refl;
  run_passes_format = refl;
  run_of_more = refl;
  no_script = refl;
  script_of_number = refl;
  script_of_one_digit = refl;
  signatures_first = (refl, refl, refl, refl, refl);
  too_many_signatures = refl;
  too_many_elements = refl;
}
