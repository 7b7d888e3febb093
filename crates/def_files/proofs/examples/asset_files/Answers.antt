-- The examples, each computed.
use Rattle.def_files.proofs.examples.asset_files.Goals as goal
use Rattle.std.proofs.Common.{refl}
use Rattle.def_files.proofs.OnLiterals.{files_on_literals}

pub returns : goal.returns
unfolding files_on_literals
returns c = record {
  no_bytes = refl;
  ends_too_soon = refl;
  not_utf8 = refl;
  deepest_file = refl;
  too_deep_file = refl;
  list_as_file = refl;
  empty_file = refl;
  whole_file = refl;
  upper_case = refl;
  greatest_sequence = refl;
  sequence_too_great = refl;
  no_whole_numbers = (refl, refl, refl, refl, refl, refl);
  last_counts = refl;
  wrong_elements = (refl, refl, refl);
  shape_first = refl;
  number_before_digits = refl;
  first_odd_digits = refl;
  odd_preimage = refl;
  no_key = refl;
  uncompressed_key = refl;
  signature_too_long = refl;
  empty_signature = refl;
  short_preimage = refl;
  key_twice = refl;
  two_signatures = refl;
  signature_twice = refl;
  format_one = refl;
  other_formats = (refl, refl, refl, refl);
  version_before_format = (refl, refl);
  key_form_first = refl;
  too_many_preimages = refl;
}
