use Rattle.def_script.proofs.examples.spellings.Goals as goal
use Rattle.std.proofs.Common.{refl}
use Rattle.def_script.specs.Items.{first_item, items_after}
use Rattle.def_script.specs.Sizes.{size_bytes, read_size}

-- The examples, each computed.
pub returns : goal.returns
unfolding first_item items_after size_bytes read_size
returns c = record {
  small_pushes = refl;
  sized_pushes = refl;
  long_pushes = refl;
  truncated_pushes = refl;
  nop_is_unsupported = refl;
  number_spellings = refl;
  number_faults = refl;
  truth_values = refl;
  size_spellings = refl;
  size_faults = refl;
  small_witness = refl;
}
