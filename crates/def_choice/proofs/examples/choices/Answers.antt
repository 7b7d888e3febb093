-- The examples compute.
use Rattle.def_choice.proofs.examples.choices.Goals as goal
use Rattle.std.proofs.Common.{refl}
use Rattle.def_satisfaction.proofs.Computing.{computing}

pub returns : goal.returns
unfolding computing
returns c = record {
  lightest_two = (refl, refl);
  late_key = (refl, refl);
  too_early = (refl, refl);
  time_for_blocks = (refl, refl);
  old_version = (refl, refl);
  void_lock = (refl, refl);
  time_lock = (refl, refl);
  height_for_time = (refl, refl);
  final_sequence = (refl, refl);
  time_for_height = (refl, refl);
  cheapest_of_threshold = refl;
  strict_of_threshold = refl;
  cheapest_branch = refl;
  strict_branch = refl;
  lock_met = (refl, refl);
  lock_unmet = (refl, refl);
  lock_left = (refl, refl);
  zeros_cannot_miss = refl;
  zeros_as_preimage = refl;
}
