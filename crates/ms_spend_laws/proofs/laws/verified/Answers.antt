use Rattle.ms_spend_laws.proofs.laws.verified.Goals as goal
use Rattle.ms_spend_laws.proofs.Verified.{good_is_taken, ready_is_accepted_by_consensus, all_good_is_same, states_differ}

pub returns : goal.returns
returns c = record {
  taken = good_is_taken c.hashes.ensures.of_types;
  accepted = ready_is_accepted_by_consensus c.given.ensures.sound c.hashes.ensures.of_types;
  all_good = all_good_is_same;
  differ = states_differ c.given.ensures.sound;
}
