use Rattle.ms_verify_laws.proofs.laws.verified_again.Goals as goal
use Rattle.ms_verify_laws.proofs.Again.{written_is_valid, written_is_of_good}

pub returns : goal.returns
returns c = record {
  valid = written_is_valid c.given.ensures.sound c.hashes.ensures.of_types;
  good = written_is_of_good c.given.ensures.sound;
}
