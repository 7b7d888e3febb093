use Rattle.ms_spend_laws.proofs.laws.ready.Goals as goal
use Rattle.ms_spend_laws.proofs.Chosen.{ready_is_canonical, ready_has_witness, ready_is_accepted, ready_is_unchangeable, ready_is_tight, ready_is_lightest}

pub returns : goal.returns
returns c = record {
  canonical = ready_is_canonical c.given.ensures.sound;
  witness = ready_has_witness c.given.ensures.sound;
  accepted = ready_is_accepted c.given.ensures.sound;
  unchangeable = ready_is_unchangeable c.given.ensures.sound;
  tight = ready_is_tight c.given.ensures.sound;
  lightest = ready_is_lightest c.given.ensures.sound;
}
