use Rattle.ms_spend_laws.proofs.laws.unsatisfied.Goals as goal
use Rattle.ms_spend_laws.proofs.Chosen.{unsatisfied_has_nothing}
use Rattle.ms_spend_laws.proofs.Adding.{no_plan_is_vain, plan_makes_ready, reading_stays}

pub returns : goal.returns
returns c = record {
  nothing = unsatisfied_has_nothing c.given.ensures.sound;
  no_plan = no_plan_is_vain c.given.ensures.sound;
  plan = plan_makes_ready c.given.ensures.sound;
  reading = reading_stays c.given.ensures.sound;
}
