use Rattle.ms_spend_laws.proofs.laws.tried.Goals as goal
use Rattle.ms_spend_laws.proofs.States.{ready_exactly, unsatisfied_exactly}

pub returns : goal.returns
returns c = record { ready = ready_exactly c.given.ensures.sound; unsatisfied = unsatisfied_exactly c.given.ensures.sound }
