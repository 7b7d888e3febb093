use Rattle.std.proofs.Common.{refl}
use Rattle.def_machine.specs.Locks.{older_holds, after_holds}
use Rattle.def_ways.specs.Tried.{ways}
use Rattle.ms_way_laws.proofs.laws.examples.Goals as goal

pub returns : goal.returns
unfolding older_holds after_holds ways
returns c = record { twice = (refl, refl, refl); first = (refl, refl, refl, refl, refl) }
