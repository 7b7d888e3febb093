-- What is promised of an Unsatisfied input: there is nothing to accept yet.
use Rattle.def_promises.specs.Accepted.{HasNothingToAccept}
use Rattle.def_spend.specs.declared.State.TheVariants as state
use Rattle.def_spend.specs.Good.{assets_of}
use Rattle.ms_spend_laws.specs.Tried.{OfEachIn}

abbrev pub UnsatisfiedHasNothing : Type 0
UnsatisfiedHasNothing = OfEachIn state.Unsatisfied (λ input tree. HasNothingToAccept tree (assets_of input.spend))
