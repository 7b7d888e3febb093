use Rattle.std.proofs.Common.{length, arith, ap}
use Rattle.ms_psbt.proofs.Holding.{places_count, first_inside, before_is}
use Rattle.ms_psbt.proofs.psbt.Psbt.before_inputs.Goals as goal

pub place_at-requires : goal.place_at-requires
place_at-requires c = omega (arith, places_count c.self.invariant, ap length c.deref.ensures.value)

pub part-requires-clause-inside : goal.part-requires-clause-inside
part-requires-clause-inside c = grind (arith, first_inside c.self.invariant)

pub returns : goal.returns
returns c = grind (arith, before_is c.self.invariant)
