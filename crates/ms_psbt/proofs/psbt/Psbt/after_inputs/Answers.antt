use Rattle.std.proofs.Common.{arith, ap, length}
use Rattle.ms_psbt.proofs.Holding.{places_count, last_inside, after_is}
use Rattle.ms_psbt.proofs.psbt.Psbt.after_inputs.Goals as goal

pub overflow_sub-len : goal.overflow_sub-len
overflow_sub-len c = omega (arith, places_count c.self.invariant, c.self.inside.places.ok.0)

pub place_at-last-requires : goal.place_at-last-requires
place_at-last-requires c = omega (arith, places_count c.self.invariant, c.self.inside.places.ok.0, ap length c.deref.ensures.value)

pub part-requires-clause-up : goal.part-requires-clause-up
part-requires-clause-up c = grind (arith, last_inside c.self.invariant)

pub returns : goal.returns
returns c = grind (arith, after_is c.self.invariant)
