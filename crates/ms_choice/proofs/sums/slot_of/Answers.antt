use Rattle.std.proofs.Common.{arith}
use Rattle.std.proofs.lemmas.Int.{ints}
use Rattle.ms_choice.proofs.Totals.{each_number}
use Rattle.ms_choice.proofs.sums.slot_of.Goals as goal

pub returns-clause-light : goal.returns-clause-light
returns-clause-light c =
    each_number _
    (omega (arith, ints, c.apart.ensures.small.0), omega (arith, ints, c.apart.ensures.small.1))
    (omega (arith, ints, c.apart-2.ensures.small.0), omega (arith, ints, c.apart-2.ensures.small.1))
    (omega (arith, ints, c.apart-3.ensures.small.0), omega (arith, ints, c.apart-3.ensures.small.1))

pub returns-clause-differences : goal.returns-clause-differences
returns-clause-differences c =
    each_number _
    (omega (arith, ints, c.apart.ensures.difference))
    (omega (arith, ints, c.apart-2.ensures.difference))
    (omega (arith, ints, c.apart-3.ensures.difference))
