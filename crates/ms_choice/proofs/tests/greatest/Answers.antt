use Rattle.std.proofs.Common.{◌++◌, ◌∷◌, [], arith}
use Rattle.ms_choice.specs.Numbers.{costs_in}
use Rattle.ms_choice.proofs.tests.greatest.Goals as goal

pub loop-sat-preserved : goal.loop-sat-preserved
loop-sat-preserved c = record {
  fits = c.add.ensures.fits;
  told = λ n.
      let told = c.loop-sat.invariant.told n in
      (told.0 ++ costs_in n (record { sat = c.numbers.result; dsat = c.numbers-in-loop-sat.result }) ∷ [], c.add.ensures.told n told.0 told.1);
  free = omega (arith, c.add.ensures.free, c.loop-sat.invariant.free);
  place = omega (arith, c.add.ensures.place, c.loop-sat.invariant.place);
}
