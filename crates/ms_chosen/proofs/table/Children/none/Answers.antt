use Rattle.std.proofs.Common.{refl, arith}
use Rattle.ms_choice.specs.declared.children.Number.TheVariants.{First}
use Rattle.ms_chosen.proofs.table.Children.none.Goals as goal

pub returns-clause-few : goal.returns-clause-few
returns-clause-few c = λ slots. record {
  tally = c.new.ensures.fits slots;
  forced = omega arith;
  stuck = omega arith;
  free = omega arith;
  dsat = omega arith;
}

pub returns-clause-told : goal.returns-clause-told
returns-clause-told c = λ rule assets slots. record {
  tally = c.new.ensures.told First slots;
  free = record { forced = refl; stuck = refl; free = refl };
  dsat = refl;
}
