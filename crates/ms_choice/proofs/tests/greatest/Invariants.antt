use Rattle.std.proofs.Common.{◌≡◌, ◌≤◌, List}
use Rattle.ms_choice.specs.declared.children.Costs.{Costs}
use Rattle.ms_choice.specs.declared.children.Number.{Number}
use Rattle.ms_choice.specs.Tally.{Fits, Tells}
use Rattle.ms_choice.proofs.tests.greatest.Given as goal

abbrev pub invariant-loop-sat : goal.invariant-loop-sat
invariant-loop-sat l = record {
  fits : Fits l.tally l.slots;
  told : (n : Number) → (cs : List Costs) × Tells n cs l.tally l.slots;
  free : l.tally.free ≤ l.sat-index;
  place : l.tally.place ≡ l.sat-index;
}
