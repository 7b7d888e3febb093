use Rattle.std.proofs.Common.{◌≡◌, ◌≤◌, List}
use Rattle.ms_choice.specs.declared.children.Costs.{Costs}
use Rattle.ms_choice.specs.declared.children.Number.TheVariants.{First}
use Rattle.ms_choice.specs.Tally.{Fits, Tells}
use Rattle.ms_choice.proofs.tests.lightest.Given as goal

abbrev pub invariant-loop-weights : goal.invariant-loop-weights
invariant-loop-weights l = record {
  fits : Fits l.tally l.slots;
  told : (cs : List Costs) × Tells First cs l.tally l.slots;
  free : l.tally.free ≤ l.weights-index;
  place : l.tally.place ≡ l.weights-index;
}
