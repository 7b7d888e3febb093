use Rattle.std.proofs.Common.{◌≡◌, ◌≤◌, take}
use Rattle.ms_choice.specs.declared.children.Number.TheVariants.{First}
use Rattle.ms_choice.specs.Tally.{Fits, Tells}
use Rattle.ms_chosen.specs.Scaffolding.Children.{lengths_of_keys}
use Rattle.ms_chosen.proofs.weigh.tally_of_keys.Given as goal

abbrev pub invariant-loop-key : goal.invariant-loop-key
invariant-loop-key l = record {
  fits : Fits l.tally l.slots;
  told : Tells First (lengths_of_keys l.assets (take l.key-index l.keys)) l.tally l.slots;
  free : l.tally.free ≤ l.key-index;
  place : l.tally.place ≡ l.key-index;
}
