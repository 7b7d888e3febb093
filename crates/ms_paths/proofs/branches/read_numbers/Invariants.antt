-- The numbers so far, behind which those that are left are read.
use Rattle.std.proofs.Common.{◌≡◌, ◌≤◌, ◌-◌, []}
use Rattle.def_descriptor.specs.Steps.{read_numbers}
use Rattle.ms_paths.specs.Places.{IsPlace, tokens_at}
use Rattle.ms_paths.proofs.branches.read_numbers.Given as goal

abbrev pub invariant-loop : goal.invariant-loop
invariant-loop l = record {
  place : IsPlace l.text l.place;
  after : l.at ≤ l.place;
  reads : read_numbers 16 [] (tokens_at l.text l.at) ≡ read_numbers (16 - l.counter) l.numbers.items (tokens_at l.text l.place);
}
