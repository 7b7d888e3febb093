-- The steps so far, before those that are left.
use Rattle.std.proofs.Common.{◌≡◌, ◌≤◌, ◌-◌}
use Rattle.def_descriptor.specs.Steps.{read_steps}
use Rattle.ms_paths.specs.Places.{IsPlace, tokens_at}
use Rattle.ms_paths.proofs.Stepping.{before}
use Rattle.ms_paths.proofs.steps.read_steps.Given as goal

abbrev pub invariant-loop : goal.invariant-loop
invariant-loop l = record {
  place : IsPlace l.text l.end;
  after : l.at ≤ l.end;
  reads : read_steps 255 (tokens_at l.text l.at) ≡ before l.steps.items (read_steps (255 - l.counter) (tokens_at l.text l.end));
}
