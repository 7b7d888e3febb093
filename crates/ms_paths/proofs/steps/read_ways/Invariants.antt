-- The steps so far, before those that are left.
use Rattle.std.proofs.Common.{◌≡◌, ◌≤◌, ◌-◌, false}
use Rattle.def_descriptor.specs.Steps.{read_ways}
use Rattle.ms_paths.specs.Places.{IsPlace, tokens_at}
use Rattle.ms_paths.specs.Paths.{ways_at}
use Rattle.ms_paths.proofs.Ways.{before}
use Rattle.ms_paths.proofs.steps.read_ways.Given as goal

abbrev pub invariant-loop : goal.invariant-loop
invariant-loop l = record {
  place : IsPlace l.text l.end;
  after : l.at ≤ l.end;
  reads : read_ways (255 - l.depth) l.fixed false (tokens_at l.text l.at)
      ≡ before (ways_at l.ways) (read_ways (255 - l.counter) l.fixed l.had (tokens_at l.text l.end));
}
