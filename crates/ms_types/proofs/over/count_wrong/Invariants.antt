-- What is left to be counted makes the whole.
use Rattle.std.proofs.Common.{◌≡◌, ◌+◌, ◌≤◌, drop}
use Rattle.ms_types.specs.Replaced.{wrongs}
use Rattle.ms_types.proofs.over.count_wrong.Given as goal

abbrev pub invariant-loop-place : goal.invariant-loop-place
invariant-loop-place l = record {
  few : l.wrong ≤ l.place;
  counted : l.wrong + wrongs l.place (drop l.place l.children) ≡ wrongs 0 l.children;
}
