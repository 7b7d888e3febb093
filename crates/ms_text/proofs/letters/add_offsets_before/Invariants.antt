-- What the rest of a run adds.
use Rattle.std.proofs.Common.{◌≡◌, ◌+◌, drop}
use Rattle.ms_text.specs.Scaffolding.Runs.{offsets_before_run}
use Rattle.ms_text.proofs.letters.add_offsets_before.Given as goal

abbrev pub invariant-loop-byte : goal.invariant-loop-byte
invariant-loop-byte l = record {
  at : l.at ≡ l.name + l.byte-index;
  adds : offsets_before_run l.at (drop l.byte-index l.run) l.offsets.items ≡ offsets_before_run l.name l.run l.fn.offsets.items;
}
