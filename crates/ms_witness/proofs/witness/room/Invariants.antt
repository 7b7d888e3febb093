use Rattle.std.proofs.Common.{◌+◌, ◌*◌, ◌≤◌, length, take}
use Rattle.std.specs.List.{flat_map}
use Rattle.def_script.specs.Witness.{sized}
use Rattle.ms_witness.specs.Reading.{MOST_WITNESS}
use Rattle.ms_witness.proofs.witness.room.Given as goal

abbrev pub invariant-loop-i : goal.invariant-loop-i
invariant-loop-i l = record {
  enough : length (flat_map sized (take l.i l.stack)) + (6 + length l.script) ≤ l.room;
  small : l.room ≤ (3 + MOST_WITNESS) * (l.i + 2);
}
