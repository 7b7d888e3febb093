use Rattle.std.proofs.Common.{◌≡◌, ◌+◌, ◌++◌, drop, take, map}
use Rattle.ms_mixing.specs.Scaffolding.Repeats.{entry, held_by}
use Rattle.ms_mixing.proofs.keys.copy_own.Given as goal

abbrev pub invariant-loop-key : goal.invariant-loop-key
invariant-loop-key l = record {
  copied : take l.passed.keys l.entries ++ map entry (held_by l.initial.passed.nodes (drop l.key-index l.own)) ≡ take l.initial.passed.keys l.initial.entries
      ++ map entry (held_by l.initial.passed.nodes l.own);
  nodes : l.passed.nodes ≡ l.initial.passed.nodes;
  keys : l.passed.keys ≡ l.initial.passed.keys + l.key-index;
}
