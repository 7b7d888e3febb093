use Rattle.std.proofs.Common.{◌≡◌, take, All}
use Rattle.def_tree.specs.Range.{IsKey}
use Rattle.ms_reading.specs.Scaffolding.Keys.{keys_of}
use Rattle.ms_reading.proofs.found.hash_keys.Given as goal

abbrev pub invariant-loop-key : goal.invariant-loop-key
invariant-loop-key l = record {
  same : keys_of l.hashed.items ≡ take l.key-index l.keys;
  are_keys : All IsKey (keys_of l.hashed.items);
}
