use Rattle.std.proofs.Common.{◌≡◌, ◌++◌, drop, map}
use Rattle.ms_input.specs.Scaffolding.Lengths.{entry_of}
use Rattle.ms_input.proofs.asking.lengths.push_own.Given as goal

abbrev pub invariant-loop-key : goal.invariant-loop-key
invariant-loop-key l =
    l.entries.items ++ map (entry_of l.assets) (drop l.key-index l.own) ≡ l.initial.entries.items ++ map (entry_of l.assets) l.own
