use Rattle.std.proofs.Common.{◌≡◌, ◌++◌, drop}
use Rattle.def_spend.specs.Asking.{unsigned_keys}
use Rattle.ms_input.proofs.asking.unsigned_keys.Given as goal

abbrev pub invariant-loop-key : goal.invariant-loop-key
invariant-loop-key l = l.unsigned.items ++ unsigned_keys l.assets (drop l.key-index l.keys) ≡ unsigned_keys l.assets l.keys
