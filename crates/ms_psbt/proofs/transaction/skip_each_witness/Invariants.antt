use Rattle.std.proofs.Common.{◌≡◌, ◌-◌}
use Rattle.ms_psbt.specs.Scaffolding.Skips.{skips, witness_skip}
use Rattle.ms_psbt.proofs.transaction.skip_each_witness.Given as goal

abbrev pub invariant-loop : goal.invariant-loop
invariant-loop l = skips (witness_skip) (l.count - l.counter) l.rest ≡ skips (witness_skip) l.count l.bytes
