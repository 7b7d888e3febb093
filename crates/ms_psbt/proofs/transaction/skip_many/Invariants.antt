use Rattle.std.proofs.Common.{◌≡◌, ◌-◌}
use Rattle.ms_psbt.specs.Scaffolding.Skips.{skip_of, skips}
use Rattle.ms_psbt.proofs.transaction.skip_many.Given as goal

abbrev pub invariant-loop : goal.invariant-loop
invariant-loop l = skips (skip_of l.kind) (l.count - l.counter) l.rest ≡ skips (skip_of l.kind) l.count l.bytes
