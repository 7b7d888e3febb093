use Rattle.std.proofs.Common.{◌≡◌, ◌-◌}
use Rattle.std.specs.Prelude.{slice_get}
use Rattle.ms_transaction.proofs.transaction.nth_output.Given as goal

abbrev pub invariant-outputs : goal.invariant-outputs
invariant-outputs l = slice_get l.left (l.number - l.counter) ≡ slice_get l.fn.outputs l.number
