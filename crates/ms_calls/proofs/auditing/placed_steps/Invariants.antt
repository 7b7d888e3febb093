use Rattle.std.proofs.Common.{◌≡◌, ◌++◌, drop, map}
use Rattle.ms_calls.specs.Audited.{placed}
use Rattle.ms_calls.proofs.auditing.placed_steps.Given as goal

abbrev pub invariant-loop-step : goal.invariant-loop-step
invariant-loop-step l =
    l.found.items ++ map (placed l.text.offsets.items) (drop l.step-index l.steps) ≡ map (placed l.text.offsets.items) l.steps
