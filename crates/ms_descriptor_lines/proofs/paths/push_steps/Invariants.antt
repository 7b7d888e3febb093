-- The steps so far, and those that are left.
use Rattle.std.proofs.Common.{◌≡◌, ◌++◌, drop}
use Rattle.std.specs.Prelude.{flat_map}
use Rattle.def_descriptor_answer.specs.Lines.{step_text}
use Rattle.ms_descriptor_lines.proofs.paths.push_steps.Given as goal

abbrev pub invariant-loop-step : goal.invariant-loop-step
invariant-loop-step l = l.report.items ++ flat_map step_text (drop l.step-index l.steps) ≡ l.initial.report.items ++ flat_map step_text l.steps
