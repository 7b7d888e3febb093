use Rattle.std.proofs.Common.{◌≡◌, ◌++◌, drop}
use Rattle.std.specs.List.{flat_map}
use Rattle.std.specs.String.{string_bytes}
use Rattle.def_answer.specs.Audit.{step_line}
use Rattle.ms_report.proofs.audits.push_steps.Given as goal

-- the lines so far and those of the steps that are left
abbrev pub invariant-loop-step : goal.invariant-loop-step
invariant-loop-step l =
    string_bytes l.report ++ flat_map (step_line l.text.offsets.items) (drop l.step-index l.steps) ≡ string_bytes l.initial.report ++ flat_map (step_line l.text.offsets.items) l.steps
