use Rattle.std.proofs.Common.{◌≡◌, map, drop}
use Rattle.std.specs.List.{list_all}
use Rattle.serde_json.specs.View.{view}
use Rattle.def_plan.specs.PlanFile.{is_estimate}
use Rattle.ms_plan_file.proofs.plan_file.are_estimates.Given as goal

abbrev pub invariant-loop-element : goal.invariant-loop-element
invariant-loop-element l = list_all is_estimate (map view (drop l.element-index l.elements)) ≡ list_all is_estimate (map view l.elements)
