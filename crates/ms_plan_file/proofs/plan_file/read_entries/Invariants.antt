use Rattle.std.proofs.Common.{◌≡◌, not, map, drop, ◌++◌}
use Rattle.std.specs.List.{position_from}
use Rattle.serde_json.specs.View.{view}
use Rattle.def_files.specs.Parts.{key_of}
use Rattle.def_plan.specs.PlanFile.{is_hex_key, length_at}
use Rattle.ms_plan_file.proofs.plan_file.read_entries.Given as goal

abbrev pub invariant-loop-element : goal.invariant-loop-element
invariant-loop-element l = record {
  place : l.place ≡ l.element-index;
  refusal :
      position_from (λ e. not (is_hex_key e)) l.place (map view (drop l.element-index l.elements))
      ≡ position_from (λ e. not (is_hex_key e)) 0 (map view l.elements);
  entries :
      l.entries.items ++ map (λ e. (key_of e, length_at e)) (map view (drop l.element-index l.elements))
      ≡ map (λ e. (key_of e, length_at e)) (map view l.elements);
}
