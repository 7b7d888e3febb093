use Rattle.std.proofs.Common.{◌≡◌, not, drop, ◌++◌}
use Rattle.std.specs.List.{position_from}
use Rattle.def_script.specs.Key.{is_key}
use Rattle.ms_plan_file.proofs.plan_file.read_keys.Given as goal

abbrev pub invariant-loop-entry : goal.invariant-loop-entry
invariant-loop-entry l = record {
  place : l.place ≡ l.entry-index;
  refusal :
      position_from (λ entry. not (is_key entry.0)) l.place (drop l.entry-index l.entries)
      ≡ position_from (λ entry. not (is_key entry.0)) 0 l.entries;
  keyed : l.keyed.items ++ drop l.entry-index l.entries ≡ l.entries;
}
