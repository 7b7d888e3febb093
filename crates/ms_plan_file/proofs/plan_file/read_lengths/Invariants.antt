use Rattle.std.proofs.Common.{◌≡◌, not, drop, ◌++◌}
use Rattle.std.specs.List.{position_from}
use Rattle.def_script.specs.Signature.{is_signature_size}
use Rattle.ms_plan_file.proofs.plan_file.read_lengths.Given as goal

abbrev pub invariant-loop-entry : goal.invariant-loop-entry
invariant-loop-entry l = record {
  place : l.place ≡ l.entry-index;
  refusal :
      position_from (λ entry. not (is_signature_size entry.1)) l.place (drop l.entry-index l.keyed)
      ≡ position_from (λ entry. not (is_signature_size entry.1)) 0 l.keyed;
  entries : l.entries.items ++ drop l.entry-index l.keyed ≡ l.keyed;
}
