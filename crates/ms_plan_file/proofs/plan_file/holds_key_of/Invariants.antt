use Rattle.std.proofs.Common.{◌≡◌, drop}
use Rattle.std.specs.List.{list_any}
use Rattle.std.specs.Str.{bytes_eq}
use Rattle.ms_plan_file.proofs.plan_file.holds_key_of.Given as goal

abbrev pub invariant-loop-entry : goal.invariant-loop-entry
invariant-loop-entry l = list_any (λ entry. bytes_eq l.wanted.0 entry.0) (drop l.entry-index l.table) ≡ list_any (λ entry. bytes_eq l.wanted.0 entry.0) l.table
