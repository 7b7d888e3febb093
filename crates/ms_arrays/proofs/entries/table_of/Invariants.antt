use Rattle.std.proofs.Common.{◌≡◌, ◌++◌, drop}
use Rattle.std.specs.Prelude.{All}
use Rattle.def_tree.specs.Range.{IsKey}
use Rattle.ms_arrays.proofs.entries.table_of.Given as goal

abbrev pub invariant-loop-entry : goal.invariant-loop-entry
invariant-loop-entry l = record {
  table : l.table.items ++ drop l.entry-index l.entries ≡ l.entries;
  keys : All (λ entry. IsKey entry.0) l.table.items;
}
