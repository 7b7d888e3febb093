-- The order of pairs, and a table's places in that order: what an index keeps.
use Rattle.std.specs.Prelude.{ℕ, List, length}
use Rattle.std.specs.Cmp.Lexicographic.{slice_cmp}
use Rattle.std.specs.List.{range_with_len}
use Rattle.std.specs.List.Sorted.{IsPermutation, IsSortedByKey}
use Rattle.std.specs.Ordering.{nat_cmp, ordering_then}
use Rattle.std.specs.declared.cmp.Ordering.{Ordering}
use Rattle.def_script.specs.Bytes.{Bytes}
use Rattle.def_machine.specs.Stacks.{Pairs}
use Rattle.ms_oracle.specs.Places.{pair_at}

-- pairs stand in the order of the bytes of their keys, and those of one key in the order of the bytes of their signatures
abbrev pub pair_cmp : (first second : Bytes × Bytes) → Ordering
pair_cmp first second = ordering_then (slice_cmp nat_cmp first.0 second.0) (slice_cmp nat_cmp first.1 second.1)

-- all places of a table, in the order of the pairs there
pub record IsIndex (table : Pairs) (order : List ℕ) : Type 0 where
  pub whole : IsPermutation (range_with_len 0 (length table)) order
  pub sorted : IsSortedByKey (pair_at table) pair_cmp order
