-- The places of a table of pairs.
use Rattle.std.specs.Prelude.{ℕ, [], slice_index_or}
use Rattle.def_script.specs.Bytes.{Bytes}
use Rattle.def_machine.specs.Stacks.{Pairs}

-- the pair at a place of a table, counted from 0; past its end that of two empty strings
abbrev pub pair_at : Pairs → ℕ → Bytes × Bytes
pair_at table place = slice_index_or table place ([], [])
