use Rattle.std.proofs.Common.{◌≡◌, ◌-◌, ◌≤◌, ◌++◌, length}
use Rattle.def_psbt.specs.Reading.{maps_at}
use Rattle.ms_psbt.specs.Scaffolding.Kinds.{rules_of}
use Rattle.ms_psbt.specs.Scaffolding.Walks.{end_of, starts_from}
use Rattle.ms_psbt.proofs.maps.maps_end.Given as goal

abbrev pub invariant-loop : goal.invariant-loop
invariant-loop l =
    (l.at ≤ length l.psbt)
    × (end_of (maps_at (rules_of l.kind) l.psbt (l.count - l.counter) l.at) ≡ end_of (maps_at (rules_of l.kind) l.psbt l.count l.from))
    × (l.starts.items ++ starts_from (rules_of l.kind) l.psbt (l.count - l.counter) l.at ≡ l.initial.starts.items ++ starts_from (rules_of l.kind) l.psbt l.count l.from)
