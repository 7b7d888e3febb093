use Rattle.std.proofs.Common.{◌≡◌, ◌-◌, ◌≤◌, length, ◌++◌, option_map}
use Rattle.ms_psbt.specs.declared.repeats.Keys.TheVariants as keys
use Rattle.ms_psbt.specs.Scaffolding.Outpoints.{empties}
use Rattle.ms_psbt.specs.Scaffolding.Repeats.{AreMarked, places_of}
use Rattle.ms_psbt.proofs.transaction.empty_inputs.Given as goal

abbrev pub invariant-loop : goal.invariant-loop
invariant-loop l =
    (l.at ≤ length l.bytes)
    × (option_map (λ places. places_of l.places.items ++ places) (empties l.bytes (l.count - l.counter) l.at) ≡ empties l.bytes l.count l.from)
    × AreMarked keys.Outpoints l.bytes l.places.items
