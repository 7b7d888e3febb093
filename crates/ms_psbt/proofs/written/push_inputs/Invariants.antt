use Rattle.std.proofs.Common.{◌≡◌, ℕ, List, ◌++◌, ◌||◌, map}
use Rattle.std.specs.List.{flat_map, list_any}
use Rattle.def_psbt.specs.declared.PsbtVersion.TheVariants as version
use Rattle.def_psbt.specs.Fields.{input_of, has_lock}
use Rattle.def_psbt.specs.Map.{Map}
use Rattle.def_psbt.specs.Reading.{input_rules}
use Rattle.def_psbt.specs.Transaction.{input_text}
use Rattle.ms_psbt.specs.Scaffolding.Maps.{InputsAt}
use Rattle.ms_psbt.proofs.Leaving.{Left}
use Rattle.ms_psbt.proofs.written.push_inputs.Given as goal

abbrev pub invariant-loop-place : goal.invariant-loop-place
invariant-loop-place l = (at : ℕ) (maps : List Map) → InputsAt l.psbt at l.places maps
    → Left (input_rules version.Two) l.psbt l.places l.place-index
    (λ at rest. (l.out.items ++ flat_map input_text (map input_of rest) ≡ l.initial.out.items ++ flat_map input_text (map input_of maps))
    × ((l.is_locked || list_any has_lock rest) ≡ list_any has_lock maps))
