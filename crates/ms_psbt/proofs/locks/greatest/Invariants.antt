use Rattle.std.proofs.Common.{◌≡◌, ℕ, max, List}
use Rattle.def_psbt.specs.declared.PsbtVersion.TheVariants as version
use Rattle.def_psbt.specs.Fields.{greatest}
use Rattle.def_psbt.specs.Map.{Map}
use Rattle.def_psbt.specs.Reading.{input_rules}
use Rattle.ms_psbt.specs.Scaffolding.Maps.{InputsAt}
use Rattle.ms_psbt.proofs.Leaving.{Left}
use Rattle.ms_psbt.proofs.locks.greatest.Given as goal

abbrev pub invariant-loop-place : goal.invariant-loop-place
invariant-loop-place l = (at : ℕ) (inputs : List Map) → InputsAt l.psbt at l.places inputs
    → Left (input_rules version.Two) l.psbt l.places l.place-index (λ at maps. max l.most (greatest l.type_number maps) ≡ greatest l.type_number inputs)
