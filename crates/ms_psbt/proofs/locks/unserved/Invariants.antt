use Rattle.std.proofs.Common.{◌≡◌, ℕ, false, List}
use Rattle.def_psbt.specs.declared.PsbtVersion.TheVariants as version
use Rattle.def_psbt.specs.Map.{Map}
use Rattle.def_psbt.specs.Reading.{input_rules, unserved_at}
use Rattle.ms_psbt.specs.Scaffolding.Maps.{InputsAt}
use Rattle.ms_psbt.proofs.Leaving.{Left}
use Rattle.ms_psbt.proofs.locks.unserved.Given as goal

abbrev pub invariant-loop-place : goal.invariant-loop-place
invariant-loop-place l = (start : ℕ) (inputs : List Map) → InputsAt l.psbt start l.places inputs
    → Left (input_rules version.Two) l.psbt l.places l.place-index (λ at maps. unserved_at l.time l.height at maps ≡ unserved_at false false start inputs)
