use Rattle.std.proofs.Common.{◌≡◌, ℕ, List, ◌++◌, map}
use Rattle.std.specs.List.{flat_map}
use Rattle.def_psbt.specs.declared.PsbtVersion.TheVariants as version
use Rattle.def_psbt.specs.Fields.{output_of}
use Rattle.def_psbt.specs.Map.{Map}
use Rattle.def_psbt.specs.Reading.{output_rules}
use Rattle.def_psbt.specs.Transaction.{output_text}
use Rattle.ms_psbt.specs.Scaffolding.Maps.{OutputsAt}
use Rattle.ms_psbt.proofs.Leaving.{Left}
use Rattle.ms_psbt.proofs.written.push_outputs.Given as goal

abbrev pub invariant-loop-place : goal.invariant-loop-place
invariant-loop-place l = (at : ℕ) (maps : List Map) → OutputsAt l.psbt at l.places maps
    → Left (output_rules version.Two) l.psbt l.places l.place-index
    (λ at rest. l.out.items ++ flat_map output_text (map output_of rest) ≡ l.initial.out.items ++ flat_map output_text (map output_of maps))
