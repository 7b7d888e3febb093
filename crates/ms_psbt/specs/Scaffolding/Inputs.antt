-- What the code keeps of an input's map. No public clause cites it, so it need not be believed.
use Rattle.std.specs.Prelude.{◌≡◌}
use Rattle.def_psbt.specs.Fields.{has_lock}
use Rattle.def_psbt.specs.Map.{Map, value_of_type}
use Rattle.ms_psbt.specs.Seen.{IsPart}
use Rattle.ms_psbt.specs.declared.inputs.InputFields.{InputFields}

-- what is kept is what the map says
abbrev pub AreFieldsOf : InputFields → Map → Type 0
AreFieldsOf fields map = IsPart (λ value. value.now) fields.id (value_of_type 0x0e map) × IsPart (λ value. value.now) fields.index (value_of_type 0x0f map)
    × IsPart (λ value. value.now) fields.sequence (value_of_type 0x10 map) × (fields.is_locked ≡ has_lock map)
