-- A correctness type by what it has.
use Rattle.std.specs.Prelude.{false}
use Rattle.def_types.specs.declared.Base.{Base}
use Rattle.def_types.specs.declared.CorrectnessType.{CorrectnessType}

-- a base type with no property
abbrev pub bare : Base → CorrectnessType
bare base = record { base = base; z = false; o = false; n = false; d = false; u = false }
