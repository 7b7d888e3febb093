-- The report of `check`.
use Rattle.std.specs.Prelude.{Bool, [], ◌++◌, codes, if◌then◌else◌}
use Rattle.def_script.specs.Bytes.{Bytes}
use Rattle.def_tree.specs.Tree.{Tree}
use Rattle.def_text.specs.Print.{printed}
use Rattle.def_types.specs.declared.Base.{Base}
use Rattle.def_types.specs.declared.Base.TheVariants as base
use Rattle.def_types.specs.declared.CorrectnessType.{CorrectnessType}
use Rattle.def_types.specs.declared.MalleabilityProperties.{MalleabilityProperties}
use Rattle.def_types.specs.Typed.{type_of, properties_of}
use Rattle.def_emit.specs.Emit.{script_of}
use Rattle.def_sane.specs.declared.Rules.{Rules}
use Rattle.def_answer.specs.Lines.{line, script_line, program_line, tree_limits_line}

abbrev pub base_letter : Base → Bytes
base_letter base.B = codes "B"
base_letter base.V = codes "V"
base_letter base.K = codes "K"
base_letter base.W = codes "W"

-- a property's letter, where the property holds
abbrev pub letter : (holds : Bool) → Bytes → Bytes
letter holds name = if holds then name else []

-- the base type, and then the letters of the properties that hold
abbrev pub type_letters : CorrectnessType → MalleabilityProperties → Bytes
type_letters ty malleability_of =
    base_letter ty.base ++ letter ty.z (codes "z") ++ letter ty.o (codes "o") ++ letter ty.n (codes "n")
    ++ letter ty.d (codes "d")
    ++ letter ty.u (codes "u") ++ letter malleability_of.s (codes "s") ++ letter malleability_of.f (codes "f") ++ letter malleability_of.e (codes "e")

unfoldable pub check_report : Rules → Tree → Bytes
check_report rules tree =
    line (codes "text " ++ printed tree)
    ++ line (codes "type " ++ type_letters (type_of tree) (properties_of tree))
    ++ script_line (script_of tree)
    ++ program_line (script_of tree)
    ++ tree_limits_line rules tree
