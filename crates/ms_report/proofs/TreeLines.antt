-- The lines of a tree that passed.
use Rattle.std.proofs.Common.{◌≡◌, ◌++◌, [], Ok, codes, refl}
use Rattle.def_script.specs.Bytes.{Bytes}
use Rattle.def_tree.specs.Tree.{Tree}
use Rattle.def_types.specs.declared.CorrectnessType.{CorrectnessType}
use Rattle.def_types.specs.declared.MalleabilityProperties.{MalleabilityProperties}
use Rattle.def_types.specs.Correctness.{correctness_of}
use Rattle.def_types.specs.Malleable.{malleability_of as the_malleability_of}
use Rattle.def_types.specs.Typed.{type_of, properties_of}
use Rattle.def_types.proofs.Typing.{correctness_is_typed, malleability_is_typed}
use Rattle.def_sane.specs.declared.Rules.{Rules}
use Rattle.def_text.specs.Print.{printed}
use Rattle.def_emit.specs.Emit.{script_of}
use Rattle.def_answer.specs.Lines.{line, script_line, program_line, tree_limits_line}
use Rattle.def_answer.specs.Check.{type_letters, check_report}

-- the lines of a sane tree, one after the other
pub sane_lines : (rules : Rules) (t : Tree) (ty : CorrectnessType) (malleability_of : MalleabilityProperties) (text letters script limits none first second third all : Bytes)
    → correctness_of t ≡ Ok ty → the_malleability_of t ≡ Ok malleability_of
    → text ≡ printed t → letters ≡ type_letters ty malleability_of → script ≡ script_of t → limits ≡ tree_limits_line rules t
    → none ≡ [] → first ≡ none ++ line (codes "text " ++ text) → second ≡ first ++ line (codes "type " ++ letters)
    → third ≡ second ++ script_line script ++ program_line script → all ≡ third ++ limits → all ≡ check_report rules t
unfolding check_report
sane_lines rules t ty malleability_of text letters script limits none first second third all typed malleability_typed is_text is_letters is_script is_limits e0 e1 e2 e3 e4 =
    let is_type : ty ≡ type_of t = ((correctness_is_typed t ty).0 typed).1 in
    let is_malleability : malleability_of ≡ properties_of t = ((malleability_is_typed t malleability_of).0 malleability_typed).1 in
    rw (e4, e3, e2, e1, e0, is_text, is_letters, is_script, is_limits, is_type, is_malleability) (refl {a = check_report rules t})
