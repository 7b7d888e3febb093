-- A tree that has a correctness type meets every requirement.
use Rattle.std.proofs.Common.{◌≡◌, Result, Ok, Err, IsOk, refl}
use Rattle.def_tree.specs.Tree.{Tree}
use Rattle.def_types.specs.declared.CorrectnessType.{CorrectnessType}
use Rattle.def_types.specs.declared.RuleAt.{RuleAt}
use Rattle.def_types.specs.Correctness.{correctness_of}
use Rattle.def_types.specs.Typed.{IsTyped}
use Rattle.def_types.proofs.Typing.{correctness_is_typed}

typed_by : (t : Tree) (r : Result CorrectnessType RuleAt) → correctness_of t ≡ r → IsOk r → IsTyped t
typed_by t (Ok ty) is ok = ((correctness_is_typed t ty).0 is).0
typed_by t (Err rule) is ok = absurd (let never : ⊥ = cc in never)

pub typed_of : (t : Tree) → IsOk (correctness_of t) → IsTyped t
typed_of t ok = typed_by t (correctness_of t) refl ok
