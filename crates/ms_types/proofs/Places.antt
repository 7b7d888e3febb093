-- A requirement that is false is one of a node of the tree.
use Rattle.std.proofs.Common.{◌≡◌, ◌<◌, IfErr, sym, Result, Ok, Err, arith}
use Rattle.std.proofs.lemmas.Option.{slice_get_within}
use Rattle.def_tree.specs.Tree.{Tree}
use Rattle.def_tree.specs.Size.{nodes}
use Rattle.def_tree.specs.Nodes.{all_nodes}
use Rattle.def_tree.proofs.NodeLists.{nodes_are_all}
use Rattle.def_types.specs.declared.rule.RuleAt.{RuleAt}
use Rattle.def_types.specs.Row.{Rows}
use Rattle.def_types.specs.System.{typed_from}
use Rattle.def_types.proofs.Typing.{refused_is_first}

pub refused_within : {A : Type 0} (rows : Rows A) (t : Tree) (r : Result A RuleAt) → r ≡ typed_from rows 0 t → IfErr r (λ at. at.node < nodes t)
refused_within rows t (Ok value) is = tt
refused_within rows t (Err at) is =
    let first = (refused_is_first rows t at).0 (sym is) in
    omega (arith, slice_get_within (all_nodes t) at.node first.node first.is_node, nodes_are_all t)
