-- The letters hold of each node of a valid miniscript.
use Rattle.std.proofs.Common.{◌≡◌, refl, sym, subst, Contains, Ok}
use Rattle.def_tree.specs.Tree.{Tree}
use Rattle.def_tree.specs.Range.{IsWritable}
use Rattle.def_types.specs.declared.MalleabilityProperties.{MalleabilityProperties}
use Rattle.def_types.specs.Malleable.{malleability_of}
use Rattle.def_types.specs.Typed.{type_of, IsTyped}
use Rattle.def_types.proofs.Typing.{correctness_is_typed, malleability_is_typed}
use Rattle.def_tree.specs.Nodes.{all_nodes}
use Rattle.def_promises.specs.Letters.{TypeLetters, MalleabilityLetters, LettersHold}
use Rattle.ms_row_laws.proofs.ConsensusLimits.{IsWithinConsensus, valid_consensus, few_children}
use Rattle.ms_letter_laws.proofs.InheritedByNodes.{node_is_writable, node_is_typed, node_is_few}
use Rattle.ms_letter_laws.proofs.LettersZonu.{zero_arg, one_arg, non_zero, unit_value}
use Rattle.ms_letter_laws.proofs.LettersDsfe.{dissatisfiable, signed, forced, expressive}

module _ (tree : Tree) (writable : IsWritable tree) (consensus : IsWithinConsensus tree) where
  typed : (node : Tree) → Contains (all_nodes tree) node → IsTyped node
  typed = node_is_typed tree consensus.typed

  type_letters : (node : Tree) → Contains (all_nodes tree) node → TypeLetters node (type_of node)
  type_letters node is =
      let can_write = node_is_writable tree writable node is in
      let has_type = typed node is in
      record {
        zero_arg = zero_arg node;
        one_arg = one_arg node has_type;
        non_zero = non_zero node has_type;
        dissatisfiable = dissatisfiable node can_write has_type;
        unit = unit_value node can_write has_type (node_is_few tree (few_children tree consensus) node is);
      }

  malleability_letters : (node : Tree) (properties : MalleabilityProperties) → Contains (all_nodes tree) node → malleability_of node ≡ Ok properties → MalleabilityLetters node properties
  malleability_letters node properties is e =
      let has_type = typed node is in
      let known = (malleability_is_typed node properties).0 e in
      subst (MalleabilityLetters node) (sym known.1) (record {
        signed = signed node has_type;
        forced = forced node has_type;
        expressive = expressive node (node_is_writable tree writable node is) has_type known.0;
      })

pub letters_of : LettersHold
letters_of tree writable valid = record {
  types = λ node is. (
    type_of node,
    (correctness_is_typed node (type_of node)).1 (typed tree writable (valid_consensus tree valid) node is, refl),
    type_letters tree writable (valid_consensus tree valid) node is,
  );
  properties = malleability_letters tree writable (valid_consensus tree valid);
}
