-- The lines of a policy.
use Rattle.std.proofs.Common.{◌≡◌, ℕ, ◌++◌, [], codes, refl, subst}
use Rattle.std.specs.Prelude.{Option}
use Rattle.def_script.specs.Bytes.{Bytes}
use Rattle.def_tree.specs.Tree.{Tree}
use Rattle.def_policy.specs.Policy.{Policy}
use Rattle.def_policy.specs.Keys.{AreLeastKeys}
use Rattle.def_policy.specs.Print.{printed}
use Rattle.def_policy.specs.LeastKeys.{least_keys}
use Rattle.def_answer.specs.Lines.{line}
use Rattle.def_answer.specs.Policy.{policy_of, number_or_none, policy_report}
use Rattle.def_policy.proofs.LeastKeys.{least_keys_are_least, one_least}

-- the lines of a policy, one after the other
pub policy_lines_of : (tree : Tree) (shape : Policy) (least : Option ℕ) (text number none first all : Bytes) → shape ≡ policy_of tree
    → AreLeastKeys shape least → text ≡ printed shape → number ≡ number_or_none least → none ≡ []
    → first ≡ none ++ line (codes "policy " ++ text) → all ≡ first ++ line (codes "keys " ++ number) → all ≡ policy_report tree
unfolding policy_report
policy_lines_of tree shape least text number none first all is are_least is_text is_number e0 e1 e2 =
    let own : AreLeastKeys (policy_of tree) least = subst (λ p. AreLeastKeys p least) is are_least in
    let same : least ≡ least_keys (policy_of tree) = one_least (policy_of tree) least (least_keys (policy_of tree)) own (least_keys_are_least (policy_of tree)) in
    rw (e2, e1, e0, is_text, is_number, is, same) (refl {a = policy_report tree})
