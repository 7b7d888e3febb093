-- What a sane tree demands, of what was found of its policy.
use Rattle.std.proofs.Common.{◌≡◌, ℕ, refl, subst}
use Rattle.std.specs.Prelude.{Option}
use Rattle.def_script.specs.Bytes.{Bytes}
use Rattle.def_tree.specs.Tree.{Tree}
use Rattle.def_policy.specs.Policy.{Policy}
use Rattle.def_policy.specs.Keys.{AreLeastKeys}
use Rattle.def_policy.specs.Print.{printed}
use Rattle.def_policy.specs.LeastKeys.{least_keys}
use Rattle.def_answer.specs.Policy.{policy_of}
use Rattle.def_policy.proofs.LeastKeys.{least_keys_are_least, one_least}
use Rattle.ms_calls.specs.Demanded.{Demanded, number_of_keys, demanded}

pub demanded_of : (tree : Tree) (shape : Policy) (least : Option ℕ) (text : Bytes) (number : ℕ) → shape ≡ policy_of tree
    → AreLeastKeys shape least → text ≡ printed shape → number ≡ number_of_keys least
    → ◌≡◌ {A = Demanded} (record { text = text; keys = number }) (demanded tree)
demanded_of tree shape least text number is are_least is_text is_number =
    let own : AreLeastKeys (policy_of tree) least = subst (λ p. AreLeastKeys p least) is are_least in
    let same : least ≡ least_keys (policy_of tree) = one_least (policy_of tree) least (least_keys (policy_of tree)) own (least_keys_are_least (policy_of tree)) in
    rw (is_text, is_number, is, same) (refl {a = demanded tree})
