-- Which offers are enough: those with which the policy is true. Where it is, a canonical satisfaction exists (Laws).
use Rattle.std.specs.Prelude.{Bool, List}
use Rattle.def_machine.specs.declared.Locks.{Locks}
use Rattle.def_machine.specs.Locks.{older_holds, after_holds}
use Rattle.def_tree.specs.Tree.{Tree}
use Rattle.def_policy.specs.Policy.{Policy}
use Rattle.def_policy.specs.Plain.{plain}
use Rattle.def_policy.specs.Simple.{simple}
use Rattle.def_policy.specs.Truth.{Facts, is_true}
use Rattle.def_ways.specs.Secret.{Secret, key, preimage}
use Rattle.def_ways.specs.Offer.{Offer, numbers_of, has}

-- the policy of a tree, made simple
abbrev pub policy_of : Tree → Policy
policy_of tree = simple (plain tree)

-- these keys sign, these preimages are known, and locks are met by these numbers (BIP 65, BIP 112)
abbrev pub facts_with : List Secret → Locks → Facts
facts_with held locks = record {
  signs = λ k. has held (key k);
  older = λ n. older_holds n locks;
  after = λ n. after_holds n locks;
  knows = λ kind value. has held (preimage kind value);
}

abbrev pub meets : Policy → Offer → Bool
meets policy offer = is_true (facts_with offer.secrets (numbers_of offer)) policy

abbrev pub enough : Tree → Offer → Bool
enough tree offer = meets (policy_of tree) offer
