-- What is reckoned of some miniscripts.
use Rattle.std.specs.Prelude.{◌≡◌, [], ◌∷◌}
use Rattle.def_hash.specs.declared.HashKind.TheVariants.{Sha256}
use Rattle.def_ways.specs.Secret.{key, preimage}
use Rattle.def_ways.specs.Examples.{a, b, hash_value, free, hash_value_twice, hash_value_first}
use Rattle.def_ways.specs.Enough.{policy_of}
use Rattle.def_ways.specs.Tried.{ways}
use Rattle.ms_way_laws.specs.Reckoned.{settled_to_count, settled_to_list, reckoned, total}

-- `and_v(or_c(pk(A),v:sha256(H)),andor(pk(B),sha256(H),and_v(v:pk(C),older(7))))`: the hash value is settled, as it stands twice
abbrev pub Twice : Type 0
Twice =
    (settled_to_count hash_value_twice ≡ preimage Sha256 hash_value ∷ []) ×
    (settled_to_list hash_value_twice ≡ preimage Sha256 hash_value ∷ []) ×
    (reckoned hash_value_twice (preimage Sha256 hash_value ∷ []) ≡ ways hash_value_twice)

-- `or_i(and_v(v:sha256(H),0),or_i(pk(A),and_v(v:pk(B),sha256(H))))`: it stands once in the policy, and is settled for the list
-- alone; without that the way of A comes first
abbrev pub First : Type 0
First =
    (settled_to_count hash_value_first ≡ []) ×
    (settled_to_list hash_value_first ≡ preimage Sha256 hash_value ∷ []) ×
    (total (policy_of hash_value_first) [] ≡ 2) ×
    (reckoned hash_value_first [] ≡ free (key a ∷ []) ∷ free (preimage Sha256 hash_value ∷ key b ∷ []) ∷ []) ×
    (reckoned hash_value_first (preimage Sha256 hash_value ∷ []) ≡ ways hash_value_first)
