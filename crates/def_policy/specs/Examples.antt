-- Examples of policies.
use Rattle.std.specs.Prelude.{◌≡◌, ℕ, true, false, List, [], ◌∷◌, ◌++◌, codes}
use Rattle.hex.specs.Hex.{encode_lower}
use Rattle.def_hash.specs.declared.HashKind.TheVariants.{Sha256, Ripemd160}
use Rattle.def_machine.specs.Samples.{key_a, key_b, key_c}
use Rattle.def_tree.specs.Tree as tree
use Rattle.def_types.specs.Samples.{pk, and_v, and_b, or_b, or_c, or_d, or_i}
use Rattle.def_satisfaction.specs.Samples.{hash_1, hash_2, hash_3, pair_a, pair_b, pair_c, with_sequence, key_or_late_key, keys_or_lock, hashes_or_keys}
use Rattle.def_policy.specs.Policy.{Policy, never, always, key, older, after, hash, all, any, thresh, policies_of}
use Rattle.def_policy.specs.Plain.{plain}
use Rattle.def_policy.specs.Simple.{simple}
use Rattle.def_policy.specs.Truth.{facts_of, is_true}
use Rattle.def_policy.specs.Print.{printed}

abbrev pub all_of : List Policy → Policy
all_of parts = all (policies_of parts)

abbrev pub any_of : List Policy → Policy
any_of parts = any (policies_of parts)

abbrev pub thresh_of : ℕ → List Policy → Policy
thresh_of k parts = thresh k (policies_of parts)

-- `or_d(pk(A),and_v(v:pkh(B),older(144)))`
abbrev pub late_key : Policy
late_key = any_of (key key_a ∷ all_of (key key_b ∷ older 144 ∷ []) ∷ [])

abbrev pub LateKey : Type 0
LateKey = simple (plain key_or_late_key) ≡ late_key

-- `thresh(3,pk(A),s:pk(B),s:pk(C),sln:older(32))`: `l:X` is `or_i(0,X)`, and its Never goes
abbrev pub KeysOrLock : Type 0
KeysOrLock = simple (plain keys_or_lock) ≡ thresh_of 3 (key key_a ∷ key key_b ∷ key key_c ∷ older 32 ∷ [])

-- `thresh(2,j:and_v(v:sha256(h1),and_v(v:sha256(h2),and_v(v:sha256(h3),1))),s:pk(A),s:pk(B))`
abbrev pub HashesOrKeys : Type 0
HashesOrKeys =
    simple (plain hashes_or_keys) ≡
    thresh_of 2 (all_of (hash Sha256 hash_1 ∷ hash Sha256 hash_2 ∷ hash Sha256 hash_3 ∷ []) ∷ key key_a ∷ key key_b ∷ [])

-- `0`, `1`, and `andor(pk(A),pk(B),pk(C))`
abbrev pub Constants : Type 0
Constants = (simple (plain tree.just_0) ≡ never) × (simple (plain tree.just_1) ≡ always)

abbrev pub AndOr : Type 0
AndOr =
    simple (plain (tree.and_or (pk key_a) (pk key_b) (pk key_c))) ≡
    any_of (all_of (key key_a ∷ key key_b ∷ []) ∷ key key_c ∷ [])

-- the other fragments with two children
abbrev pub Pairs : Type 0
Pairs =
    let both = all_of (key key_a ∷ key key_b ∷ []) in
    let either = any_of (key key_a ∷ key key_b ∷ []) in
    (simple (plain (and_v (pk key_a) (pk key_b))) ≡ both) × (simple (plain (and_b (pk key_a) (pk key_b))) ≡ both) ×
    (simple (plain (or_b (pk key_a) (pk key_b))) ≡ either) × (simple (plain (or_c (pk key_a) (pk key_b))) ≡ either) ×
    (simple (plain (or_d (pk key_a) (pk key_b))) ≡ either) × (simple (plain (or_i (pk key_a) (pk key_b))) ≡ either)

-- so many of three keys: one is any of them, all are all of them
abbrev pub three_keys : List Policy
three_keys = key key_a ∷ key key_b ∷ key key_c ∷ []

abbrev pub of_three : ℕ → Policy
of_three k = simple (plain (tree.multi k (key_a ∷ key_b ∷ key_c ∷ [])))

abbrev pub Multi : Type 0
Multi = (of_three 1 ≡ any_of three_keys) × (of_three 2 ≡ thresh_of 2 three_keys) × (of_three 3 ≡ all_of three_keys)

-- a threshold loses what is always or never true, and then becomes what is left of it
abbrev pub Thresholds : Type 0
Thresholds =
    (simple (thresh_of 2 (always ∷ three_keys)) ≡ any_of three_keys) ×
    (simple (thresh_of 3 (always ∷ never ∷ three_keys)) ≡ thresh_of 2 three_keys) ×
    (simple (thresh_of 3 (never ∷ three_keys)) ≡ all_of three_keys) ×
    (simple (thresh_of 2 (always ∷ always ∷ three_keys)) ≡ always) ×
    (simple (thresh_of 1 (always ∷ always ∷ three_keys)) ≡ always) ×
    (simple (thresh_of 4 three_keys) ≡ never) ×
    (simple (thresh_of 1 (key key_a ∷ never ∷ [])) ≡ key key_a)

-- parts that are joined in the same way stand in the place of their policy, at any depth and behind a threshold
abbrev pub Joined : Type 0
Joined =
    (simple (all_of (key key_a ∷ all_of (key key_b ∷ all_of (always ∷ key key_c ∷ []) ∷ []) ∷ [])) ≡ all_of three_keys) ×
    (simple (thresh_of 1 (any_of (key key_a ∷ key key_b ∷ []) ∷ key key_c ∷ [])) ≡ any_of three_keys) ×
    (simple (any_of (thresh_of 1 (key key_a ∷ key key_b ∷ []) ∷ key key_c ∷ [])) ≡ any_of three_keys) ×
    (simple (any_of (key key_a ∷ always ∷ [])) ≡ always) × (simple (all_of (key key_a ∷ never ∷ [])) ≡ never) ×
    (simple (any_of []) ≡ never) × (simple (all_of []) ≡ always)

-- the late key is true by the key A, or by the key B once 144 blocks are gone
abbrev pub Truths : Type 0
Truths =
    (is_true (facts_of (with_sequence 0 (pair_a ∷ []))) late_key ≡ true) ×
    (is_true (facts_of (with_sequence 144 (pair_b ∷ []))) late_key ≡ true) ×
    (is_true (facts_of (with_sequence 143 (pair_b ∷ []))) late_key ≡ false) ×
    (is_true (facts_of (with_sequence 144 [])) late_key ≡ false)

-- two of three keys: one signature isn't enough
abbrev pub SoMany : Type 0
SoMany =
    (is_true (facts_of (with_sequence 0 (pair_a ∷ pair_c ∷ []))) (thresh_of 2 three_keys) ≡ true) ×
    (is_true (facts_of (with_sequence 0 (pair_a ∷ []))) (thresh_of 2 three_keys) ≡ false)

-- printed forms
abbrev pub Printed : Type 0
Printed =
    (printed never ≡ codes "never") × (printed always ≡ codes "always") ×
    (printed late_key ≡ codes "any(key(" ++ encode_lower key_a ++ codes "),all(key(" ++ encode_lower key_b ++ codes "),older(144)))") ×
    (printed (thresh_of 2 (older 1 ∷ after 20 ∷ never ∷ [])) ≡ codes "thresh(2,older(1),after(20),never)") ×
    (printed (hash Ripemd160 (0x0f ∷ 0xa0 ∷ [])) ≡ codes "ripemd160(0fa0)")
