-- Derivations of some miniscripts, the stacks bottom first. Each row that isn't canonical is there once.
use Rattle.std.specs.Prelude.{◌≡◌, ◌≢◌, ℕ, IsTrue, true, false, [], ◌∷◌}
use Rattle.def_hash.specs.Hash.{hash160}
use Rattle.def_machine.specs.Samples.{key_a, key_b, key_c, sig_a, sig_b}
use Rattle.def_script.specs.Key.{is_key}
use Rattle.def_machine.specs.Machine.{Given}
use Rattle.def_tree.specs.Tree.{Key, pk_h, and_or, thresh}
use Rattle.def_types.specs.Samples.{pk, pkh, sha256, s, v, j, and_v, and_b, trees}
use Rattle.def_satisfaction.specs.Rows.{EMPTY}
use Rattle.def_satisfaction.specs.Samples.{pair_a, pair_b, with_preimages, key_or_key, hash_1, preimage_2}
use Rattle.def_satisfaction.specs.Satisfaction.{given_of}
use Rattle.def_audit.specs.declared.Step.{Step}
use Rattle.def_audit.specs.Derives.{Derives}

-- a node's step: satisfied or dissatisfied by a canonical row, and by another one
abbrev pub sat : ℕ → Step
sat node = record { node = node; sat = true; extra = false }

abbrev pub dsat : ℕ → Step
dsat node = record { node = node; sat = false; extra = false }

abbrev pub extra_sat : ℕ → Step
extra_sat node = record { node = node; sat = true; extra = true }

abbrev pub extra_dsat : ℕ → Step
extra_dsat node = record { node = node; sat = false; extra = true }

-- with a signature of the key A, and of B too
abbrev pub given_a : Given
given_a = given_of (with_preimages [] (pair_a ∷ []))

abbrev pub given_both : Given
given_both = given_of (with_preimages [] (pair_a ∷ pair_b ∷ []))

-- `or_b(pk(A),s:pk(B))` by both signatures, and by that of A
abbrev pub BothKeys : Type 0
BothKeys =
    Derives key_or_key given_both true (sat 0 ∷ sat 1 ∷ sat 2 ∷ sat 3 ∷ sat 4 ∷ extra_sat 5 ∷ []) (sig_b ∷ sig_a ∷ [])

abbrev pub OneKey : Type 0
OneKey =
    Derives key_or_key given_a true (sat 0 ∷ sat 1 ∷ dsat 2 ∷ dsat 3 ∷ dsat 4 ∷ sat 5 ∷ []) (EMPTY ∷ sig_a ∷ [])

-- `andor(pk(A),pk(B),pk(C))`, where A signs and B doesn't
abbrev pub AndOrIsExtra : Type 0
AndOrIsExtra =
    Derives (and_or (pk key_a) (pk key_b) (pk key_c)) given_a false
    (sat 0 ∷ sat 1 ∷ dsat 2 ∷ dsat 3 ∷ extra_dsat 6 ∷ []) (EMPTY ∷ sig_a ∷ [])

-- `and_v(v:pk(A),pk(B))`
abbrev pub AndVIsExtra : Type 0
AndVIsExtra =
    Derives (and_v (v (pk key_a)) (pk key_b)) given_a false
    (sat 0 ∷ sat 1 ∷ sat 2 ∷ dsat 3 ∷ dsat 4 ∷ extra_dsat 5 ∷ []) (EMPTY ∷ sig_a ∷ [])

-- `and_b(pk(A),s:pk(B))`
abbrev pub AndBIsExtra : Type 0
AndBIsExtra =
    Derives (and_b (pk key_a) (s (pk key_b))) given_a false
    (sat 0 ∷ sat 1 ∷ dsat 2 ∷ dsat 3 ∷ dsat 4 ∷ extra_dsat 5 ∷ []) (EMPTY ∷ sig_a ∷ [])

-- `thresh(1,pk(A),s:pk(B))`, where both sign
abbrev pub ThreshIsExtra : Type 0
ThreshIsExtra =
    Derives (thresh 1 (trees (pk key_a ∷ s (pk key_b) ∷ []))) given_both false
    (sat 0 ∷ sat 1 ∷ sat 2 ∷ sat 3 ∷ sat 4 ∷ extra_dsat 5 ∷ []) (sig_b ∷ sig_a ∷ [])

-- `j:pkh(A)`, by the key without a signature
abbrev pub JIsExtra : Type 0
JIsExtra = Derives (j (pkh key_a)) given_a false (dsat 0 ∷ dsat 1 ∷ extra_dsat 2 ∷ []) (EMPTY ∷ key_a ∷ [])

-- `sha256(h1)`, by 32 bytes that neither are the preimage nor all zero
abbrev pub HashIsExtra : Type 0
HashIsExtra = Derives (sha256 hash_1) given_a false (extra_dsat 0 ∷ []) (preimage_2 ∷ [])

-- `pk_h(A)`, by another key with the same hash
abbrev pub OtherKeyIsExtra : Type 0
OtherKeyIsExtra =
    (other : Key) → IsTrue (is_key other) → hash160 other ≡ hash160 key_a → other ≢ key_a →
    Derives (pk_h key_a) given_a false (extra_dsat 0 ∷ []) (EMPTY ∷ other ∷ [])
