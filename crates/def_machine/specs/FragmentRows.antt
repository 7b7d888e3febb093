-- Runs of whole miniscript expressions.
use Rattle.std.specs.Prelude.{◌≡◌, [], ◌∷◌, ◌++◌, replicate}
use Rattle.def_hash.specs.Hex.{from_hex}
use Rattle.def_machine.specs.declared.ScriptFault.TheVariants as fault
use Rattle.def_machine.specs.Run.{run, accepted, refused}
use Rattle.def_machine.specs.Samples.{key_a, key_b, key_c, sig_a, sig_b, sig_c, push_key, nothing, with_table, with_sequence}

-- `or_b(pk(A),s:pk(B))` with both signatures: a satisfaction that isn't canonical
abbrev pub BothOfOrB : Type 0
BothOfOrB = run (with_table ((key_a, sig_a) ∷ (key_b, sig_b) ∷ [])) (push_key key_a ++ from_hex "ac7c" ++ push_key key_b ++ from_hex "ac9b") (sig_b ∷ sig_a ∷ [])
    ≡ accepted 4 3 ((key_a, sig_a) ∷ (key_b, sig_b) ∷ [])

-- the same, with the signature of A for B
abbrev pub WrongSignatureInOrB : Type 0
WrongSignatureInOrB = run (with_table ((key_a, sig_a) ∷ [])) (push_key key_a ++ from_hex "ac7c" ++ push_key key_b ++ from_hex "ac9b") (sig_a ∷ sig_a ∷ [])
    ≡ refused fault.NullFail 4

-- `multi(2,A,B,C)` with the signatures of A and C; the pairs are found from the last key on
abbrev pub TwoOfThree : Type 0
TwoOfThree = run (with_table ((key_c, sig_c) ∷ (key_b, sig_b) ∷ (key_a, sig_a) ∷ [])) (from_hex "52" ++ push_key key_a ++ push_key key_b ++ push_key key_c ++ from_hex "53ae")
    ([] ∷ sig_a ∷ sig_c ∷ [])
    ≡ accepted 4 8 ((key_c, sig_c) ∷ (key_a, sig_a) ∷ [])

-- `or_d(pk(A),and_v(v:pkh(B),older(144)))` by B after 144 blocks
abbrev pub KeyHashAndLock : Type 0
KeyHashAndLock = run (with_sequence 144 ((key_b, sig_b) ∷ [])) (push_key key_a ++ from_hex "ac736476a914751e76e8199196d454941c45d1b3a323f1433bd688ad029000b268") (sig_b ∷ key_b ∷ [] ∷ [])
    ≡ accepted 9 4 ((key_b, sig_b) ∷ [])

-- the same one block before
abbrev pub KeyHashBeforeLock : Type 0
KeyHashBeforeLock = run (with_sequence 143 ((key_b, sig_b) ∷ [])) (push_key key_a ++ from_hex "ac736476a914751e76e8199196d454941c45d1b3a323f1433bd688ad029000b268") (sig_b ∷ key_b ∷ [] ∷ [])
    ≡ refused fault.UnmetLock 10

-- `thresh(1,sha256(Z),s:pk(A))` with the 32 zero bytes that hash to Z
abbrev pub PreimageOfZeros : Type 0
PreimageOfZeros = run nothing (from_hex "82012088a82066687aadf862bd776c8fc18b8e9f8e20089714856ee233b3902a591d0d5f2925877c" ++ push_key key_a ++ from_hex "ac935187") ([] ∷ replicate 32 0x00 ∷ [])
    ≡ accepted 8 4 []
