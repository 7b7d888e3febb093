-- PSBTs, from their pairs, for the examples: keys, signatures and amounts are made up.
use Prim.Native.String.{String}
use Rattle.std.specs.Prelude.{ℕ, List, [], ◌∷◌, ◌++◌}
use Rattle.std.specs.List.{concat}
use Rattle.def_hash.specs.Hex.{from_hex}
use Rattle.def_script.specs.Bytes.{Bytes}
use Rattle.def_machine.specs.Samples.{key_a, key_b, key_c}
use Rattle.def_psbt.specs.Map.{pair_text}
use Rattle.def_psbt.specs.Examples.{unsigned_with}

abbrev pub pair : (key value : Bytes) → Bytes
pair key value = pair_text (record { key = key; value = value })

-- signatures of these hash types, and the pairs that they have with their keys
abbrev pub sig_a : (type : ℕ) → Bytes
sig_a type = from_hex "304402201a1a1a1a1a1a1a1a1a1a1a1a1a1a1a1a1a1a1a1a1a1a1a1a1a1a1a1a1a1a1a1a02202a2a2a2a2a2a2a2a2a2a2a2a2a2a2a2a2a2a2a2a2a2a2a2a2a2a2a2a2a2a2a2a" ++ type ∷ []

abbrev pub sig_b : (type : ℕ) → Bytes
sig_b type = from_hex "3045022100bbbbbbbbbbbbbbbbbbbbbbbbbbbbbbbbbbbbbbbbbbbbbbbbbbbbbbbbbbbbbbbb02202b2b2b2b2b2b2b2b2b2b2b2b2b2b2b2b2b2b2b2b2b2b2b2b2b2b2b2b2b2b2b2b" ++ type ∷ []

abbrev pub sig_c : (type : ℕ) → Bytes
sig_c type = from_hex "3043021f1c1c1c1c1c1c1c1c1c1c1c1c1c1c1c1c1c1c1c1c1c1c1c1c1c1c1c1c1c1c1c02202c2c2c2c2c2c2c2c2c2c2c2c2c2c2c2c2c2c2c2c2c2c2c2c2c2c2c2c2c2c2c2c" ++ type ∷ []

abbrev pub signed_a : (type : ℕ) → Bytes
signed_a type = pair (0x02 ∷ key_a) (sig_a type)

abbrev pub signed_b : (type : ℕ) → Bytes
signed_b type = pair (0x02 ∷ key_b) (sig_b type)

abbrev pub signed_c : (type : ℕ) → Bytes
signed_c type = pair (0x02 ∷ key_c) (sig_c type)

-- the hash type that is asked
abbrev pub asking : (type : ℕ) → Bytes
asking type = pair (0x03 ∷ []) (type ∷ 0 ∷ 0 ∷ 0 ∷ [])

-- a key with an empty path
abbrev pub derived : (key : Bytes) → Bytes
derived key = pair (0x06 ∷ key) (from_hex "00000000")

-- 100,000 satoshis to a program, and its witness script
abbrev pub spending : (program script : String) → Bytes
spending program script =
    pair (0x01 ∷ []) (from_hex "a086010000000000220020" ++ from_hex program) ++ pair (0x05 ∷ []) (from_hex script)

-- `multi(2,A,B,C)`
abbrev pub two_of_three : Bytes
two_of_three =
    spending "df533ab97795e72c2cf08989bf5d133f2063ff81fd3d927a43294f625571655b" "5221020101010101010101010101010101010101010101010101010101010101010101210279be667ef9dcbbac55a06295ce870b07029bfcdb2dce28d959f2815b16f817982103030303030303030303030303030303030303030303030303030303030303030353ae"

-- `or_d(pk(A),and_v(v:pkh(B),older(144)))`
abbrev pub later_key : Bytes
later_key =
    spending "40c4e29abc7498fa39fb4a9f7db49aa7f3c50c47d2f758fd70e51f1afc5aea65" "21020101010101010101010101010101010101010101010101010101010101010101ac736476a914751e76e8199196d454941c45d1b3a323f1433bd688ad029000b268"

-- `or_i(pk(A),and_v(v:pk(B),pk(C)))`
abbrev pub one_or_two : Bytes
one_or_two =
    spending "779bdcacc51da0cea963d19b86e8aec59d2f2149b2b124692802cc9c76c0db3f" "6321020101010101010101010101010101010101010101010101010101010101010101ac67210279be667ef9dcbbac55a06295ce870b07029bfcdb2dce28d959f2815b16f81798ad21030303030303030303030303030303030303030303030303030303030303030303ac68"

-- `or_d(pk(A),older(5))`, which needs no signature
abbrev pub key_or_lock : Bytes
key_or_lock =
    spending "0ede8c3c7ae45a02966db851b8cded2e244bd61c5d293992c2fab4a945d676c7" "21020101010101010101010101010101010101010101010101010101010101010101ac736455b268"

-- a PSBT of one input with this sequence number and this map, and of one output with an empty map
abbrev pub with_sequence : (sequence : String) → (pairs : List Bytes) → Bytes
with_sequence sequence pairs = unsigned_with sequence ++ concat pairs ++ 0x00 ∷ 0x00 ∷ []

abbrev pub with_map : (pairs : List Bytes) → Bytes
with_map pairs = with_sequence "feffffff" pairs

-- the second output of the same transaction, with a sequence number
abbrev pub second_with : (sequence : String) → (pairs : List Bytes) → Bytes
second_with sequence pairs =
    from_hex "70736274ff010052020000000105050505050505050505050505050505050505050505050505050505050505050100000000" ++ from_hex sequence
    ++ from_hex "01905f01000000000016001407070707070707070707070707070707070707070000000000" ++ concat pairs ++ 0x00 ∷ 0x00 ∷ []

-- an unknown pair
abbrev pub kept : Bytes
kept = pair (from_hex "406e6577") (from_hex "6b657074")

-- the final witness of `multi(2,A,B,C)` with the signatures of A and C
abbrev pub final_two_of_three : Bytes
final_two_of_three =
    pair (0x08 ∷ []) (from_hex "040047" ++ sig_a 1 ++ 0x46 ∷ sig_c 1 ++ from_hex "695221020101010101010101010101010101010101010101010101010101010101010101210279be667ef9dcbbac55a06295ce870b07029bfcdb2dce28d959f2815b16f817982103030303030303030303030303030303030303030303030303030303030303030353ae")

-- its spent output alone
abbrev pub spent_two_of_three : Bytes
spent_two_of_three = pair (0x01 ∷ []) (from_hex "a086010000000000220020df533ab97795e72c2cf08989bf5d133f2063ff81fd3d927a43294f625571655b")
