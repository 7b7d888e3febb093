-- The examples compute.
use Rattle.std.proofs.Common.{◌≡◌, true, false, refl}
use Rattle.def_hash.proofs.Computing.{decode_pairs, sha256, sha_words, sha_schedule, sha_rounds, sha_compress, sha_hash_after, sha_digest_bytes, ripemd160, ripemd_words, ripemd_step, left_line, right_line, combined, ripemd_compress, ripemd_hash_after, ripemd_digest_bytes, hash160}
use Rattle.def_tree.specs.Tree.{Tree, Key, just_1, older}
use Rattle.def_types.specs.Samples.{KEY_A, KEY_B, KEY_C, pk, v, and_v}
use Rattle.def_types.proofs.Rows.{correctness_rows}
use Rattle.def_decode.specs.Nested.{RightNested}
use Rattle.def_decode.specs.Examples.{behind_a, NestedOnes, OtherOnes, MovedScripts, MovedTypes, FirstOfTwo, NotListed}

-- `pk(K)` and `v:pk(K)`, whichever the key is
key : (k : Key) → RightNested (pk k)
key k = (refl, tt)

verified_key : (k : Key) → RightNested (v (pk k))
verified_key k = (refl, (refl, tt))

-- `and_v(v:pk(A),x)`
behind : (x : Tree) → RightNested x → RightNested (behind_a x)
behind x h = (refl, verified_key KEY_A, h)

pub nested_ones : NestedOnes
nested_ones =
    let chain : RightNested (and_v (v (pk KEY_B)) (pk KEY_C)) = (refl, verified_key KEY_B, key KEY_C) in
    let one : RightNested (behind_a just_1) = behind just_1 tt in
    let lock : RightNested (behind_a (older 144)) = behind (older 144) tt in
    (behind (and_v (v (pk KEY_B)) (pk KEY_C)) chain, (key KEY_B, lock), (one, key KEY_B), (key KEY_B, (one, tt)))

pub other_ones : OtherOnes
other_ones = (
  λ h. let e : true ≡ false = h.0 in cc,
  λ h. let e : true ≡ false = h.0 in cc,
  λ h. let e : true ≡ false = h.0 in cc,
  λ h. let e : true ≡ false = h.0 in cc,
  λ h. let e : true ≡ false = h.1.0 in cc,
)

pub moved_scripts : MovedScripts
moved_scripts = (refl, refl, refl, refl, refl)

pub moved_types : MovedTypes
unfolding correctness_rows
moved_types = (refl, refl, refl, refl, refl)

pub first_of_two : FirstOfTwo
unfolding decode_pairs sha256 sha_words sha_schedule sha_rounds sha_compress sha_hash_after sha_digest_bytes ripemd160 ripemd_words ripemd_step left_line
    right_line combined ripemd_compress ripemd_hash_after ripemd_digest_bytes hash160
first_of_two = refl

pub not_listed : NotListed
unfolding decode_pairs sha256 sha_words sha_schedule sha_rounds sha_compress sha_hash_after sha_digest_bytes ripemd160 ripemd_words ripemd_step left_line
    right_line combined ripemd_compress ripemd_hash_after ripemd_digest_bytes hash160
not_listed = refl
