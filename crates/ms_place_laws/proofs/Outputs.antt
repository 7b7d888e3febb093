-- The outputs of descriptors consist of bytes, so their addresses give them back.
use Rattle.std.proofs.Common.{◌≡◌, inl, inr, ℕ, zero, suc, ◌<◌, Bool, true, false, [], ◌∷◌, ◌++◌, sym, subst, arith, Some}
use Rattle.def_hash.specs.Hash.{sha256, hash160}
use Rattle.def_hash.specs.declared.HashKind.TheVariants as hash_kind
use Rattle.def_hash.proofs.Lengths.{sha256-IsBytes, digest_has_bytes}
use Rattle.def_script.specs.Bytes.{Bytes, IsBytes}
use Rattle.def_address.specs.declared.Network.{Network}
use Rattle.def_address.specs.Address.{address_of, script_at}
use Rattle.def_address.proofs.Addresses.{address_gives_output, address_is_of_one_output}
use Rattle.def_emit.specs.Emit.{script_of}
use Rattle.def_descriptor.specs.Gives.{output_of}
use Rattle.ms_place_laws.specs.Points.{IsProgram}

bytes_cons : (b : ℕ) (bytes : Bytes) → b < 256 → IsBytes bytes → IsBytes (b ∷ bytes)
bytes_cons b bytes h rest zero = h
bytes_cons b bytes h rest (suc i) = rest i

bytes_end : (bytes : Bytes) (b : ℕ) → IsBytes bytes → b < 256 → IsBytes (bytes ++ b ∷ [])
bytes_end [] b all h = bytes_cons b [] h all
bytes_end (a ∷ bytes) b all h = bytes_cons a (bytes ++ b ∷ []) (all 0) (bytes_end bytes b (λ i. all (suc i)) h)

hash_bytes : (bytes : Bytes) → IsBytes (hash160 bytes)
hash_bytes bytes = digest_has_bytes hash_kind.Hash160 bytes

program_bytes : (program : Bytes) → IsProgram program → IsBytes program
program_bytes program (inl (key, e)) =
    subst IsBytes (sym e) (bytes_cons 0x00 (0x14 ∷ hash160 key) (omega arith) (bytes_cons 0x14 (hash160 key) (omega arith) (hash_bytes key)))
program_bytes program (inr (tree, e)) =
    subst IsBytes (sym e)
    (bytes_cons 0x00 (0x20 ∷ sha256 (script_of tree)) (omega arith) (bytes_cons 0x20 (sha256 (script_of tree)) (omega arith) (sha256-IsBytes (script_of tree))))

output_bytes : (under : Bool) (program : Bytes) → IsProgram program → IsBytes (output_of under program)
output_bytes false program h = program_bytes program h
output_bytes true program h =
    bytes_cons 0xa9 (0x14 ∷ (hash160 program ++ 0x87 ∷ [])) (omega arith)
    (bytes_cons 0x14 (hash160 program ++ 0x87 ∷ []) (omega arith) (bytes_end (hash160 program) 0x87 (hash_bytes program) (omega arith)))

pub addresses_give_outputs : (network : Network) (under : Bool) (program address : Bytes) → IsProgram program → address_of network (output_of under program) ≡ Some address
    → script_at network address ≡ Some (output_of under program)
addresses_give_outputs network under program address h e = address_gives_output network (output_of under program) address (output_bytes under program h) e

pub addresses_are_of_one_output : (network : Network) (under below : Bool) (program other address : Bytes) → IsProgram program → IsProgram other
    → address_of network (output_of under program) ≡ Some address → address_of network (output_of below other) ≡ Some address → output_of under program ≡ output_of below other
addresses_are_of_one_output network under below program other address h k e f =
    address_is_of_one_output network (output_of under program) (output_of below other) address (output_bytes under program h) (output_bytes below other k) e f
