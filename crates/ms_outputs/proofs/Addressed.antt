-- Each output of a descriptor has an address.
use Rattle.std.proofs.Common.{◌≡◌, ◌==◌, ℕ, true, false, Bool, List, [], ◌∷◌, ◌++◌, length, take, drop, ap, ◌∙◌, refl, sym, subst, cond, eq-eqb, Option, Some, None}
use Rattle.std.specs.Prelude.{◌&&◌, ◌||◌}
use Rattle.std.specs.Str.{bytes_eq}
use Rattle.std.proofs.lemmas.Slice.Eq.{bytes_eq-Decides}
use Rattle.std.proofs.Math.Seq.{take-append_seam}
use Rattle.def_hash.specs.declared.HashKind.TheVariants as kind
use Rattle.def_hash.specs.Hash.{sha256, hash160}
use Rattle.def_hash.proofs.Lengths.{digest_has_its_length}
use Rattle.def_script.specs.Bytes.{Bytes}
use Rattle.def_tree.specs.Tree.{Key, Tree}
use Rattle.def_emit.specs.Emit.{script_of}
use Rattle.def_address.specs.declared.Network.{Network}
use Rattle.def_address.specs.Bech32.{program_address, is_program}
use Rattle.def_address.specs.Address.{human_of, program_output, hash_output, hash_address, address_of}
use Rattle.def_descriptor.specs.Parts.{Body, miniscript, sorted, single}
use Rattle.def_descriptor.specs.Gives.{key_program, tree_program, output_of}
use Rattle.ms_outputs.specs.Given.{HasAddress, IsProgram}

-- one of both cases
by_first : (b c : Bool) (x y : Bytes) → b ≡ true → (z : Bytes) × (cond b (Some x) (cond c (Some y) None) ≡ Some z)
by_first true c x y h = (x, refl)
by_first false c x y h = absurd (cc)

by_second : (b c : Bool) (x y : Bytes) → c ≡ true → (z : Bytes) × (cond b (Some x) (cond c (Some y) None) ≡ Some z)
by_second true c x y h = (x, refl)
by_second false true x y h = (y, refl)
by_second false false x y h = absurd (cc)

both : (b c : Bool) → b ≡ true → c ≡ true → (b && c) ≡ true
both true c h k = k
both false c h k = h

module _ (network : Network) (hash : Bytes) where
  abbrev first_test : (script : Bytes) → Bool
  first_test script = bytes_eq script (program_output (drop 2 script)) && is_program (drop 2 script)

  abbrev second_test : (script : Bytes) → Bool
  second_test script = bytes_eq script (hash_output (take 20 (drop 2 script))) && (length (take 20 (drop 2 script)) == 20)

  program_has : is_program hash ≡ true → HasAddress network (program_output hash)
  unfolding address_of
  program_has long =
      let script = program_output hash in
      by_first (first_test script) (second_test script) (program_address (human_of network) hash) (hash_address network (take 20 hash))
      (both (bytes_eq script script) (is_program hash) ((bytes_eq-Decides script script).1 refl) long)

  front : length hash ≡ 20 → take 20 (hash ++ 0x87 ∷ []) ≡ hash
  front long = ap (λ (z : ℕ). take z (hash ++ 0x87 ∷ [])) (sym long) ∙ take-append_seam hash (0x87 ∷ [])

  hash_has : length hash ≡ 20 → HasAddress network (hash_output hash)
  unfolding address_of
  hash_has long =
      let script = hash_output hash in
      by_second (first_test script) (second_test script) (program_address (human_of network) (drop 2 script)) (hash_address network (take 20 (drop 2 script)))
      (subst (λ (z : Bytes). (bytes_eq script (hash_output z) && (length z == 20)) ≡ true) (sym (front long))
      (both (bytes_eq script script) (length hash == 20) ((bytes_eq-Decides script script).1 refl) (eq-eqb (length hash) 20 long)))

-- a program of 20 or 32 bytes
long_program : (network : Network) (hash : Bytes) (size : ℕ) → (size == 20 || size == 32) ≡ true → length hash ≡ size → HasAddress network (0x00 ∷ size ∷ hash)
long_program network hash size test long =
    subst (λ (z : ℕ). HasAddress network (0x00 ∷ z ∷ hash)) long
    (program_has network hash (ap (λ (z : ℕ). z == 20 || z == 32) long ∙ test))

key_has : (network : Network) (under : Bool) (key : Key) → HasAddress network (output_of under (key_program key))
key_has network true key = hash_has network (hash160 (key_program key)) (digest_has_its_length kind.Hash160 (key_program key))
key_has network false key = long_program network (hash160 key) 20 refl (digest_has_its_length kind.Hash160 key)

tree_has : (network : Network) (under : Bool) (tree : Tree) → HasAddress network (output_of under (tree_program tree))
tree_has network true tree = hash_has network (hash160 (tree_program tree)) (digest_has_its_length kind.Hash160 (tree_program tree))
tree_has network false tree = long_program network (sha256 (script_of tree)) 32 refl (digest_has_its_length kind.Sha256 (script_of tree))

along : (network : Network) (under : Bool) (own program : Bytes) → program ≡ own → HasAddress network (output_of under own) → HasAddress network (output_of under program)
along network under own program e h = subst (λ (z : Bytes). HasAddress network (output_of under z)) (sym e) h

pub has_address : (network : Network) (under : Bool) (body : Body) (keys : List Key) (script : Option Bytes) (program : Bytes) → IsProgram body keys script program
    → HasAddress network (output_of under program)
has_address network under (miniscript ps) keys script program h = along network under (tree_program h.0) program h.4 (tree_has network under h.0)
has_address network under (sorted ps) keys script program h = along network under (tree_program h.0) program h.4 (tree_has network under h.0)
has_address network under (single expression) keys script program h = along network under (key_program h.0) program h.3 (key_has network under h.0)
