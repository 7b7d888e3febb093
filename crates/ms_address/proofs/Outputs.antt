-- The outputs that have an address, by their bytes.
use Rattle.std.proofs.Common.{◌≡◌, ℕ, ◌<◌, ◌≤◌, ◌==◌, ◌&&◌, subst, [], ◌∷◌, ◌++◌, length, take, drop, get_or, Bool, true, false, refl, sym, ap, ◌∙◌, arith, eq-eqb, eqb-true, length-append}
use Rattle.std.proofs.lemmas.Bool.{and_from, cond-true, cond-false, eqb-false}
use Rattle.std.proofs.lemmas.List.{length-take-le, take-append-drop, drop_more, drop_all, get_or_at}
use Rattle.std.proofs.lemmas.Slice.Eq.{bytes_eq-Decides}
use Rattle.std.specs.Prelude.{Some, None}
use Rattle.std.specs.Str.{bytes_eq}
use Rattle.def_script.specs.Bytes.{Bytes}
use Rattle.def_address.specs.declared.Network.{Network}
use Rattle.def_address.specs.Bech32.{is_program, program_address}
use Rattle.def_address.specs.Address.{human_of, program_output, hash_output, hash_address, address_of}
use Rattle.def_address.proofs.Base58.{and_parts}

-- ---- of a program

abbrev pub program_test : Bytes → Bool
program_test script = bytes_eq script (program_output (drop 2 script)) && is_program (drop 2 script)

same_rest : (a b : Bool) (rest : Bytes) → (a && (b && bytes_eq rest rest)) ≡ (a && b)
same_rest a b rest = let whole : bytes_eq rest rest ≡ true = (bytes_eq-Decides rest rest).1 refl in at a b (bytes_eq rest rest) whole where
  at : (a b c : Bool) → c ≡ true → (a && (b && c)) ≡ (a && b)
  at true true c h = h
  at true false c h = refl
  at false b c h = refl

pub program_is : (a b : ℕ) (rest : Bytes) → program_test (a ∷ b ∷ rest) ≡ (((a == 0) && (b == length rest)) && is_program rest)
program_is a b rest = ap (λ (z : Bool). z && is_program rest) (same_rest (a == 0) (b == length rest) rest)

-- ---- of the hash of a Script

abbrev pub hash_test : Bytes → Bool
hash_test script = bytes_eq script (hash_output (take 20 (drop 2 script))) && (length (take 20 (drop 2 script)) == 20)

-- what such an output has
abbrev pub HashParts : Bytes → Type 0
HashParts script = (length script ≡ 23) × (get_or script 0 0 ≡ 0xa9) × (get_or script 1 0 ≡ 0x14) × (get_or script 22 0 ≡ 0x87)

parts_of : (hash : Bytes) → length hash ≡ 20 → HashParts (hash_output hash)
parts_of hash long =
    let both : length (hash_output hash) ≡ 23 = omega (arith, length-append hash (0x87 ∷ []), long) in
    (both, refl, refl, get_or_at hash 0x87 [] 0 20 long)

hash_has : (script : Bytes) → hash_test script ≡ true → HashParts script
hash_has script h =
    let hash = take 20 (drop 2 script) in
    let tests = and_parts (bytes_eq script (hash_output hash)) (length hash == 20) h in
    let whole : script ≡ hash_output hash = (bytes_eq-Decides _ _).0 tests.0 in
    subst HashParts (sym whole) (parts_of hash (eqb-true (length hash) 20 tests.1))

pub hash_is : (script : Bytes) → HashParts script → hash_test script ≡ true
hash_is [] h = absurd (omega (arith, h.0))
hash_is (a ∷ []) h = absurd (omega (arith, h.0))
hash_is (a ∷ b ∷ rest) h =
    let size : length rest ≡ 21 = omega (arith, h.0) in
    let hash = take 20 rest in
    let within : 20 ≤ length rest = omega arith in
    let long : length hash ≡ 20 = length-take-le 20 rest within in
    let inside : 20 < length rest = omega arith in
    let end : drop 20 rest ≡ get_or rest 20 0 ∷ [] = drop_more rest 20 0 inside ∙ ap (λ (z : Bytes). get_or rest 20 0 ∷ z) (drop_all 21 rest (omega arith)) in
    let behind : rest ≡ hash ++ 0x87 ∷ [] = sym (take-append-drop 20 rest) ∙ (ap (λ (z : Bytes). hash ++ z) end ∙ ap (λ (z : ℕ). hash ++ z ∷ []) h.3) in
    let whole : a ∷ b ∷ rest ≡ hash_output hash = ap (λ (z : ℕ). z ∷ b ∷ rest) h.1 ∙ (ap (λ (z : ℕ). 0xa9 ∷ z ∷ rest) h.2 ∙ ap (λ (z : Bytes). 0xa9 ∷ 0x14 ∷ z) behind) in
    and_from (bytes_eq (a ∷ b ∷ rest) (hash_output hash)) (length hash == 20) ((bytes_eq-Decides _ _).1 whole) (eq-eqb (length hash) 20 long)

pub hash_is_not : (script : Bytes) → (HashParts script → ⊥) → hash_test script ≡ false
hash_is_not script h = at (hash_test script) refl where
  at : (b : Bool) → hash_test script ≡ b → b ≡ false
  at true e = absurd (h (hash_has script e))
  at false e = refl

pub last_is : (script : Bytes) → length script ≡ 23 → get_or script 0 0 ≡ 0xa9 → get_or script 1 0 ≡ 0x14 → (get_or script 22 0 == 0x87) ≡ hash_test script
last_is script long first second = at (get_or script 22 0 == 0x87) refl where
  at : (b : Bool) → (get_or script 22 0 == 0x87) ≡ b → b ≡ hash_test script
  at true e = sym (hash_is script (long, first, second, eqb-true (get_or script 22 0) 0x87 e))
  at false e = sym (hash_is_not script (λ parts. eqb-false (get_or script 22 0) 0x87 e parts.3))

-- ---- their addresses

pub address_program : (network : Network) (script : Bytes) → program_test script ≡ true → address_of network script ≡ Some (program_address (human_of network) (drop 2 script))
unfolding address_of
address_program network script h = cond-true (program_test script) _ _ h

pub address_hash : (network : Network) (script : Bytes) → program_test script ≡ false → hash_test script ≡ true
    → address_of network script ≡ Some (hash_address network (take 20 (drop 2 script)))
unfolding address_of
address_hash network script other h = cond-false (program_test script) _ _ other ∙ cond-true (hash_test script) _ _ h

pub address_none : (network : Network) (script : Bytes) → program_test script ≡ false → hash_test script ≡ false → address_of network script ≡ None
unfolding address_of
address_none network script first second = cond-false (program_test script) _ _ first ∙ cond-false (hash_test script) _ _ second
