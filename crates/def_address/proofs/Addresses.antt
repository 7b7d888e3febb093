-- An address gives the output that it is of.
use Rattle.std.proofs.Common.{◌≡◌, ℕ, ◌<◌, ◌≤◌, ◌^◌, ◌==◌, ◌∷◌, ◌++◌, length, take, drop, Bool, true, false, cond, arith, refl, sym, ap, subst, ◌∙◌, lit<, lit≤, eq-eqb, eqb-true, length-append}
use Rattle.std.proofs.lemmas.Bool.{cond-true}
use Rattle.std.proofs.lemmas.List.{length-map, take-append-drop}
use Rattle.std.proofs.lemmas.Slice.Eq.{bytes_eq-Decides}
use Rattle.std.specs.Prelude.{◌&&◌, codes, slice_index, Option, Some, None}
use Rattle.std.specs.Option.{option_and_then, option_or, option_map}
use Rattle.std.specs.Str.{bytes_eq}
use Rattle.def_script.specs.Bytes.{Bytes}
use Rattle.def_address.specs.declared.Network.{Network}
use Rattle.def_address.specs.declared.Network.TheVariants.{Main, Test, Regtest}
use Rattle.def_address.specs.Base58.{base58_alphabet, rebased, check_of, base58_check, read_base58_check}
use Rattle.def_address.specs.Bech32.{program_address, read_program, is_program}
use Rattle.def_address.specs.Address.{human_of, version_of, program_output, hash_output, hash_address, address_of, output_of_hash, script_at}
use Rattle.def_address.specs.Laws.{AddressGivesOutput, AddressIsOfOneOutput}
use Rattle.def_address.proofs.Digits.{Below, below_joined, below_front, below_back, length_rebased}
use Rattle.def_address.proofs.Base58.{below_bytes, below_check, length_check, and_parts, checked_is_read}
use Rattle.def_address.proofs.Bech32.{Calm, program_is_read, address_long}

human_calm : (network : Network) → Calm (human_of network ++ codes "1")
human_calm Main = (refl, (refl, (refl, tt)))
human_calm Test = (refl, (refl, (refl, tt)))
human_calm Regtest = (refl, (refl, (refl, (refl, (refl, tt)))))

version_is : (network : Network) → (0 < version_of network) × (version_of network < 256)
version_is Main = (lit< tt, lit< tt)
version_is Test = (lit< tt, lit< tt)
version_is Regtest = (lit< tt, lit< tt)

-- ---- of the hash of a Script

hash_short : (network : Network) (hash : Bytes) → Below 256 hash → length hash ≡ 20 → length (hash_address network hash) ≤ 35
unfolding base58_check
hash_short network hash below long =
    let version = version_of network in
    let check = check_of (version ∷ hash) in
    let all = (version ∷ hash) ++ check in
    let bounds = version_is network in
    let size : length all ≡ 25 = omega (arith, length-append (version ∷ hash) check, length_check (version ∷ hash), long) in
    let P : ℕ → Type 0 = λ z. 256 ^ z ≤ 58 ^ 35 in
    let power : 256 ^ length all ≤ 58 ^ 35 = subst P (sym size) (lit≤ tt) in
    let digits = length_rebased 256 58 35 all (lit< tt) bounds.0 (below_joined 256 (version ∷ hash) check (bounds.1, below) (below_check (version ∷ hash))) power in
    let letters = length-map (rebased 256 58 all) (λ digit. slice_index base58_alphabet digit) in
    omega (arith, digits, letters)

no_program : (human text : Bytes) → length text ≤ 35 → read_program human text ≡ None
no_program human text short = at (read_program human text) refl where
  at : (o : Option Bytes) → read_program human text ≡ o → o ≡ None
  at None e = refl
  at (Some program) e = let long = address_long human text program e in absurd (omega (arith, long, short))

hash_is_read : (network : Network) (hash : Bytes) → Below 256 hash → length hash ≡ 20 → script_at network (hash_address network hash) ≡ Some (hash_output hash)
unfolding script_at
hash_is_read network hash below long =
    let version = version_of network in
    let text = hash_address network hash in
    let bounds = version_is network in
    let other = option_and_then (output_of_hash network) (read_base58_check text) in
    let read = checked_is_read (version ∷ hash) (bounds.1, below) in
    let same : (version == version) ≡ true = eq-eqb version version refl in
    let twenty : (length hash == 20) ≡ true = eq-eqb (length hash) 20 long in
    let test : ((version == version) && (length hash == 20)) ≡ true = ap (λ (z : Bool). z && (length hash == 20)) same ∙ twenty in
    ap (λ (z : Option Bytes). option_or (option_map program_output z) other) (no_program (human_of network) text (hash_short network hash below long))
    ∙ (ap (option_and_then (output_of_hash network)) read
    ∙ cond-true ((version == version) && (length hash == 20)) (Some (hash_output hash)) None test)

-- ---- of any output

program_gives : (network : Network) (program : Bytes) → Below 256 program → is_program program ≡ true
    → script_at network (program_address (human_of network) program) ≡ Some (program_output program)
unfolding script_at
program_gives network program below h =
    let human = human_of network in
    let text = program_address human program in
    ap (λ (z : Option Bytes). option_or (option_map program_output z) (option_and_then (output_of_hash network) (read_base58_check text)))
    (program_is_read human program (human_calm network) below h)

program_case : (network : Network) (script address : Bytes) → Below 256 script → (bytes_eq script (program_output (drop 2 script)) && is_program (drop 2 script)) ≡ true
    → program_address (human_of network) (drop 2 script) ≡ address → script_at network address ≡ Some script
program_case network script address below test same =
    let program = drop 2 script in
    let tests = and_parts (bytes_eq script (program_output program)) (is_program program) test in
    let whole : script ≡ program_output program = (bytes_eq-Decides _ _).0 tests.0 in
    let low = below_back 256 (take 2 script) program (subst (Below 256) (sym (take-append-drop 2 script)) below) in
    ap (script_at network) (sym same) ∙ (program_gives network program low tests.1 ∙ ap Some (sym whole))

hash_case : (network : Network) (script address : Bytes) → Below 256 script → (bytes_eq script (hash_output (take 20 (drop 2 script))) && (length (take 20 (drop 2 script)) == 20)) ≡ true
    → hash_address network (take 20 (drop 2 script)) ≡ address → script_at network address ≡ Some script
hash_case network script address below test same =
    let behind = drop 2 script in
    let hash = take 20 behind in
    let tests = and_parts (bytes_eq script (hash_output hash)) (length hash == 20) test in
    let whole : script ≡ hash_output hash = (bytes_eq-Decides _ _).0 tests.0 in
    let twenty : length hash ≡ 20 = eqb-true (length hash) 20 tests.1 in
    let low = below_back 256 (take 2 script) behind (subst (Below 256) (sym (take-append-drop 2 script)) below) in
    let lower = below_front 256 hash (drop 20 behind) (subst (Below 256) (sym (take-append-drop 20 behind)) low) in
    ap (script_at network) (sym same) ∙ (hash_is_read network hash lower twenty ∙ ap Some (sym whole))

-- both cases of an output's address
either_case : (b c : Bool) (x y z : Bytes) (P : Type 0) → cond b (Some x) (cond c (Some y) None) ≡ Some z → (b ≡ true → x ≡ z → P) → (c ≡ true → y ≡ z → P) → P
either_case true c x y z P h one two = one refl cc
either_case false true x y z P h one two = two refl cc
either_case false false x y z P h one two = cc

pub address_gives_output : AddressGivesOutput
unfolding address_of
address_gives_output network script address bytes h =
    let program = drop 2 script in
    let hash = take 20 (drop 2 script) in
    let below = below_bytes script bytes in
    either_case (bytes_eq script (program_output program) && is_program program) (bytes_eq script (hash_output hash) && (length hash == 20))
    (program_address (human_of network) program) (hash_address network hash) address (script_at network address ≡ Some script) h
    (λ test same. program_case network script address below test same)
    (λ test same. hash_case network script address below test same)

pub address_is_of_one_output : AddressIsOfOneOutput
address_is_of_one_output network script other address bytes these first second =
    let one = address_gives_output network script address bytes first in
    let two = address_gives_output network other address these second in
    cc
