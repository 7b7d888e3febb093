-- The bytes of a map give its pairs, one after the other.
use Rattle.std.proofs.Common.{◌≡◌, ℕ, zero, suc, ◌^◌, ◌<◌, ◌≤◌, ◌==◌, nat_le, true, false, [], ◌∷◌, ◌++◌, length, length-append, drop, Some, None, Ok, refl, sym, ap, ◌∙◌, append_assoc, arith}
use Rattle.std.proofs.lemmas.Bool.{le-leb, ne_eqb}
use Rattle.std.proofs.lemmas.List.{take_at, drop_at}
use Rattle.std.proofs.lemmas.List.Concat.{flat_map-cons}
use Rattle.std.specs.List.{flat_map, AllByRecursion}
use Rattle.def_script.specs.Bytes.{Bytes}
use Rattle.def_script.specs.Sizes.{size_bytes, read_size}
use Rattle.def_script.specs.Witness.{sized}
use Rattle.def_script.proofs.Sizing.{size_is_read_back}
use Rattle.def_psbt.specs.Laws.{IsSoundMap}
use Rattle.def_psbt.specs.Listed.{Form, shape_fault, pair_fault}
use Rattle.def_psbt.specs.Map.{Pair, Map, pair_text, map_text}
use Rattle.def_psbt.specs.Part.{first_bytes, first_size, first_string}
use Rattle.ms_psbt.specs.Pairs.{first_pair, parts_in, pairs_in}
use Rattle.ms_psbt.specs.Scaffolding.Pairs.{IsSpelled, IsMapText}

-- ---- a string, and a pair, are read back

pub string_back : (text rest : Bytes) → length text < 2 ^ 64 → first_string (sized text ++ rest) ≡ Some (text, rest)
unfolding first_string first_size first_bytes
string_back text rest low =
    let assoc : sized text ++ rest ≡ size_bytes (length text) ++ (text ++ rest) = append_assoc (size_bytes (length text)) text rest in
    let read : read_size (size_bytes (length text) ++ (text ++ rest)) ≡ Ok (length text, length (size_bytes (length text))) = size_is_read_back (length text) (text ++ rest) low in
    let behind : drop (length (size_bytes (length text))) (size_bytes (length text) ++ (text ++ rest)) ≡ text
    ++ rest = drop_at (size_bytes (length text)) (text ++ rest) (length (size_bytes (length text))) refl in
    let there : nat_le (length text) (length (text ++ rest)) ≡ true = le-leb _ _ (omega (arith, length-append text rest)) in
    rw (assoc, read, behind, there, take_at text rest (length text) refl, drop_at text rest (length text) refl) refl

pub pair_back : (pair : Pair) (rest : Bytes) → IsSpelled pair → first_pair (pair_text pair ++ rest) ≡ Some (pair, rest)
unfolding first_pair
pair_back pair rest h =
    let some = h.some in
    let not_end : (length pair.key == 0) ≡ false = ne_eqb _ _ (λ z. omega arith) in
    rw (
      append_assoc (sized pair.key) (sized pair.value) rest,
      string_back pair.key (sized pair.value ++ rest) h.key,
      not_end,
      string_back pair.value rest h.value,
    ) refl

pub no_pair : first_pair (0x00 ∷ []) ≡ None
unfolding first_pair first_string first_size first_bytes read_size
no_pair = refl

-- ---- the pairs of a map

pub map_cons : (pair : Pair) (map : Map) → map_text (pair ∷ map) ≡ pair_text pair ++ map_text map
map_cons pair map = ap (λ (x : Bytes). x ++ 0x00 ∷ []) (flat_map-cons pair_text pair map) ∙ append_assoc (pair_text pair) (flat_map pair_text map) (0x00 ∷ [])

few : (map : Map) → AllByRecursion IsSpelled map → length map ≤ length (map_text map)
few [] all = omega arith
few (pair ∷ map) all =
    let some = all.0.some in
    omega (
      arith,
      few map all.1,
      ap length (map_cons pair map),
      length-append (pair_text pair) (map_text map),
      length-append (sized pair.key)
          (sized pair.value),
      length-append (size_bytes (length pair.key)) pair.key,
    )

pairs_back : (map : Map) (room : ℕ) → AllByRecursion IsSpelled map → length map ≤ room → parts_in first_pair room (map_text map) ≡ map
unfolding parts_in
pairs_back [] zero all less = refl
pairs_back [] (suc room) all less = rw no_pair refl
pairs_back (pair ∷ map) zero all less = absurd (omega arith)
pairs_back (pair ∷ map) (suc room) all less = rw (map_cons pair map, pair_back pair (map_text map) all.0)
    (ap (λ (xs : Map). pair ∷ xs) (pairs_back map room all.1 (omega arith)))

pub pairs_of_text : (bytes : Bytes) (map : Map) → bytes ≡ map_text map → AllByRecursion IsSpelled map → pairs_in bytes ≡ map
pairs_of_text bytes map e all = ap pairs_in e ∙ pairs_back map (length (map_text map)) all (few map all)

pub text_is : (bytes : Bytes) → IsMapText bytes → bytes ≡ map_text (pairs_in bytes)
text_is bytes h = h.text ∙ ap map_text (sym (pairs_of_text bytes h.map h.text h.spelled))

-- what the next pair leaves
pub next_pair : (bytes : Bytes) (pair : Pair) (rest : Bytes) → IsMapText bytes → first_pair bytes ≡ Some (pair, rest) → (pairs_in bytes ≡ pair ∷ pairs_in rest) × IsMapText rest
next_pair bytes pair rest h e = go h.map h.text h.spelled
  where
    go : (map : Map) → bytes ≡ map_text map → AllByRecursion IsSpelled map → (pairs_in bytes ≡ pair ∷ pairs_in rest) × IsMapText rest
    go [] text all = let none = ap first_pair text ∙ no_pair in absurd cc
    go (first ∷ map) text all =
        let read : first_pair bytes ≡ Some (first, map_text map) = ap first_pair (text ∙ map_cons first map) ∙ pair_back first (map_text map) all.0 in
        let both : (pair, rest) ≡ (first, map_text map) = cc in
        let behind = ap (λ (p : Pair × Bytes). p.1) both in (
          pairs_of_text bytes (first ∷ map) text all ∙ ap (λ (p : Pair × Bytes). p.0 ∷ map) (sym both)
              ∙ ap (λ (m : Map). pair ∷ m) (sym (pairs_of_text rest map behind all.1)),
          record { map = map; text = behind; spelled = all.1 },
        )

-- where there is no pair, none is left
pub no_more : (bytes : Bytes) → first_pair bytes ≡ None → pairs_in bytes ≡ []
unfolding parts_in
no_more bytes e = go (length bytes)
  where
    go : (room : ℕ) → parts_in first_pair room bytes ≡ []
    go zero = refl
    go (suc room) = rw e refl

-- ---- pairs with nothing wrong

-- a key with nothing wrong isn't empty
some_key : (forms : ℕ → Form) (before : Map) (pair : Pair) → pair_fault forms before pair ≡ None → 0 < length pair.key
unfolding pair_fault shape_fault read_size
some_key forms before pair e = grind arith

pub sound_spelled : (forms : ℕ → Form) (before map : Map) → IsSoundMap forms before map → AllByRecursion IsSpelled map
sound_spelled forms before [] sound = tt
sound_spelled forms before (pair ∷ map) sound = (
  record { some = some_key forms before pair sound.0.fault; key = sound.0.key; value = sound.0.value },
  sound_spelled forms (before ++ pair ∷ []) map sound.1,
)

pub sound_text : (forms : ℕ → Form) (bytes : Bytes) (map : Map) → bytes ≡ map_text map → IsSoundMap forms [] map → IsMapText bytes
sound_text forms bytes map e sound = record { map = map; text = e; spelled = sound_spelled forms [] map sound }
