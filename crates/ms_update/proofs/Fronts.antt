-- A map at the front of bytes, pair by pair.
use Rattle.std.proofs.Common.{◌≡◌, ℕ, zero, suc, ◌+◌, ◌<◌, ◌≤◌, nat_le, true, [], ◌∷◌, ◌++◌, length, take, Some, None, refl, sym, ap, subst, ◌∙◌, append_assoc, length-append, arith}
use Rattle.std.proofs.lemmas.Bool.{le-leb}
use Rattle.std.proofs.lemmas.List.{take_at}
use Rattle.std.specs.List.{AllByRecursion}
use Rattle.def_script.specs.Bytes.{Bytes}
use Rattle.def_script.specs.Sizes.{size_bytes, read_size}
use Rattle.def_script.specs.Witness.{sized}
use Rattle.def_psbt.specs.Map.{Pair, Map, pair_text, map_text}
use Rattle.def_psbt.specs.Part.{first_bytes, first_size, first_string}
use Rattle.ms_psbt.specs.Pairs.{first_pair, parts_in, pairs_in}
use Rattle.ms_psbt.specs.Scaffolding.Pairs.{IsSpelled}
use Rattle.ms_psbt.proofs.Pairing.{map_cons, pair_back}
use Rattle.ms_update.specs.Scaffolding.Fronts.{BeginsWithMap}

some_key : (pair : Pair) → 0 < length pair.key → 0 < length (pair_text pair)
some_key pair some =
    let whole = length-append (sized pair.key) (sized pair.value) in
    let key = length-append (size_bytes (length pair.key)) pair.key in
    omega (arith, some, whole, key)

-- a pair and what stands behind it, or the end of the map
cons_text : (pair : Pair) (map : Map) (rest : Bytes) → map_text (pair ∷ map) ++ rest ≡ pair_text pair ++ (map_text map ++ rest)
cons_text pair map rest = ap (λ (x : Bytes). x ++ rest) (map_cons pair map) ∙ append_assoc (pair_text pair) (map_text map) rest

ends : (rest : Bytes) → first_pair (0x00 ∷ rest) ≡ None
unfolding first_pair first_string first_size first_bytes read_size
ends rest =
    let there : nat_le 0 (length rest) ≡ true = le-leb 0 (length rest) (omega arith) in
    rw there refl

cons_read : (pair : Pair) (map : Map) (rest : Bytes) → IsSpelled pair → first_pair (map_text (pair ∷ map) ++ rest) ≡ Some (pair, map_text map ++ rest)
cons_read pair map rest h = ap first_pair (cons_text pair map rest) ∙ pair_back pair (map_text map ++ rest) h

-- ---- the pairs at the front

pairs_back : (map : Map) (rest : Bytes) (room : ℕ) → AllByRecursion IsSpelled map → length map ≤ room → parts_in first_pair room (map_text map ++ rest) ≡ map
unfolding parts_in
pairs_back [] rest zero all less = refl
pairs_back [] rest (suc room) all less = rw (ends rest) refl
pairs_back (pair ∷ map) rest zero all less = absurd (omega arith)
pairs_back (pair ∷ map) rest (suc room) all less = rw (cons_read pair map rest all.0) (ap (λ (xs : Map). pair ∷ xs) (pairs_back map rest room all.1 (omega arith)))

few : (map : Map) (rest : Bytes) → AllByRecursion IsSpelled map → length map ≤ length (map_text map ++ rest)
few [] rest all = omega arith
few (pair ∷ map) rest all =
    let some = some_key pair all.0.some in
    omega (arith, few map rest all.1, ap length (cons_text pair map rest), length-append (pair_text pair) (map_text map ++ rest), some)

pub front_pairs : (bytes : Bytes) (map : Map) (rest : Bytes) → bytes ≡ map_text map ++ rest → AllByRecursion IsSpelled map → pairs_in bytes ≡ map
front_pairs bytes map rest e all = ap pairs_in e ∙ pairs_back map rest (length (map_text map ++ rest)) all (few map rest all)

-- ---- a pair, and what is left behind it

pub record Next (bytes : Bytes) (pair : Pair) (rest : Bytes) : Type 0 where
  pub front : BeginsWithMap rest
  pub long : length bytes ≡ length (pair_text pair) + length rest
  pub map : length (map_text (pairs_in bytes)) ≡ length (pair_text pair) + length (map_text (pairs_in rest))
  pub less : length rest < length bytes

pub next : (bytes : Bytes) (pair : Pair) (rest : Bytes) → BeginsWithMap bytes → first_pair bytes ≡ Some (pair, rest) → Next bytes pair rest
next bytes pair rest h e = go h.map h.text h.spelled
  where
    go : (m : Map) → bytes ≡ map_text m ++ h.rest → AllByRecursion IsSpelled m → Next bytes pair rest
    go [] text all = let none = ap first_pair text ∙ ends h.rest in absurd cc
    go (first ∷ m) text all =
        let read : first_pair bytes ≡ Some (first, map_text m ++ h.rest) = ap first_pair text ∙ cons_read first m h.rest all.0 in
        let both : (pair, rest) ≡ (first, map_text m ++ h.rest) = cc in
        let same : pair ≡ first = ap (λ (p : Pair × Bytes). p.0) both in
        let behind : rest ≡ map_text m ++ h.rest = ap (λ (p : Pair × Bytes). p.1) both in
        let some = some_key first all.0.some in
        let long : length bytes ≡ length (pair_text pair) + length rest =
        ap length (text ∙ cons_text first m h.rest) ∙ length-append (pair_text first) (map_text m ++ h.rest)
        ∙ ap (λ (p : Pair). length (pair_text p) + length (map_text m ++ h.rest)) (sym same) ∙ ap (λ (b : Bytes). length (pair_text pair) + length b) (sym behind) in
        let size : 0 < length (pair_text pair) = subst (λ (p : Pair). 0 < length (pair_text p)) (sym same) some in
        record {
          front = record { map = m; rest = h.rest; text = behind; spelled = all.1 };
          long = long;
          map = ap (λ (l : Map). length (map_text l)) (front_pairs bytes (first ∷ m) h.rest text all)
              ∙ ap length (map_cons first m) ∙ length-append (pair_text first) (map_text m)
              ∙ ap (λ (p : Pair). length (pair_text p) + length (map_text m)) (sym same)
              ∙ ap (λ (l : Map). length (pair_text pair) + length (map_text l)) (sym (front_pairs rest m h.rest behind all.1));
          less = omega (arith, long, size);
        }

-- ---- the end of the map

pub one_left : (bytes : Bytes) → BeginsWithMap bytes → first_pair bytes ≡ None → (length (map_text (pairs_in bytes)) ≡ 1) × (0 < length bytes)
one_left bytes h e = go h.map h.text h.spelled
  where
    go : (m : Map) → bytes ≡ map_text m ++ h.rest → AllByRecursion IsSpelled m → (length (map_text (pairs_in bytes)) ≡ 1) × (0 < length bytes)
    go [] text all = (
      ap (λ (l : Map). length (map_text l)) (front_pairs bytes [] h.rest text all),
      let long = ap length text in omega (arith, long),
    )
    go (first ∷ m) text all = let read = ap first_pair text ∙ cons_read first m h.rest all.0 in absurd cc

pub cut : (bytes : Bytes) (size : ℕ) → BeginsWithMap bytes → length (map_text (pairs_in bytes)) ≡ size → take size bytes ≡ map_text (pairs_in bytes)
cut bytes size h long =
    let pairs = front_pairs bytes h.map h.rest h.text h.spelled in
    let text : bytes ≡ map_text (pairs_in bytes) ++ h.rest = h.text ∙ ap (λ (m : Map). map_text m ++ h.rest) (sym pairs) in
    ap (take size) text ∙ take_at (map_text (pairs_in bytes)) h.rest size long
