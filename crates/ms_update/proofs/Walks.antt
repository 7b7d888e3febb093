-- Walks over the pairs of a map in bytes.
use Rattle.std.proofs.Common.{◌≡◌, ℕ, ◌+◌, ◌-◌, ◌<◌, ◌≤◌, ◌||◌, Bool, true, false, [], ◌∷◌, ◌++◌, length, Option, Some, None, refl, sym, ap, ◌∙◌, length-append, arith}
use Rattle.std.specs.List.{AllByRecursion}
use Rattle.std.specs.Str.{bytes_eq}
use Rattle.def_script.specs.Bytes.{Bytes}
use Rattle.def_script.specs.Sizes.{size_bytes}
use Rattle.def_script.specs.Witness.{sized}
use Rattle.def_psbt.specs.Map.{Pair, Map, pair_text, map_text}
use Rattle.def_psbt.specs.Listed.{stands}
use Rattle.def_update.specs.Updated.{conflicts, conflict_in}
use Rattle.ms_psbt.specs.Pairs.{first_pair, pairs_in}
use Rattle.ms_psbt.specs.Scaffolding.Pairs.{IsSpelled, IsMapText}
use Rattle.ms_psbt.proofs.Pairing.{text_is, next_pair, no_more, no_pair, map_cons, pair_back}

-- ---- a pair, and what is left behind it

pub record Next (bytes : Bytes) (pair : Pair) (rest : Bytes) : Type 0 where
  pub pairs : pairs_in bytes ≡ pair ∷ pairs_in rest
  pub map : IsMapText rest
  pub long : length bytes ≡ length (pair_text pair) + length rest
  pub less : length rest < length bytes

some_key : (pair : Pair) → 0 < length pair.key → 0 < length (pair_text pair)
some_key pair some =
    let whole = length-append (sized pair.key) (sized pair.value) in
    let key = length-append (size_bytes (length pair.key)) pair.key in
    omega (arith, some, whole, key)

some_byte : (bytes : Bytes) (pair : Pair) (rest : Bytes) → IsMapText bytes → first_pair bytes ≡ Some (pair, rest) → 0 < length (pair_text pair)
some_byte bytes pair rest h e = go h.map h.text h.spelled
  where
    go : (m : Map) → bytes ≡ map_text m → AllByRecursion IsSpelled m → 0 < length (pair_text pair)
    go [] text all = let none = ap first_pair text ∙ no_pair in absurd cc
    go (first ∷ m) text all =
        let read : first_pair bytes ≡ Some (first, map_text m) = ap first_pair (text ∙ map_cons first m) ∙ pair_back first (map_text m) all.0 in
        let both : (pair, rest) ≡ (first, map_text m) = cc in
        let same : pair ≡ first = ap (λ (p : Pair × Bytes). p.0) both in
        rw same (some_key first all.0.some)

pub next : (bytes : Bytes) (pair : Pair) (rest : Bytes) → IsMapText bytes → first_pair bytes ≡ Some (pair, rest) → Next bytes pair rest
next bytes pair rest h e =
    let both = next_pair bytes pair rest h e in
    let whole : bytes ≡ pair_text pair ++ rest = text_is bytes h ∙ (ap map_text both.0 ∙ (map_cons pair (pairs_in rest) ∙ ap (λ (x : Bytes). pair_text pair ++ x) (sym (text_is rest both.1)))) in
    let long = ap length whole ∙ length-append (pair_text pair) rest in
    let some = some_byte bytes pair rest h e in
    record { pairs = both.0; map = both.1; long = long; less = omega (arith, long, some) }

-- ---- whether a key stands

pub stands_next : (key : Bytes) (bytes : Bytes) (pair : Pair) (rest : Bytes) (total : Bool) → Next bytes pair rest → bytes_eq key pair.key ≡ false → stands key (pairs_in bytes) ≡ total
    → stands key (pairs_in rest) ≡ total
stands_next key bytes pair rest total n other all =
    sym (ap (λ (b : Bool). b || stands key (pairs_in rest)) other) ∙ ap (stands key) (sym n.pairs) ∙ all

pub stands_here : (key : Bytes) (bytes : Bytes) (pair : Pair) (rest : Bytes) (total : Bool) → Next bytes pair rest → bytes_eq key pair.key ≡ true → stands key (pairs_in bytes) ≡ total → true ≡ total
stands_here key bytes pair rest total n same all =
    sym (ap (λ (b : Bool). b || stands key (pairs_in rest)) same) ∙ ap (stands key) (sym n.pairs) ∙ all

pub stands_nowhere : (key : Bytes) (bytes : Bytes) (total : Bool) → first_pair bytes ≡ None → stands key (pairs_in bytes) ≡ total → false ≡ total
stands_nowhere key bytes total none all = ap (stands key) (sym (no_more bytes none)) ∙ all

-- ---- conflicts

pub conflict_next : (own : Map) (at all : ℕ) (bytes : Bytes) (pair : Pair) (rest : Bytes) (total : Option ℕ) → Next bytes pair rest → length bytes ≤ all → conflicts own pair ≡ false
    → conflict_in own (at + (all - length bytes)) (pairs_in bytes) ≡ total → conflict_in own (at + (all - length rest)) (pairs_in rest) ≡ total
conflict_next own at all bytes pair rest total n within free held =
    let long = n.long in
    let further : at + (all - length rest) ≡ at + (all - length bytes) + length (pair_text pair) = omega (arith, long, within) in
    let step : conflict_in own (at + (all - length bytes)) (pair ∷ pairs_in rest) ≡ conflict_in own (at + (all - length bytes) + length (pair_text pair)) (pairs_in rest) = rw free refl in
    ap (λ (k : ℕ). conflict_in own k (pairs_in rest)) further ∙ (sym step ∙ (ap (conflict_in own (at + (all - length bytes))) (sym n.pairs) ∙ held))

pub conflict_here : (own : Map) (at : ℕ) (bytes : Bytes) (pair : Pair) (rest : Bytes) (total : Option ℕ) → Next bytes pair rest → conflicts own pair ≡ true
    → conflict_in own at (pairs_in bytes) ≡ total → Some at ≡ total
conflict_here own at bytes pair rest total n bars held =
    let step : conflict_in own at (pair ∷ pairs_in rest) ≡ Some at = rw bars refl in
    sym step ∙ (ap (conflict_in own at) (sym n.pairs) ∙ held)

pub conflict_nowhere : (own : Map) (at : ℕ) (bytes : Bytes) (total : Option ℕ) → first_pair bytes ≡ None → conflict_in own at (pairs_in bytes) ≡ total → None ≡ total
conflict_nowhere own at bytes total none held = ap (conflict_in own at) (sym (no_more bytes none)) ∙ held
