-- The pairs of a map that is whole, one after the other.
use Rattle.std.proofs.Common.{◌≡◌, ℕ, zero, suc, ◌+◌, ◌&&◌, nat_le, true, false, [], ◌∷◌, ◌++◌, length, ◌<◌, is_some, Option, Some, None, option_map, Ok, Err, refl, arith}
use Rattle.std.proofs.lemmas.List.{drop_all}
use Rattle.def_script.specs.Bytes.{Bytes, IsBytes}
use Rattle.def_psbt.specs.Listed.{Form, shape_fault, pair_fault}
use Rattle.def_psbt.specs.Map.{Pair, Map, type_of, pair_text, pair_of_type, value_of_type}
use Rattle.def_script.specs.Sizes.{read_size}
use Rattle.def_psbt.specs.declared.Refusal.{Refusal}
use Rattle.def_psbt.specs.Reading.{size_at, pair_at, sound_pair_at, pairs_at, map_at, place_of}
use Rattle.def_psbt.proofs.Reading.{pair_from}

-- a place within a map that is whole, and what is said of the pairs from there on
pub record InMap (psbt : Bytes) (at : ℕ) (is : Map → Type 0) : Type 0 where
  pub forms : ℕ → Form
  pub room : ℕ
  pub before : Map
  pub rest : Map × ℕ
  pub read : pairs_at forms psbt room before at ≡ Ok rest
  pub said : is rest.0

pub in_map : (forms : ℕ → Form) (psbt : Bytes) (at : ℕ) (map : Map × ℕ) (is : Map → Type 0) → map_at forms psbt at ≡ Ok map → is map.0 → InMap psbt at is
in_map forms psbt at map is e said = record { forms = forms; room = suc (length psbt); before = []; rest = map; read = e; said = said }

-- what follows from what is said
pub in_map_so : (psbt : Bytes) (at : ℕ) (is so : Map → Type 0) → InMap psbt at is → ((map : Map) → is map → so map) → InMap psbt at so
in_map_so psbt at is so h f = record { forms = h.forms; room = h.room; before = h.before; rest = h.rest; read = h.read; said = f h.rest.0 h.said }

module _ {psbt : Bytes} {at : ℕ} {is : Map → Type 0} (h : InMap psbt at is) where
  pub no_size : (refusal : Refusal) → Err refusal ≡ size_at psbt at → ⊥
  unfolding pairs_at
  no_size refusal e = let read = h.read in grind arith

  pub at_end : (size : ℕ × ℕ) → Ok size ≡ size_at psbt at → size.0 ≡ 0 → is []
  unfolding pairs_at
  at_end size e z = let none : [] ≡ h.rest.0 = grind (arith, h.read) in rw none h.said

  pub no_pair : (size : ℕ × ℕ) → Ok size ≡ size_at psbt at → (size.0 ≡ 0 → ⊥) → (refusal : Refusal) → Err refusal ≡ pair_at psbt at → ⊥
  unfolding pairs_at sound_pair_at
  no_pair size e some refusal cut = let read = h.read in grind arith

  -- the pair there, and the place behind it
  pub goes_on : (size : ℕ × ℕ) → Ok size ≡ size_at psbt at → (size.0 ≡ 0 → ⊥) → (pair : Pair × ℕ) → Ok pair ≡ pair_at psbt at → InMap psbt pair.1 (λ map. is (pair.0 ∷ map))
  unfolding pairs_at sound_pair_at
  goes_on size e some pair read = go h.room h.read
    where
      go : (room : ℕ) → pairs_at h.forms psbt room h.before at ≡ Ok h.rest → InMap psbt pair.1 (λ map. is (pair.0 ∷ map))
      go zero whole = absurd cc
      go (suc room) whole = elim (pairs_at h.forms psbt room (h.before ++ pair.0 ∷ []) pair.1) as
          (λ r. pairs_at h.forms psbt room (h.before ++ pair.0 ∷ []) pair.1 ≡ r → InMap psbt pair.1 (λ map. is (pair.0 ∷ map))) [
            | Ok rest ↦ λ there.
                let whole_is : h.rest.0 ≡ pair.0 ∷ rest.0 = grind arith in
                record { forms = h.forms; room = room; before = h.before ++ pair.0 ∷ []; rest = rest; read = there; said = rw (← whole_is) h.said }
            | Err refusal ↦ λ there. absurd (grind arith)
          ] refl

-- no map begins behind the bytes
pub past : (forms : ℕ → Form) (psbt : Bytes) (from : ℕ) (map : Map × ℕ) → length psbt < from → map_at forms psbt from ≡ Ok map → ⊥
unfolding pairs_at size_at read_size
past forms psbt from map less e = let none = drop_all from psbt (omega arith) in grind arith

-- ---- the pair of a type

pub value_here : (type : ℕ) (pair : Pair) (map : Map) → type_of pair.key ≡ type → value_of_type type (pair ∷ map) ≡ Some pair.value
value_here type pair map e = grind arith

pub value_next : (type : ℕ) (pair : Pair) (map : Map) → (type_of pair.key ≡ type → ⊥) → value_of_type type (pair ∷ map) ≡ value_of_type type map
value_next type pair map other = grind arith

pub some_pair : (o : Option Pair) (value : Bytes) → option_map (λ (pair : Pair). pair.value) o ≡ Some value → true ≡ is_some o
some_pair (Some pair) value e = refl
some_pair None value e = absurd cc

pub no_pair_there : (o : Option Pair) → option_map (λ (pair : Pair). pair.value) o ≡ None → false ≡ is_some o
no_pair_there (Some pair) e = absurd cc
no_pair_there None e = refl

-- where no pair has a type between two, none has one of these
pub none_between : (first last type at : ℕ) (map : Map) → (nat_le first type && nat_le type last) ≡ true → place_of first last at map ≡ None → is_some (pair_of_type type map) ≡ false
none_between first last type at [] within none = refl
none_between first last type at (pair ∷ map) within none =
    let again : place_of first last (at + length (pair_text pair)) map ≡ None → is_some (pair_of_type type map) ≡ false =
    none_between first last type (at + length (pair_text pair)) map within in
    grind (arith, again)

-- it has that type, and nothing wrong
pub no_fault : (forms : ℕ → Form) (psbt : Bytes) (type room : ℕ) (before : Map) (at : ℕ) (rest : Map × ℕ) (pair : Pair) → pairs_at forms psbt room before at ≡ Ok rest
    → pair_of_type type rest.0 ≡ Some pair → (type_of pair.key ≡ type) × (shape_fault forms pair ≡ None)
unfolding pairs_at sound_pair_at pair_fault
no_fault forms psbt type zero before at rest pair e there = absurd cc
no_fault forms psbt type (suc room) before at rest pair e there =
    let again : (before : Map) (at : ℕ) (rest : Map × ℕ) → pairs_at forms psbt room before at ≡ Ok rest → pair_of_type type rest.0 ≡ Some pair
    → (type_of pair.key ≡ type) × (shape_fault forms pair ≡ None) = λ before at rest. no_fault forms psbt type room before at rest pair in
    grind (arith, again)

-- ---- the place of a pair

pub pair_long : (psbt : Bytes) (at : ℕ) (pair : Pair × ℕ) → IsBytes psbt → pair_at psbt at ≡ Ok pair → pair.1 ≡ at + length (pair_text pair.0)
pair_long psbt at pair fits e = (pair_from psbt at pair fits e).0.long

pub place_at_once : (first last at : ℕ) (pair : Pair) (map : Map) → (nat_le first (type_of pair.key) && nat_le (type_of pair.key) last) ≡ true → place_of first last at (pair ∷ map) ≡ Some at
place_at_once first last at pair map is = rw is refl

pub place_next : (first last at next : ℕ) (pair : Pair) (map : Map) → next ≡ at + length (pair_text pair) → (nat_le first (type_of pair.key) && nat_le (type_of pair.key) last) ≡ false
    → place_of first last at (pair ∷ map) ≡ place_of first last next map
place_next first last at next pair map n other = rw (other, n) refl
