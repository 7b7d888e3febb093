-- Where the maps of inputs stand, and which bytes they are.
use Rattle.std.proofs.Common.{◌≡◌, ℕ, zero, suc, min, ◌+◌, ◌-◌, ◌^◌, ◌<◌, ◌≤◌, true, List, [], ◌∷◌, ◌++◌, length, length-append, take, drop, get_or, Some, None, Result, Ok, refl, sym, ap, subst, ◌∙◌, append_assoc, arith}
use Rattle.std.proofs.lemmas.List.{length-take, take_at, drop_at}
use Rattle.std.proofs.lemmas.List.Concat.{flat_map-cons}
use Rattle.std.proofs.lemmas.Slice.Eq.{bytes_eq-Decides}
use Rattle.std.specs.List.{flat_map}
use Rattle.std.specs.Prelude.{slice_get}
use Rattle.def_script.specs.Bytes.{Bytes, IsBytes}
use Rattle.def_psbt.specs.Forms.{is_unsigned}
use Rattle.def_psbt.specs.Laws.{IsSoundMap}
use Rattle.def_psbt.specs.Listed.{Form, shape_fault, pair_fault, global_form}
use Rattle.def_psbt.specs.Map.{Pair, Map, type_of, magic, map_text, pair_of_type}
use Rattle.def_psbt.specs.declared.Refusal.{Refusal}
use Rattle.def_psbt.specs.Reading.{Rules, whole_map_at, maps_at}
use Rattle.def_psbt.specs.Source.{has_magic}
use Rattle.def_psbt.specs.TransactionReading.{transaction_of}
use Rattle.def_psbt.proofs.Reading.{From, whole_from}
use Rattle.ms_psbt.specs.Scaffolding.Kept.{places_of}
use Rattle.ms_psbt.specs.Scaffolding.Maps.{Placed}
use Rattle.ms_psbt.specs.Scaffolding.Walks.{starts_behind, starts_from}

-- ---- what was read ends behind its bytes

ok_is : {A : Type 0} (x y : A) → (let ok : Result A Refusal = Ok x in ok) ≡ Ok y → x ≡ y
ok_is x y e = cc

pub ends_behind : (psbt : Bytes) (at : ℕ) (map : Map) (next : ℕ) → From psbt at (map_text map) next → next ≡ at + length (map_text map)
ends_behind psbt at map next h = h.long

-- ---- the places of maps that were read

module _ (rules : Rules) (psbt : Bytes) (fits : IsBytes psbt) (small : length psbt < 2 ^ 64) where
  map_then : (count at : ℕ) (maps : List Map × ℕ) → maps_at rules psbt (suc count) at ≡ Ok maps
      → (m : Map × ℕ) × (whole_map_at rules psbt at ≡ Ok m) × (r : List Map × ℕ) × (maps_at rules psbt count m.1 ≡ Ok r) × ((m.0 ∷ r.0, r.1) ≡ maps)
  unfolding maps_at
  map_then count at maps e = grind arith

  map_long : (at : ℕ) (m : Map × ℕ) → whole_map_at rules psbt at ≡ Ok m → m.1 ≡ at + length (map_text m.0)
  map_long at m e = (whole_from rules psbt at m fits small e).0.long

  pub places_are : (count at : ℕ) (maps : List Map × ℕ) → maps_at rules psbt count at ≡ Ok maps → starts_from rules psbt count at ++ maps.1 ∷ [] ≡ places_of at maps.0
  unfolding maps_at starts_from
  places_are zero at maps e = grind arith
  places_are (suc count) at maps e =
      let m = map_then count at maps e in
      let next = map_long at m.0 m.1 in
      let others = places_are count m.0.1 m.2 m.3 in
      grind (arith, m.1, m.4, next, others)

  pub maps_count : (count at : ℕ) (maps : List Map × ℕ) → maps_at rules psbt count at ≡ Ok maps → length maps.0 ≡ count
  unfolding maps_at
  maps_count zero at maps e = ap (λ (m : List Map × ℕ). length m.0) (sym (ok_is ([], at) maps e))
  maps_count (suc count) at maps e =
      let m = map_then count at maps e in
      ap (λ (m : List Map × ℕ). length m.0) (sym m.4) ∙ ap suc (maps_count count m.0.1 m.2 m.3)

  pub maps_placed : (count at : ℕ) (maps : List Map × ℕ) → maps_at rules psbt count at ≡ Ok maps → Placed rules psbt at (starts_from rules psbt count at) maps.0
  unfolding maps_at starts_from
  maps_placed zero at maps e = subst (λ (m : List Map × ℕ). Placed rules psbt at [] m.0) (ok_is ([], at) maps e) tt
  maps_placed (suc count) at maps e =
      let m = map_then count at maps e in
      let others : Placed rules psbt m.0.1 (starts_from rules psbt count m.0.1) m.2.0 = maps_placed count m.0.1 m.2 m.3 in
      let is : starts_from rules psbt (suc count) at ≡ at ∷ starts_from rules psbt count m.0.1 = ap (λ r. at ∷ starts_behind r (starts_from rules psbt count)) m.1 in
      subst (λ (places : List ℕ). Placed rules psbt at places maps.0) (sym is)
      (subst (λ (x : List Map × ℕ). Placed rules psbt at (at ∷ starts_from rules psbt count m.0.1) x.0) m.4
      (refl, record { end = m.0.1; read = m.1 }, subst (λ (n : ℕ). Placed rules psbt n (starts_from rules psbt count m.0.1) m.2.0) (map_long at m.0 m.1) others))

-- ---- the bytes of a map at its place

pub record MapAt (bytes : Bytes) (from to : ℕ) (maps : List Map) (k : ℕ) : Type 0 where
  pub map : Map
  pub is : slice_get maps k ≡ Some map
  pub up : from ≤ to
  pub inside : to ≤ length bytes
  pub text : take (to - from) (drop from bytes) ≡ map_text map

pub first_place : (at : ℕ) (maps : List Map) → get_or (places_of at maps) 0 0 ≡ at
first_place at [] = refl
first_place at (map ∷ maps) = refl

pub many_places : (at : ℕ) (maps : List Map) → length (places_of at maps) ≡ suc (length maps)
many_places at [] = refl
many_places at (map ∷ maps) = ap suc (many_places (at + length (map_text map)) maps)

pub last_place : (at : ℕ) (maps : List Map) → get_or (places_of at maps) (length maps) 0 ≡ at + length (flat_map map_text maps)
last_place at [] = omega arith
last_place at (map ∷ maps) =
    omega (
      arith,
      last_place (at + length (map_text map)) maps,
      ap length (flat_map-cons map_text map maps),
      length-append (map_text map)
          (flat_map map_text maps),
    )

map_first : (front : Bytes) (map : Map) (back : Bytes) (maps : List Map) → MapAt (front ++ (map_text map ++ back)) (length front) (length front + length (map_text map)) (map ∷ maps) zero
map_first front map back maps =
    let size : length front + length (map_text map) - length front ≡ length (map_text map) = omega arith in
    record {
      map = map;
      is = refl;
      up = omega arith;
      inside = omega (arith, length-append front (map_text map ++ back), length-append (map_text map) back);
      text = rw (drop_at front (map_text map ++ back) (length front) refl, size) (take_at (map_text map) back (length (map_text map)) refl);
    }

pub map_place : (front : Bytes) (maps : List Map) (back : Bytes) (k : ℕ) → k < length maps
    → MapAt (front ++ (flat_map map_text maps ++ back)) (get_or (places_of (length front) maps) k 0) (get_or (places_of (length front) maps) (suc k) 0) maps k
map_place front [] back k inside = absurd (omega arith)
map_place front (map ∷ maps) back zero inside =
    rw (first_place (length front + length (map_text map)) maps, flat_map-cons map_text map maps, append_assoc (map_text map) (flat_map map_text maps) back)
    (map_first front map (flat_map map_text maps ++ back) maps)
map_place front (map ∷ maps) back (suc k) inside =
    let text : (front ++ map_text map) ++ (flat_map map_text maps ++ back) ≡ front ++ (flat_map map_text (map ∷ maps) ++ back) =
    simp append_assoc in
    let m = rw (length-append front (map_text map), text) at (map_place (front ++ map_text map) maps back k (omega arith)) in
    record { map = m.map; is = m.is; up = m.up; inside = m.inside; text = m.text }

-- ---- the transaction

-- the magic has five bytes
pub magic_long : (bytes : Bytes) → has_magic bytes ≡ true → 5 ≤ length bytes
magic_long bytes e =
    let same : take 5 bytes ≡ magic = (bytes_eq-Decides (take 5 bytes) magic).0 e in
    let long : min 5 (length bytes) ≡ 5 = sym (length-take 5 bytes) ∙ ap length same in
    omega arith

-- the pair of a type has that type, and nothing wrong
pub sound_of_type : (forms : ℕ → Form) (type : ℕ) (before map : Map) (pair : Pair) → IsSoundMap forms before map → pair_of_type type map ≡ Some pair
    → (type_of pair.key ≡ type) × (shape_fault forms pair ≡ None)
unfolding pair_fault
sound_of_type forms type before [] pair sound e = absurd cc
sound_of_type forms type before (first ∷ map) pair sound e = let again = sound_of_type forms type (before ++ first ∷ []) map pair sound.1 in grind
    (arith, again, sound.0.fault)

pub unsigned_value : (pair : Pair) → type_of pair.key ≡ 0 → shape_fault global_form pair ≡ None → is_unsigned (transaction_of pair.value) ≡ true
unfolding shape_fault global_form
unsigned_value pair z e = grind arith
