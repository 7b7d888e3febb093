-- A loop over maps at their places.
use Rattle.std.proofs.Common.{◌≡◌, ℕ, zero, suc, ◌+◌, ◌<◌, ◌≤◌, List, [], ◌∷◌, length, drop, get_or, refl, sym, ap, subst, ◌∙◌, arith}
use Rattle.std.proofs.lemmas.List.{drop_all}
use Rattle.def_script.specs.Bytes.{Bytes}
use Rattle.def_psbt.specs.Map.{Map, map_text}
use Rattle.def_psbt.specs.Reading.{Rules}
use Rattle.ms_psbt.specs.Scaffolding.Maps.{IsMapAt, Placed}

-- the maps that are left from a number on, and what is said of them and of the place of the first
pub record Left (rules : Rules) (psbt : Bytes) (places : List ℕ) (i : ℕ) (is : ℕ → List Map → Type 0) : Type 0 where
  pub at : ℕ
  pub maps : List Map
  pub placed : Placed rules psbt at (drop i places) maps
  pub said : is at maps

-- the next one
pub record Next (rules : Rules) (psbt : Bytes) (places : List ℕ) (i : ℕ) (is : ℕ → List Map → Type 0) : Type 0 where
  pub map : Map
  pub rest : List Map
  pub here : IsMapAt rules psbt (get_or places i 0) map
  pub said : is (get_or places i 0) (map ∷ rest)
  pub placed : Placed rules psbt (get_or places i 0 + length (map_text map)) (drop (i + 1) places) rest

dropped : (places : List ℕ) (i : ℕ) → i < length places → drop i places ≡ get_or places i 0 ∷ drop (suc i) places
dropped [] i less = absurd (omega arith)
dropped (place ∷ places) zero less = refl
dropped (place ∷ places) (suc i) less = dropped places i (omega arith)

pub next_map : (rules : Rules) (psbt : Bytes) (places : List ℕ) (i : ℕ) (is : ℕ → List Map → Type 0) → Left rules psbt places i is → i < length places → Next rules psbt places i is
next_map rules psbt places i is h less =
    go h.maps (subst (λ (ps : List ℕ). Placed rules psbt h.at ps h.maps) (dropped places i less ∙ ap (λ (n : ℕ). get_or places i 0 ∷ drop n places) same) h.placed) h.said
  where
    same : suc i ≡ i + 1
    same = omega arith

    go : (maps : List Map) → Placed rules psbt h.at (get_or places i 0 ∷ drop (i + 1) places) maps → is h.at maps → Next rules psbt places i is
    go [] placed said = absurd placed
    go (map ∷ maps) placed said = record {
      map = map;
      rest = maps;
      here = placed.1;
      said = subst (λ (n : ℕ). is n (map ∷ maps)) (sym placed.0) said;
      placed = subst (λ (n : ℕ). Placed rules psbt (n + length (map_text map)) (drop (i + 1) places) maps) (sym placed.0) placed.2;
    }

pub no_map : (rules : Rules) (psbt : Bytes) (places : List ℕ) (i : ℕ) (is : ℕ → List Map → Type 0) → Left rules psbt places i is → length places ≤ i → (at : ℕ) × is at []
no_map rules psbt places i is h past = go h.maps (subst (λ (ps : List ℕ). Placed rules psbt h.at ps h.maps) (drop_all i places past) h.placed) h.said
  where
    go : (maps : List Map) → Placed rules psbt h.at [] maps → is h.at maps → (at : ℕ) × is at []
    go [] placed said = (h.at, said)
    go (map ∷ maps) placed said = absurd placed

pub all_maps : (rules : Rules) (psbt : Bytes) (at : ℕ) (places : List ℕ) (maps : List Map) → Placed rules psbt at places maps → length places ≡ length maps
all_maps rules psbt at [] [] placed = refl
all_maps rules psbt at [] (map ∷ maps) placed = absurd placed
all_maps rules psbt at (place ∷ places) [] placed = absurd placed
all_maps rules psbt at (place ∷ places) (map ∷ maps) placed = ap suc (all_maps rules psbt (at + length (map_text map)) places maps placed.2)
