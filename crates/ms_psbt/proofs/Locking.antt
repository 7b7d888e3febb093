-- Values of fields with nothing wrong, and lock times one after the other.
use Rattle.std.proofs.Common.{◌≡◌, ℕ, suc, ◌+◌, ◌⊎◌, ◌&&◌, ◌||◌, max, Bool, true, false, is_some, List, [], ◌∷◌, length, Option, Some, None, option_map, Ok, refl, sym, ap, ◌∙◌, inl, inr, arith}
use Rattle.std.specs.List.{list_any}
use Rattle.def_script.specs.Bytes.{Bytes}
use Rattle.def_psbt.specs.declared.PsbtVersion.TheVariants as version
use Rattle.def_psbt.specs.Listed.{Form, global_form, input_form, output_form, shape_fault}
use Rattle.def_psbt.specs.Map.{Pair, Map, type_of, map_text, pair_of_type, value_of_type, has_types}
use Rattle.def_psbt.specs.Fields.{has_lock, has_time_alone, has_height_alone}
use Rattle.def_psbt.specs.Reading.{Rules, map_at, whole_map_at, place_of, unserved_at}
use Rattle.ms_psbt.specs.declared.locks.Lock.{Lock}
use Rattle.ms_psbt.specs.declared.locks.Lock.TheVariants as lock
use Rattle.ms_psbt.specs.Scaffolding.Locks.{is_meant}
use Rattle.ms_psbt.proofs.Fielding.{no_fault, none_between}
use Rattle.ms_psbt.proofs.Finding.{or_assoc}

-- the pair whose value was found
pub record Found (forms : ℕ → Form) (type : ℕ) (value : Bytes) : Type 0 where
  pub pair : Pair
  pub is : pair.value ≡ value
  pub type_is : type_of pair.key ≡ type
  pub sound : shape_fault forms pair ≡ None

pub found_in : (forms : ℕ → Form) (psbt : Bytes) (from : ℕ) (map : Map × ℕ) (type : ℕ) (value : Bytes) → map_at forms psbt from ≡ Ok map
    → value_of_type type map.0 ≡ Some value → Found forms type value
found_in forms psbt from map type value e there = go (pair_of_type type map.0) refl there
  where
    go : (o : Option Pair) → pair_of_type type map.0 ≡ o → option_map (λ (pair : Pair). pair.value) o ≡ Some value → Found forms type value
    go (Some pair) is e' =
        let s = no_fault forms psbt type (suc (length psbt)) [] from map pair e is in
        record { pair = pair; is = cc; type_is = s.0; sound = s.1 }
    go None is e' = absurd cc

-- ---- lengths of values

time_long : (pair : Pair) → type_of pair.key ≡ 0x11 → shape_fault (input_form version.Two) pair ≡ None → length pair.value ≡ 4
unfolding shape_fault input_form
time_long pair t e = grind arith

height_long : (pair : Pair) → type_of pair.key ≡ 0x12 → shape_fault (input_form version.Two) pair ≡ None → length pair.value ≡ 4
unfolding shape_fault input_form
height_long pair t e = grind arith

sequence_long : (pair : Pair) → type_of pair.key ≡ 0x10 → shape_fault (input_form version.Two) pair ≡ None → length pair.value ≡ 4
unfolding shape_fault input_form
sequence_long pair t e = grind arith

index_long : (pair : Pair) → type_of pair.key ≡ 0x0f → shape_fault (input_form version.Two) pair ≡ None → length pair.value ≡ 4
unfolding shape_fault input_form
index_long pair t e = grind arith

amount_long : (pair : Pair) → type_of pair.key ≡ 0x03 → shape_fault (output_form version.Two) pair ≡ None → length pair.value ≡ 8
unfolding shape_fault output_form
amount_long pair t e = grind arith

transaction_version_long : (pair : Pair) → type_of pair.key ≡ 0x02 → shape_fault global_form pair ≡ None → length pair.value ≡ 4
unfolding shape_fault global_form
transaction_version_long pair t e = grind arith

fallback_long : (pair : Pair) → type_of pair.key ≡ 0x03 → shape_fault global_form pair ≡ None → length pair.value ≡ 4
unfolding shape_fault global_form
fallback_long pair t e = grind arith

version_long : (pair : Pair) → type_of pair.key ≡ 0xfb → shape_fault global_form pair ≡ None → length pair.value ≡ 4
unfolding shape_fault global_form
version_long pair t e = grind arith

module _ (psbt : Bytes) (from : ℕ) (map : Map × ℕ) (value : Bytes) where
  pub locks_are_long : (type : ℕ) → (type ≡ 0x11) ⊎ (type ≡ 0x12) → map_at (input_form version.Two) psbt from ≡ Ok map → value_of_type type map.0 ≡ Some value → length value ≡ 4
  locks_are_long type which e there =
      let f = found_in (input_form version.Two) psbt from map type value e there in
      let is = f.is in
      elim which [
        | inl time ↦ ap length (sym is) ∙ time_long f.pair (f.type_is ∙ time) f.sound
        | inr height ↦ ap length (sym is) ∙ height_long f.pair (f.type_is ∙ height) f.sound
      ]

  pub sequence_is_long : map_at (input_form version.Two) psbt from ≡ Ok map → value_of_type 0x10 map.0 ≡ Some value → length value ≡ 4
  sequence_is_long e there = let f = found_in (input_form version.Two) psbt from map 0x10 value e there in ap length (sym f.is) ∙ sequence_long f.pair f.type_is f.sound

  pub index_is_long : map_at (input_form version.Two) psbt from ≡ Ok map → value_of_type 0x0f map.0 ≡ Some value → length value ≡ 4
  index_is_long e there = let f = found_in (input_form version.Two) psbt from map 0x0f value e there in ap length (sym f.is) ∙ index_long f.pair f.type_is f.sound

  pub amount_is_long : map_at (output_form version.Two) psbt from ≡ Ok map → value_of_type 0x03 map.0 ≡ Some value → length value ≡ 8
  amount_is_long e there = let f = found_in (output_form version.Two) psbt from map 0x03 value e there in ap length (sym f.is) ∙ amount_long f.pair f.type_is f.sound

  pub transaction_version_is_long : map_at global_form psbt from ≡ Ok map → value_of_type 0x02 map.0 ≡ Some value → length value ≡ 4
  transaction_version_is_long e there = let f = found_in global_form psbt from map 0x02 value e there in ap length (sym f.is) ∙ transaction_version_long f.pair f.type_is f.sound

  pub fallback_is_long : map_at global_form psbt from ≡ Ok map → value_of_type 0x03 map.0 ≡ Some value → length value ≡ 4
  fallback_is_long e there = let f = found_in global_form psbt from map 0x03 value e there in ap length (sym f.is) ∙ fallback_long f.pair f.type_is f.sound

  pub version_is_long : map_at global_form psbt from ≡ Ok map → value_of_type 0xfb map.0 ≡ Some value → length value ≡ 4
  version_is_long e there = let f = found_in global_form psbt from map 0xfb value e there in ap length (sym f.is) ∙ version_long f.pair f.type_is f.sound

-- a field that has to be there
pub has_value : (type : ℕ) (map : Map) → is_some (pair_of_type type map) ≡ true → (value : Bytes) × (value_of_type type map ≡ Some value)
has_value type map h = go (pair_of_type type map) refl h
  where
    go : (o : Option Pair) → pair_of_type type map ≡ o → is_some o ≡ true → (value : Bytes) × (value_of_type type map ≡ Some value)
    go (Some pair) is e = (pair.value, ap (option_map (λ (p : Pair). p.value)) is)
    go None is e = absurd cc

-- a whole map, without what has to stand in it
pub whole_is_map : (rules : Rules) (psbt : Bytes) (at : ℕ) (map : Map × ℕ) → whole_map_at rules psbt at ≡ Ok map → map_at rules.forms psbt at ≡ Ok map
whole_is_map rules psbt at map e = grind arith

pub needed_is : (rules : Rules) (psbt : Bytes) (at : ℕ) (map : Map × ℕ) → whole_map_at rules psbt at ≡ Ok map → has_types rules.needed map.0 ≡ true
needed_is rules psbt at map e = grind arith

-- ---- the greatest number

pub most_on : (most number rest total new : ℕ) → new ≡ max most number → max most (max number rest) ≡ total → max new rest ≡ total
most_on most number rest total new is e = omega arith

-- ---- one that is meant

pub any_here : (p : Map → Bool) (fields : Map) (rest : List Map) (total : Bool) → p fields ≡ true → list_any p (fields ∷ rest) ≡ total → true ≡ total
any_here p fields rest total is e = sym (ap (λ b. b || list_any p rest) is) ∙ e

pub any_next : (p : Map → Bool) (fields : Map) (rest : List Map) (total : Bool) → p fields ≡ false → list_any p (fields ∷ rest) ≡ total → list_any p rest ≡ total
any_next p fields rest total is e = sym (ap (λ b. b || list_any p rest) is) ∙ e

pub locked_on : (old one new : Bool) (fields : Map) (rest : List Map) (total : Bool) → new ≡ (old || one) → one ≡ has_lock fields → (old || list_any has_lock (fields ∷ rest)) ≡ total
    → (new || list_any has_lock rest) ≡ total
locked_on old one new fields rest total is here h =
    ap (λ (b : Bool). b || list_any has_lock rest) (is ∙ ap (λ (b : Bool). old || b) here) ∙ or_assoc old (has_lock fields) (list_any has_lock rest) ∙ h

-- an input that has neither a time nor a height isn't meant
pub no_lock : (which : Lock) (fields : Map) (at : ℕ) → place_of 0x11 0x12 at fields ≡ None → false ≡ is_meant which fields
no_lock which fields at none = by_lock which
  where
    by_lock : (which : Lock) → false ≡ is_meant which fields
    by_lock lock.TimeAlone = rw (none_between 0x11 0x12 0x11 at fields refl none) refl
    by_lock lock.HeightAlone = rw (none_between 0x11 0x12 0x12 at fields refl none) refl

-- ---- a map up to which no lock time serves all

pub unserved_here : (time height new_time new_height : Bool) (at : ℕ) (fields : Map) (rest : List Map) → new_time ≡ (time || has_time_alone fields) → new_height ≡ (height || has_height_alone fields)
    → (new_time && new_height) ≡ true → Some at ≡ unserved_at time height at (fields ∷ rest)
unserved_here time height new_time new_height at fields rest t h both = rw (← t, ← h, both) refl

pub unserved_next : (time height new_time new_height : Bool) (at : ℕ) (fields : Map) (rest : List Map) → new_time ≡ (time || has_time_alone fields) → new_height ≡ (height || has_height_alone fields)
    → (new_time && new_height) ≡ false → unserved_at time height at (fields ∷ rest) ≡ unserved_at new_time new_height (at + length (map_text fields)) rest
unserved_next time height new_time new_height at fields rest t h none = rw (← t, ← h, none) refl

-- where no input has a time or a height there is none
pub none_unserved : (at : ℕ) (inputs : List Map) → list_any has_lock inputs ≡ false → unserved_at false false at inputs ≡ None
none_unserved at [] none = refl
none_unserved at (fields ∷ rest) none =
    let later : (place : ℕ) → list_any has_lock rest ≡ false → unserved_at false false place rest ≡ None = λ place. none_unserved place rest in
    grind (arith, later)
