-- A walk over the pairs of a map, and the first key that stands twice, come to what the map gives.
use Rattle.std.proofs.Common.{◌≡◌, ℕ, zero, suc, ◌+◌, ◌-◌, ◌<◌, ◌≤◌, ◌||◌, true, false, List, [], ◌∷◌, ◌++◌, length, map, Option, Result, Ok, Err, refl, sym, ap, ◌∙◌, arith}
use Rattle.std.proofs.lemmas.List.{map-append}
use Rattle.std.specs.List.{list_any}
use Rattle.std.specs.Str.{bytes_eq}
use Rattle.def_script.specs.Bytes.{Bytes}
use Rattle.def_psbt.specs.declared.PsbtFault.TheVariants.{NoTransaction}
use Rattle.def_psbt.specs.declared.Refusal.{Refusal}
use Rattle.def_psbt.specs.declared.Refusal.TheVariants.{At}
use Rattle.def_psbt.specs.Map.{Pair, Map, has_types}
use Rattle.def_psbt.specs.Listed.{Form, stands, pair_fault}
use Rattle.def_psbt.specs.Reading.{◌>>=◌, Read, pair_at, sound_pair_at, pairs_at, map_at, Rules, whole_map_at, maps_at}
use Rattle.ms_psbt.specs.declared.maps.Step.TheVariants as step
use Rattle.ms_psbt.specs.declared.repeats.Marked.{Marked}
use Rattle.ms_psbt.specs.declared.repeats.Keys.TheVariants as keys
use Rattle.ms_psbt.specs.declared.stop.ReadStop.{ReadStop}
use Rattle.ms_psbt.specs.Seen.{ReadsOr}
use Rattle.ms_psbt.specs.Scaffolding.Repeats.{key_at, marked, repeat_in}
use Rattle.ms_psbt.specs.Scaffolding.Walks.{step_at, Walk, walk_from, walk_of, repeated_or, end_of, starts_from}

-- the key of a pair that is read at a place
pub key_of_pair : (psbt : Bytes) (at : ℕ) (read : Pair × ℕ) → pair_at psbt at ≡ Ok read → key_at keys.Pairs psbt at ≡ read.0.key
unfolding pair_at
key_of_pair psbt at read e = grind arith

pub fault_marked : (forms : ℕ → Form) (psbt : Bytes) (at : ℕ) (place : Marked) (refusal : Refusal) → step_at forms psbt at ≡ step.Fault place refusal
    → place ≡ marked (key_at keys.Pairs psbt at) at
fault_marked forms psbt at place refusal e = grind (arith, key_of_pair psbt at)

pub pair_marked : (forms : ℕ → Form) (psbt : Bytes) (at : ℕ) (place : Marked) (end : ℕ) → step_at forms psbt at ≡ step.Pair place end
    → place ≡ marked (key_at keys.Pairs psbt at) at
pair_marked forms psbt at place end e = grind (arith, key_of_pair psbt at)

abbrev keys_of : Map → List Bytes
keys_of before = map (λ (pair : Pair). pair.key) before

stands_in : (key : Bytes) (before : Map) → stands key before ≡ list_any (bytes_eq key) (keys_of before)
stands_in key [] = refl
stands_in key (pair ∷ before) = ap (λ b. bytes_eq key pair.key || b) (stands_in key before)

-- what a walk comes to behind some keys
abbrev pub comes_to : (psbt : Bytes) → (before : List Bytes) → Walk → Result ℕ Refusal
comes_to psbt before walk = repeated_or (repeat_in keys.Pairs psbt before walk.places) walk.outcome

pub walk_is : (forms : ℕ → Form) (psbt : Bytes) (room : ℕ) (before : Map) (at : ℕ)
    → end_of (pairs_at forms psbt room before at) ≡ comes_to psbt (keys_of before) (walk_from forms psbt room at)
unfolding pairs_at walk_from sound_pair_at pair_fault repeat_in
walk_is forms psbt zero before at = refl
walk_is forms psbt (suc room) before at =
    let again : (pair : Pair) (at : ℕ) → end_of (pairs_at forms psbt room (before ++ pair ∷ []) at)
    ≡ comes_to psbt (keys_of before ++ pair.key ∷ []) (walk_from forms psbt room at) =
    λ pair at. walk_is forms psbt room (before ++ pair ∷ []) at
    ∙ ap (λ keys. comes_to psbt keys (walk_from forms psbt room at)) (map-append (λ (pair : Pair). pair.key) before (pair ∷ [])) in
    let key = key_of_pair psbt at in
    let seen : (key : Bytes) → stands key before ≡ list_any (bytes_eq key) (keys_of before) = λ key. stands_in key before in
    grind (arith, again, key, seen)

-- what a map comes to by a walk and the first key that stands twice there
pub map_walked : (forms : ℕ → Form) (psbt : Bytes) (at : ℕ) (places : List ℕ) (outcome : Result ℕ Refusal) (r : Option ℕ)
    → walk_of places outcome ≡ walk_from forms psbt (suc (length psbt)) at → r ≡ repeat_in keys.Pairs psbt [] places → end_of (map_at forms psbt at) ≡ repeated_or r outcome
map_walked forms psbt at places outcome r e f =
    walk_is forms psbt (suc (length psbt)) [] at ∙ ap (comes_to psbt []) (sym e) ∙ ap (λ (o : Option ℕ). repeated_or o outcome) (sym f)

-- ---- maps, one after the other

pub ended_at : {A : Type 0} (read : Read A) (end : ℕ) → end_of read ≡ Ok end → (x : A) × (read ≡ Ok (x, end))
ended_at (Ok (x, n)) end e = (x, cc)
ended_at (Err refusal) end e = absurd cc

module _ (rules : Rules) (psbt : Bytes) (count i at : ℕ) where
  pub maps_next : i < count → end_of (maps_at rules psbt (count - i) at)
      ≡ (end_of (whole_map_at rules psbt at) >>= λ next. end_of (maps_at rules psbt (count - (i + 1)) next))
  unfolding maps_at
  maps_next more = let one_more : count - i ≡ suc (count - (i + 1)) = omega arith in rw one_more (grind arith)

  pub maps_done : count ≤ i → end_of (maps_at rules psbt (count - i) at) ≡ Ok at
  unfolding maps_at
  maps_done none = let no_more : count - i ≡ 0 = omega arith in rw no_more refl

  pub starts_next : (next : ℕ) → i < count → end_of (whole_map_at rules psbt at) ≡ Ok next
      → starts_from rules psbt (count - i) at ≡ at ∷ starts_from rules psbt (count - (i + 1)) next
  unfolding starts_from
  starts_next next more e = let one_more : count - i ≡ suc (count - (i + 1)) = omega arith in rw one_more (grind arith)

  pub starts_done : count ≤ i → starts_from rules psbt (count - i) at ≡ []
  unfolding starts_from
  starts_done none = let no_more : count - i ≡ 0 = omega arith in rw no_more refl

  -- any stop of a map is that of the maps
  pub maps_stop : (why : ReadStop) (total : Result ℕ Refusal) → i < count → ReadsOr (λ (end : ℕ). end) (Err why) (end_of (whole_map_at rules psbt at))
      → end_of (maps_at rules psbt (count - i) at) ≡ total → ReadsOr (λ (end : ℕ). end) (Err why) total
  maps_stop why total more read so_far = grind (arith, maps_next)

-- ---- a map in which the types stand that have to, and one in which one doesn't

module _ (rules : Rules) (psbt : Bytes) (at end : ℕ) (e : end_of (map_at rules.forms psbt at) ≡ Ok end) where
  pub has_all : ((map : Map × ℕ) → map_at rules.forms psbt at ≡ Ok map → true ≡ has_types rules.needed map.0) → end_of (whole_map_at rules psbt at) ≡ Ok end
  has_all h = let m = ended_at (map_at rules.forms psbt at) end e in grind (arith, m.1, h (m.0, end) m.1)

  pub lacks_one : ((map : Map × ℕ) → map_at rules.forms psbt at ≡ Ok map → false ≡ has_types rules.needed map.0) → end_of (whole_map_at rules psbt at) ≡ Err (At NoTransaction (end - 1))
  lacks_one h = let m = ended_at (map_at rules.forms psbt at) end e in grind (arith, m.1, h (m.0, end) m.1)

pub map_stop : (rules : Rules) (psbt : Bytes) (at : ℕ) (why : ReadStop) → ReadsOr (λ (end : ℕ). end) (Err why) (end_of (map_at rules.forms psbt at))
    → ReadsOr (λ (end : ℕ). end) (Err why) (end_of (whole_map_at rules psbt at))
map_stop rules psbt at why h = grind arith
