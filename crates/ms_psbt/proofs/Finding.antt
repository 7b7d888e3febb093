-- Values of several types, found on one walk.
use Rattle.std.proofs.Common.{◌≡◌, ℕ, ◌==◌, ◌&&◌, ◌||◌, nat_le, Bool, true, false, [], ◌∷◌, is_some, Option, Some, None, if◌then◌else◌, Bor, refl, sym, ap, ◌∙◌, arith}
use Rattle.def_script.specs.Bytes.{Bytes}
use Rattle.def_psbt.specs.Fields.{has_lock}
use Rattle.def_psbt.specs.Map.{Pair, Map, type_of, pair_of_type, value_of_type}
use Rattle.ms_psbt.specs.Seen.{IsPart}
use Rattle.ms_psbt.specs.Scaffolding.Found.{found_before}
use Rattle.ms_psbt.proofs.Fielding.{value_next}

-- the value of a type in a map is what was found, or else stands in what is left of the map
abbrev pub IsSought : (type : ℕ) → Option (Bor Bytes) → (map rest : Map) → Type 0
IsSought type found map rest = found_before found (value_of_type type rest) ≡ value_of_type type map

-- at the end of the map it is what was found
pub all_found : (type : ℕ) (found : Option (Bor Bytes)) (map : Map) → IsSought type found map [] → IsPart (λ value. value.now) found (value_of_type type map)
all_found type (Some value) map h = sym h
all_found type None map h = sym h

-- the value of the pair in front, where that is of the type, or else that of the others
pub value_first : (type : ℕ) (pair : Pair) (rest : Map) → value_of_type type (pair ∷ rest) ≡ (if type_of pair.key == type then Some pair.value else value_of_type type rest)
value_first type pair rest = grind arith

pub sought_on : (type : ℕ) (old new : Option (Bor Bytes)) (is_one : Bool) (value : Bytes) (pair : Pair) (map rest : Map) → is_one ≡ (type_of pair.key == type) → value ≡ pair.value
    → ((later : Option Bytes) → found_before new later ≡ found_before old (if is_one then Some value else later)) → IsSought type old map (pair ∷ rest) → IsSought type new map rest
sought_on type old new is_one value pair map rest one is found h =
    found (value_of_type type rest) ∙ ap (λ (b : Bool). found_before old (if b then Some value else value_of_type type rest)) one
    ∙ ap (λ (v : Bytes). found_before old (if type_of pair.key == type then Some v else value_of_type type rest)) is
    ∙ ap (found_before old) (sym (value_first type pair rest)) ∙ h

-- a pair of another type isn't it
pub sought_past : (type : ℕ) (found : Option (Bor Bytes)) (pair : Pair) (map rest : Map) → (type_of pair.key ≡ type → ⊥) → IsSought type found map (pair ∷ rest) → IsSought type found map rest
sought_past type found pair map rest other h = ap (found_before found) (sym (value_next type pair rest other)) ∙ h

-- ---- whether a type stands in a map

-- the pair in front is of the type, or one of the others is
pub type_first : (type : ℕ) (pair : Pair) (rest : Map) → is_some (pair_of_type type (pair ∷ rest)) ≡ (type_of pair.key == type || is_some (pair_of_type type rest))
type_first type pair rest = grind arith

pub or_assoc : (one two three : Bool) → ((one || two) || three) ≡ (one || (two || three))
or_assoc true two three = refl
or_assoc false two three = refl

pub seen_on : (type : ℕ) (old new : Bool) (key_type : ℕ) (pair : Pair) (rest : Map) (total : Bool) → key_type ≡ type_of pair.key → new ≡ (old || key_type == type)
    → (old || is_some (pair_of_type type (pair ∷ rest))) ≡ total → (new || is_some (pair_of_type type rest)) ≡ total
seen_on type old new key_type pair rest total is found h =
    ap (λ (b : Bool). b || is_some (pair_of_type type rest)) (found ∙ ap (λ (t : ℕ). old || t == type) is) ∙ or_assoc old (type_of pair.key == type) (is_some (pair_of_type type rest))
    ∙ ap (λ (b : Bool). old || b) (sym (type_first type pair rest)) ∙ h

pub or_none : (one : Bool) → (one || false) ≡ one
or_none true = refl
or_none false = refl

pub both_seen : (result one two first second : Bool) → result ≡ (one && two) → (one || false) ≡ first → (two || false) ≡ second → result ≡ (first && (second && true))
both_seen result one two first second is a b =
    is ∙ ap (λ (x : Bool). x && two) (sym (or_none one) ∙ a) ∙ ap (λ (x : Bool). first && x) (sym (or_none two) ∙ b ∙ sym (and_true second))
  where
    and_true : (x : Bool) → (x && true) ≡ x
    and_true true = refl
    and_true false = refl

-- ---- what an input's map says

-- what its map says was found, or else stands in what is left of it
abbrev pub AreSought : (id index sequence : Option (Bor Bytes)) (is_locked : Bool) (map rest : Map) → Type 0
AreSought id index sequence is_locked map rest = IsSought 0x0e id map rest × IsSought 0x0f index map rest × IsSought 0x10 sequence map rest
    × ((is_locked || has_lock rest) ≡ has_lock map)

pub fields_found : (id index sequence : Option (Bor Bytes)) (is_locked : Bool) (map : Map) → AreSought id index sequence is_locked map []
    → IsPart (λ value. value.now) id (value_of_type 0x0e map) × IsPart (λ value. value.now) index (value_of_type 0x0f map)
    × IsPart (λ value. value.now) sequence (value_of_type 0x10 map) × (is_locked ≡ has_lock map)
fields_found id index sequence is_locked map h = (all_found 0x0e id map h.0, all_found 0x0f index map h.1, all_found 0x10 sequence map h.2, sym (or_none is_locked) ∙ h.3)

not_same : (a b : ℕ) → (a ≡ b → ⊥) → (a == b) ≡ false
not_same a b other = grind arith

-- a pair whose type isn't between the two has none of these
outside : (key_type type : ℕ) (pair : Pair) → key_type ≡ type_of pair.key → (nat_le 0x0e key_type && nat_le key_type 0x12) ≡ false → (nat_le 0x0e type && nat_le type 0x12) ≡ true
    → type_of pair.key ≡ type → ⊥
outside key_type type pair is out within e =
    let both : true ≡ false = sym within ∙ ap (λ (t : ℕ). nat_le 0x0e t && nat_le t 0x12) (sym e ∙ sym is) ∙ out in
    cc

none_first : (type : ℕ) (pair : Pair) (rest : Map) → (type_of pair.key ≡ type → ⊥) → is_some (pair_of_type type rest) ≡ is_some (pair_of_type type (pair ∷ rest))
none_first type pair rest other = sym (type_first type pair rest ∙ ap (λ (b : Bool). b || is_some (pair_of_type type rest)) (not_same (type_of pair.key) type other))

-- a pair of another type is passed over
pub fields_past : (id index sequence : Option (Bor Bytes)) (is_locked : Bool) (key_type : ℕ) (pair : Pair) (map rest : Map) → key_type ≡ type_of pair.key
    → (nat_le 0x0e key_type && nat_le key_type 0x12) ≡ false → AreSought id index sequence is_locked map (pair ∷ rest) → AreSought id index sequence is_locked map rest
fields_past id index sequence is_locked key_type pair map rest is out h = (
  sought_past 0x0e id pair map rest (outside key_type 0x0e pair is out refl) h.0,
  sought_past 0x0f index pair map rest (outside key_type 0x0f pair is out refl) h.1,
  sought_past 0x10 sequence pair map rest (outside key_type 0x10 pair is out refl) h.2,
  ap (λ (b : Bool). is_locked || (b || is_some (pair_of_type 0x12 rest))) (none_first 0x11 pair rest (outside key_type 0x11 pair is out refl))
      ∙ ap (λ (b : Bool). is_locked || (is_some (pair_of_type 0x11 (pair ∷ rest)) || b)) (none_first 0x12 pair rest (outside key_type 0x12 pair is out refl)) ∙ h.3,
)

-- a pair is looked at
pub lock_first : (old new : Bool) (key_type : ℕ) (pair : Pair) (rest : Map) (total : Bool) → key_type ≡ type_of pair.key → new ≡ (old || (key_type == 0x11 || key_type == 0x12))
    → (old || has_lock (pair ∷ rest)) ≡ total → (new || has_lock rest) ≡ total
lock_first old new key_type pair rest total is found h =
    ap (λ (b : Bool). b || has_lock rest) (found ∙ ap (λ (t : ℕ). old || (t == 0x11 || t == 0x12)) is)
    ∙ together old (type_of pair.key == 0x11) (type_of pair.key == 0x12) (is_some (pair_of_type 0x11 rest)) (is_some (pair_of_type 0x12 rest))
    ∙ ap (λ (b : Bool). old || (b || (type_of pair.key == 0x12 || is_some (pair_of_type 0x12 rest)))) (sym (type_first 0x11 pair rest))
    ∙ ap (λ (b : Bool). old || (is_some (pair_of_type 0x11 (pair ∷ rest)) || b)) (sym (type_first 0x12 pair rest)) ∙ h
  where
    together : (old a b c d : Bool) → ((old || (a || b)) || (c || d)) ≡ (old || ((a || c) || (b || d)))
    together true a b c d = refl
    together false true b c d = refl
    together false false true true d = refl
    together false false true false d = refl
    together false false false c d = refl
